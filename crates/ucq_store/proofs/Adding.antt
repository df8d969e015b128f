-- A store stays lawful when a core that no live row covers becomes its last row.
use Rattle.std.proofs.Common.{◌≡◌, ◌≢◌, ℕ, ◌+◌, ◌<◌, ◌≤◌, inl, inr, refl, sym, ap, ◌∙◌, List, [], ◌∷◌, None, length, arith, subst}
use Rattle.std.proofs.lemmas.Bool.{cases_lt}
use Rattle.std.proofs.lemmas.List.{get_or_append_left, get_or_at, length-append}
use Rattle.ucq_terms.specs.Syntax.{Query}
use Rattle.ucq_terms.specs.Homomorphism.{Covers, IsCoreOf}
use Rattle.ucq_terms.specs.Rewriting.{IsOneStep}
use Rattle.ucq_store.specs.declared.RowState.{RowState}
use Rattle.ucq_store.specs.declared.RowState.TheVariants.{Waiting, Claimed, Done, Skipped}
use Rattle.ucq_antichain.specs.declared.Row.{Row}
use Rattle.ucq_antichain.specs.Rows.{query_at, SomeLiveCovers, IsAdded}
use Rattle.ucq_store.specs.declared.Mark.{Mark}
use Rattle.ucq_store.specs.Store.{mark_at, Store, IsRow, query_of, depth_of, state_of}
use Rattle.ucq_store.specs.Lawful.{IsSoundCore, IsCoreOfOneStep, FitsLevel, StatesFollowLevels, RowsAreSoundCores}
use Rattle.ucq_store.specs.Lawful.{IsDerived, RowsAreDerived, HasCutCause, IsLawful, LevelsAreCovered}
use Rattle.ucq_store.specs.Changes.{with_row, IsCandidate}
use Rattle.ucq_store.proofs.Keeping.{AddKeeps}
use Rattle.ucq_store.proofs.Added.{old_or_new, was_live, still_covered, rows_stay_covered, later_stay_uncovered, live_stay_incomparable}
use Rattle.ucq_store.proofs.Depths.{no_deeper, live_below}

module _ (s : Store) (parent : ℕ) (core : Query) (rows : List Row) (uncut : s.cut ≡ None) (candidate : IsCandidate s parent core)
    (fresh : ¬ SomeLiveCovers s.rows core) (room : length s.rows < s.budget) (added : IsAdded core s.rows rows) (law : IsLawful s) where
  abbrev now : Store
  now = with_row s rows

  abbrev fresh_mark : Mark
  fresh_mark = record { depth = s.level + 1; state = Waiting }

  old_mark : (row : ℕ) → IsRow s row → mark_at now.marks row ≡ mark_at s.marks row
  old_mark row l = get_or_append_left s.marks (fresh_mark ∷ []) (record { depth = 0; state = Waiting }) row (subst (λ (n : ℕ). row < n) (sym law.marks_fit) l)

  new_mark : mark_at now.marks (length s.rows) ≡ fresh_mark
  new_mark = get_or_at s.marks fresh_mark [] (record { depth = 0; state = Waiting }) (length s.rows) law.marks_fit

  each_row : (P : ℕ → Type 0) → ((row : ℕ) → IsRow s row → P row) → P (length s.rows) → (row : ℕ) → IsRow now row → P row
  each_row P old new row l = old_or_new P (length s.rows) (length rows) row added.one_more old new l

  -- only the new row waits among those that it adds
  is_old : (row : ℕ) (state : RowState) → IsRow now row → state_of now row ≡ state → state ≢ Waiting → IsRow s row
  is_old row state l e differs = elim (cases_lt row (length s.rows)) [
    | inl lt ↦ lt
    | inr le ↦
        let one_more : length rows ≡ length s.rows + 1 = added.one_more in
        let same : row ≡ length s.rows = omega arith in
        let waits : state_of now (length s.rows) ≡ Waiting = ap (λ (m : Mark). m.state) new_mark in
        absurd (differs (sym e ∙ ap (state_of now) same ∙ waits))
  ]

  old_state : (row : ℕ) (state : RowState) → IsRow s row → state_of now row ≡ state → state_of s row ≡ state
  old_state row state l e = sym (ap (λ (m : Mark). m.state) (old_mark row l)) ∙ e

  old_depth : (row : ℕ) → IsRow s row → depth_of now row ≡ depth_of s row
  old_depth row l = ap (λ (m : Mark). m.depth) (old_mark row l)

  new_depth : depth_of now (length s.rows) ≡ s.level + 1
  new_depth = ap (λ (m : Mark). m.depth) new_mark

  sound_cores : RowsAreSoundCores now
  sound_cores =
      let was = law.rows_are_sound_cores in
      let one_more : length rows ≡ length s.rows + 1 = added.one_more in
      record {
        each =
            each_row (λ k. IsSoundCore s.problem (query_at rows k))
            (λ k m. subst (IsSoundCore s.problem) (sym (added.earlier_query k m)) (was.each k m))
            (subst (IsSoundCore s.problem) (sym added.last_query) candidate.sound_core);
        first = subst (IsCoreOf s.problem.query) (sym (added.earlier_query 0 was.some)) was.first;
        first_depth = old_depth 0 was.some ∙ was.first_depth;
        some = omega arith;
        within = omega arith;
      }

  closed : (row : ℕ) (result : Query) → IsRow now row → state_of now row ≡ Done → IsOneStep s.problem.rules (query_of now row) result →
      SomeLiveCovers rows result
  closed row result l e step =
      let old = is_old row Done l e (λ d. cc) in
      still_covered core s.rows rows added result
      (law.explored_are_closed row result old (old_state row Done old e)
      (subst (λ (q : Query). IsOneStep s.problem.rules q result) (added.earlier_query row old) step))

  follow : StatesFollowLevels now
  follow =
      let was = law.states_follow_levels in
      record {
        fit =
            each_row (λ k. FitsLevel s.level (depth_of now k) (state_of now k))
            (λ k m. subst (λ (x : Mark). FitsLevel s.level x.depth x.state) (sym (old_mark k m)) (was.fit k m))
            (subst (λ (x : Mark). FitsLevel s.level x.depth x.state) (sym new_mark) refl);
        numbers_differ = λ one two number l m e d.
            let a = is_old one (Claimed number) l e (λ d. cc) in
            let b = is_old two (Claimed number) m d (λ d. cc) in
            was.numbers_differ one two number a b (old_state one (Claimed number) a e) (old_state two (Claimed number) b d);
        numbers_given = λ row number l e.
            let a = is_old row (Claimed number) l e (λ d. cc) in
            was.numbers_given row number a (old_state row (Claimed number) a e);
        skipped_are_dead = λ row l e live.
            let a = is_old row Skipped l e (λ d. cc) in
            was.skipped_are_dead row a (old_state row Skipped a e) (was_live core s.rows rows added row a live).0;
      }

  core_stays : (other row : ℕ) (q : Query) → IsRow s other → query_at rows row ≡ q → IsCoreOfOneStep s.problem.rules (query_at s.rows other) q →
      IsCoreOfOneStep s.problem.rules (query_at rows other) (query_at rows row)
  core_stays other row q l same from =
      subst (λ (p : Query). IsCoreOfOneStep s.problem.rules p (query_at rows row)) (sym (added.earlier_query other l))
      (subst (λ (q : Query). IsCoreOfOneStep s.problem.rules (query_at s.rows other) q) (sym same) from)

  derived : RowsAreDerived now
  derived =
      let was = law.rows_are_derived in
      record {
        each =
            each_row (λ k. 0 < k → IsDerived now k)
            (λ k m positive.
            let d = was.each k m positive in
            let less : d.parent < k = d.earlier in
            let o : IsRow s d.parent = omega arith in
            record {
              parent = d.parent;
              earlier = less;
              deeper = omega (arith, d.deeper, old_depth k m, old_depth d.parent o);
              derived = core_stays d.parent k (query_at s.rows k) o (added.earlier_query k m) d.derived;
            })
            (λ positive. record {
              parent = parent;
              earlier = candidate.row_of;
              deeper = omega (arith, old_depth parent candidate.row_of, candidate.row_depth, new_depth);
              derived = core_stays parent (length s.rows) core candidate.row_of added.last_query candidate.derived;
            });
        depths = λ earlier later less l.
            each_row (λ k. earlier < k → depth_of now earlier ≤ depth_of now k)
            (λ k m lt.
            let a : depth_of now k ≡ depth_of s k = old_depth k m in
            let b : depth_of now earlier ≡ depth_of s earlier = old_depth earlier (omega arith) in
            let c : depth_of s earlier ≤ depth_of s k = was.depths earlier k lt m in
            omega arith)
            (λ lt.
            let a : depth_of now earlier ≡ depth_of s earlier = old_depth earlier lt in
            let b : depth_of s earlier ≤ s.level + 1 = no_deeper s earlier law lt in
            let c : depth_of now (length s.rows) ≡ s.level + 1 = new_depth in
            omega arith)
            later l less;
      }

  added_is_lawful : IsLawful now
  added_is_lawful = record {
    marks_fit = length-append s.marks (fresh_mark ∷ []) ∙ ap (λ (n : ℕ). n + 1) law.marks_fit ∙ sym added.one_more;
    rows_are_sound_cores = sound_cores;
    live_are_incomparable = live_stay_incomparable core s.rows rows added law.rows_are_covered fresh law.live_are_incomparable;
    rows_are_covered = rows_stay_covered core s.rows rows added law.rows_are_covered;
    explored_are_closed = closed;
    states_follow_levels = follow;
    rows_are_derived = derived;
    no_row_covers_later = later_stay_uncovered core s.rows rows added law.rows_are_covered fresh law.no_row_covers_later;
    live_below_are_done = λ row live less. live_below now row follow live less;
    cut_has_cause = subst (HasCutCause now) (sym uncut) tt;
  }

  still_row : (row : ℕ) → IsRow s row → IsRow now row
  still_row row l = let one_more : length rows ≡ length s.rows + 1 = added.one_more in omega (arith, l)

  still_covers : (row : ℕ) (q : Query) → IsRow s row → Covers (query_of s row) q → Covers (query_at rows row) q
  still_covers row q l covers = subst (λ (a : Query). Covers a q) (sym (added.earlier_query row l)) covers

  levels_stay : LevelsAreCovered s → LevelsAreCovered now
  levels_stay levels = record {
    explored = λ row result l e step.
        let a = is_old row Done l e (λ d. cc) in
        let old =
        levels.explored row result a (old_state row Done a e)
        (subst (λ (q : Query). IsOneStep s.problem.rules q result) (added.earlier_query row a) step) in
        record {
          row = old.row;
          row_of = still_row old.row old.row_of;
          no_deeper = omega (arith, old_depth row a, old_depth old.row old.row_of, old.no_deeper);
          covers = still_covers old.row result old.row_of old.covers;
        };
    skipped = λ row l e.
        let a = is_old row Skipped l e (λ d. cc) in
        let old = levels.skipped row a (old_state row Skipped a e) in
        record {
          by = record {
            row = old.by.row;
            row_of = still_row old.by.row old.by.row_of;
            no_deeper = omega (arith, old_depth row a, old_depth old.by.row old.by.row_of, old.by.no_deeper);
            covers =
                subst (λ (q : Query). Covers (query_at rows old.by.row) q) (sym (added.earlier_query row a))
                (still_covers old.by.row (query_of s row) old.by.row_of old.by.covers);
          };
          unskipped = λ d. old.unskipped (old_state old.by.row Skipped old.by.row_of d);
        };
  }

pub add_keeps : AddKeeps
add_keeps s row core rows uncut candidate adds = record {
  lawful = λ law. added_is_lawful s row core rows uncut candidate adds.uncovered adds.room adds.added law;
  by_levels = λ both. record {
    lawful = added_is_lawful s row core rows uncut candidate adds.uncovered adds.room adds.added both.lawful;
    levels_are_covered = levels_stay s row core rows uncut candidate adds.uncovered adds.room adds.added both.lawful both.levels_are_covered;
  };
}
