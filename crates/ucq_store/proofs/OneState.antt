-- A store stays lawful when one row's state changes.
use Rattle.std.proofs.Common.{◌≡◌, ◌≢◌, ℕ, ◌+◌, ◌<◌, ◌≤◌, inl, inr, refl, sym, ◌∙◌, length, arith, subst}
use Rattle.std.proofs.lemmas.Bool.{cases_eq}
use Rattle.std.proofs.lemmas.List.{get_or-set_same, get_or-set_other, length-set}
use Rattle.ucq_terms.specs.Rewriting.{IsOneStep}
use Rattle.ucq_store.specs.declared.RowState.{RowState}
use Rattle.ucq_store.specs.declared.RowState.TheVariants.{Waiting, Open, Claimed, Done, Skipped}
use Rattle.ucq_store.specs.declared.Mark.{Mark}
use Rattle.ucq_store.specs.Store.{mark_at, Store, IsRow, query_of, IsLive, depth_of, state_of}
use Rattle.ucq_store.specs.Lawful.{FitsLevel, StatesFollowLevels, IsLawful, IsCoveredAt, LevelsAreCovered}
use Rattle.ucq_store.specs.Changes.{with_state, IsExhausted}
use Rattle.ucq_store.proofs.Keeping.{Keeps, ClaimKeeps, ReleaseKeeps, DoneKeeps}
use Rattle.ucq_store.proofs.Live.{live_is_row}
use Rattle.ucq_store.proofs.Depths.{no_deeper}
use Rattle.ucq_store.proofs.Remarking.{remarked, IsCoveredNow, remarked_is_lawful, remarked_is_covered}

-- a state that a row of the level may get
record MayGet (s : Store) (row claims : ℕ) (state : RowState) : Type 0 where
  row_of : IsRow s row
  fit : FitsLevel s.level (depth_of s row) state
  not_skipped : state ≢ Skipped
  number : (number : ℕ) → state ≡ Claimed number → (number < claims) × ((other : ℕ) → IsRow s other → state_of s other ≢ Claimed number)
  more : s.claims ≤ claims
  done : state ≡ Done → IsExhausted s row × (depth_of s row ≡ s.level)

module _ (s : Store) (row claims : ℕ) (state : RowState) (may : MayGet s row claims state) where
  abbrev after : Store
  after = remarked s (with_state s row state).marks s.level claims

  other_mark : (k : ℕ) → ¬ (k ≡ row) → mark_at after.marks k ≡ mark_at s.marks k
  other_mark k differs = get_or-set_other s.marks row k (record { depth = depth_of s row; state = state }) (record { depth = 0; state = Waiting }) differs

  module _ (law : IsLawful s) where
    this_mark : mark_at after.marks row ≡ record { depth = depth_of s row; state = state }
    this_mark =
        get_or-set_same s.marks row (record { depth = depth_of s row; state = state }) (record { depth = 0; state = Waiting })
        (subst (λ (n : ℕ). row < n) (sym law.marks_fit) may.row_of)

    -- what holds of the new mark here and of the old ones elsewhere holds of each mark
    each_mark : (P : ℕ → Mark → Type 0) → P row (record { depth = depth_of s row; state = state }) →
        ((k : ℕ) → ¬ (k ≡ row) → IsRow s k → P k (mark_at s.marks k)) → (k : ℕ) → IsRow s k → P k (mark_at after.marks k)
    each_mark P here there k l = elim (cases_eq k row) [
      | inl e ↦ subst (λ (i : ℕ). P i (mark_at after.marks i)) (sym e) (subst (P row) (sym this_mark) here)
      | inr ne ↦ subst (P k) (sym (other_mark k ne)) (there k ne l)
    ]

    depths : (k : ℕ) → IsRow s k → (mark_at after.marks k).depth ≡ depth_of s k
    depths = each_mark (λ k m. m.depth ≡ depth_of s k) refl (λ k ne l. refl)

    count : length after.marks ≡ length s.rows
    count = length-set s.marks row (record { depth = depth_of s row; state = state }) ∙ law.marks_fit

    follow : StatesFollowLevels after
    follow =
        let was = law.states_follow_levels in
        record {
          fit = each_mark (λ k m. FitsLevel s.level m.depth m.state) may.fit (λ k ne l. was.fit k l);
          numbers_differ = λ one two number l m e d.
              each_mark (λ i a. a.state ≡ Claimed number → i ≡ two)
              (λ f.
              each_mark (λ j b. b.state ≡ Claimed number → row ≡ j) (λ g. refl) (λ j ne n g. absurd ((may.number number f).1 j n g)) two m d)
              (λ i ne n f.
              each_mark (λ j b. b.state ≡ Claimed number → i ≡ j) (λ g. absurd ((may.number number g).1 i n f))
              (λ j no o g. was.numbers_differ i j number n o f g) two m d)
              one l e;
          numbers_given = λ k number l e.
              each_mark (λ i a. a.state ≡ Claimed number → number < claims)
              (λ f. (may.number number f).0)
              (λ i ne n f. let a : number < s.claims = was.numbers_given i number n f in let b : s.claims ≤ claims = may.more in omega arith)
              k l e;
          skipped_are_dead = λ k l e.
              each_mark (λ i a. a.state ≡ Skipped → ¬ IsLive s i) (λ f. absurd (may.not_skipped f)) (λ i ne n f. was.skipped_are_dead i n f) k l e;
        }

    lawful : IsLawful after
    lawful =
        remarked_is_lawful s after.marks s.level claims count depths follow
        (each_mark (λ k m. m.state ≡ Done → IsExhausted s k) (λ e. (may.done e).0)
        (λ k ne l e. record { covered = λ result step. law.explored_are_closed k result l e step })) law

    levels : LevelsAreCovered s → LevelsAreCovered after
    levels was = remarked_is_covered s after.marks s.level claims count depths
        (λ k result l e.
        each_mark (λ i a. a.state ≡ Done → IsOneStep s.problem.rules (query_of s i) result → IsCoveredAt s (depth_of s i + 1) result)
        (λ f step.
        let c = (may.done f).0.covered result step in
        let m = live_is_row s.rows c.row c.live in
        let at : depth_of s row ≡ s.level = (may.done f).1 in
        let deep : depth_of s c.row ≤ s.level + 1 = no_deeper s c.row law m in
        record { row = c.row; row_of = m; no_deeper = omega arith; covers = c.covers })
        (λ i ne n f step. was.explored i result n f step)
        k l e)
        (λ k l e.
        each_mark (λ i a. a.state ≡ Skipped → IsCoveredNow s after.marks i)
        (λ f. absurd (may.not_skipped f))
        (λ i ne n f.
        let c = was.skipped i n f in
        record {
          by = c.by;
          unskipped =
              each_mark (λ j b. j ≡ c.by.row → b.state ≢ Skipped) (λ g. may.not_skipped)
              (λ j no o g h. c.unskipped (subst (λ (x : ℕ). state_of s x ≡ Skipped) g h)) c.by.row c.by.row_of refl;
        })
        k l e)

  keeps : Keeps s after
  keeps = record {
    lawful = λ law. lawful law;
    by_levels = λ both. record { lawful = lawful both.lawful; levels_are_covered = levels both.lawful both.levels_are_covered };
  }

fit_of : (s : Store) (row : ℕ) (state : RowState) → IsLawful s → IsRow s row → state_of s row ≡ state → FitsLevel s.level (depth_of s row) state
fit_of s row state law l e = subst (FitsLevel s.level (depth_of s row)) e (law.states_follow_levels.fit row l)

may_claim : (s : Store) (row : ℕ) → IsRow s row → state_of s row ≡ Open → IsLawful s → MayGet s row (s.claims + 1) (Claimed s.claims)
may_claim s row l e law = record {
  row_of = l;
  fit = fit_of s row Open law l e;
  not_skipped = λ d. cc;
  number = λ number d.
      let same : s.claims ≡ number = cc in
      (omega arith, λ other m f. let below : number < s.claims = law.states_follow_levels.numbers_given other number m f in omega arith);
  more = omega arith;
  done = λ d. absurd (cc);
}

pub claim_keeps : ClaimKeeps
claim_keeps s row l e = record {
  lawful = λ law. (keeps s row (s.claims + 1) (Claimed s.claims) (may_claim s row l e law)).lawful law;
  by_levels = λ both. (keeps s row (s.claims + 1) (Claimed s.claims) (may_claim s row l e both.lawful)).by_levels both;
}

may_open : (s : Store) (row number : ℕ) → IsRow s row → state_of s row ≡ Claimed number → IsLawful s → MayGet s row s.claims Open
may_open s row number l e law = record {
  row_of = l;
  fit = fit_of s row (Claimed number) law l e;
  not_skipped = λ d. cc;
  number = λ number d. absurd (cc);
  more = omega arith;
  done = λ d. absurd (cc);
}

pub release_keeps : ReleaseKeeps
release_keeps s row number l e = record {
  lawful = λ law. (keeps s row s.claims Open (may_open s row number l e law)).lawful law;
  by_levels = λ both. (keeps s row s.claims Open (may_open s row number l e both.lawful)).by_levels both;
}

pub done_keeps : DoneKeeps
done_keeps s row l at exhausted = keeps s row s.claims Done (record {
  row_of = l;
  fit = omega arith;
  not_skipped = λ d. cc;
  number = λ number d. absurd (cc);
  more = omega arith;
  done = λ d. (exhausted, at);
})
