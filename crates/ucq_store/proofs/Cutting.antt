-- A store stays lawful when it is cut.
use Rattle.std.proofs.Common.{◌≡◌, ℕ, zero, suc, ◌<◌, ◌≤◌, inl, inr, ap, Some, length, arith}
use Rattle.std.proofs.lemmas.Bool.{cases_lt}
use Rattle.ucq_terms.specs.Syntax.{Query}
use Rattle.ucq_antichain.specs.Rows.{SomeLiveCovers}
use Rattle.ucq_store.specs.declared.Cut.{Cut}
use Rattle.ucq_store.specs.declared.Cut.TheVariants.{Rows, Wide}
use Rattle.ucq_store.specs.Store.{Store, IsRow, query_of, depth_of}
use Rattle.ucq_store.specs.Lawful.{HasCutCause, IsLawful, IsLeftOver}
use Rattle.ucq_store.specs.Changes.{with_cut, IsCandidate}
use Rattle.ucq_store.proofs.Keeping.{Keeps, FullKeeps, WideKeeps, DepthsAreSmall}
use Rattle.ucq_store.proofs.Live.{live_covers_on}

-- A cut changes nothing else.
cut_is_lawful : (s : Store) (cut : Cut) → HasCutCause s (Some cut) → IsLawful s → IsLawful (with_cut s cut)
cut_is_lawful s cut why law =
    let cores = law.rows_are_sound_cores in
    let follow = law.states_follow_levels in
    let derived = law.rows_are_derived in
    record {
      marks_fit = law.marks_fit;
      rows_are_sound_cores = record { each = cores.each; first = cores.first; first_depth = cores.first_depth; some = cores.some; within = cores.within };
      live_are_incomparable = law.live_are_incomparable;
      rows_are_covered = law.rows_are_covered;
      explored_are_closed = law.explored_are_closed;
      states_follow_levels = record {
        fit = follow.fit;
        numbers_differ = follow.numbers_differ;
        numbers_given = follow.numbers_given;
        skipped_are_dead = follow.skipped_are_dead;
      };
      rows_are_derived = record {
        each = λ row l positive.
            let d = derived.each row l positive in
            record { parent = d.parent; earlier = d.earlier; deeper = d.deeper; derived = d.derived };
        depths = derived.depths;
      };
      no_row_covers_later = law.no_row_covers_later;
      live_below_are_done = law.live_below_are_done;
      cut_has_cause = same_cause cut why;
    }
  where
    same_cause : (cut : Cut) → HasCutCause s (Some cut) → HasCutCause (with_cut s cut) (Some cut)
    same_cause (Rows left) h = h
    same_cause (Wide row rule count) h = h

cut_keeps : (s : Store) (cut : Cut) → (IsLawful s → HasCutCause s (Some cut)) → Keeps s (with_cut s cut)
cut_keeps s cut why = record {
  lawful = λ law. cut_is_lawful s cut (why law) law;
  by_levels = λ both. record {
    lawful = cut_is_lawful s cut (why both.lawful) both.lawful;
    levels_are_covered = record {
      explored = λ row result l e step.
          let c = both.levels_are_covered.explored row result l e step in
          record { row = c.row; row_of = c.row_of; no_deeper = c.no_deeper; covers = c.covers };
      skipped = λ row l e.
          let c = both.levels_are_covered.skipped row l e in
          record { by = record { row = c.by.row; row_of = c.by.row_of; no_deeper = c.by.no_deeper; covers = c.by.covers }; unskipped = c.unskipped };
    };
  };
}

-- a candidate that no live row covers is left over where there is no room
pub left_over : (s : Store) (row : ℕ) (core : Query) → IsLawful s → IsCandidate s row core → ¬ SomeLiveCovers s.rows core → length s.rows ≡ s.budget → IsLeftOver s.problem s.budget s.rows core
left_over s row core law candidate fresh full = record {
  full = full;
  sound_core = candidate.sound_core;
  row = row;
  row_of = candidate.row_of;
  derived = candidate.derived;
  uncovered = λ other l covers. fresh (live_covers_on s.rows (query_of s other) core (law.rows_are_covered other l) covers);
}

pub full_keeps : FullKeeps
full_keeps s core left = cut_keeps s (Rows core) (λ law. left)

pub wide_keeps : WideKeeps
wide_keeps s row rule count wide = cut_keeps s (Wide row rule count) (λ law. wide)

depth_below : (n : ℕ) (s : Store) (row : ℕ) → IsLawful s → row < n → IsRow s row → depth_of s row ≤ row
depth_below zero s row law lt l = omega arith
depth_below (suc n) s row law lt l = elim (cases_lt 0 row) [
  | inl positive ↦
      let d = law.rows_are_derived.each row l positive in
      let up : depth_of s d.parent ≤ d.parent = depth_below n s d.parent law (omega (arith, d.earlier)) (omega (arith, d.earlier)) in
      omega (arith, d.earlier, d.deeper)
  | inr none ↦
      let first : row ≡ 0 = omega arith in
      let e : depth_of s row ≡ depth_of s 0 = ap (depth_of s) first in
      let z : depth_of s 0 ≡ 0 = law.rows_are_sound_cores.first_depth in
      omega arith
]

pub depths_are_small : DepthsAreSmall
depths_are_small s row law l = depth_below (suc row) s row law (omega arith) l
