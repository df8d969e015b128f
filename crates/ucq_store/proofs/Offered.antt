-- A store takes the core of a candidate.
use Rattle.std.proofs.Common.{◌≡◌, ℕ, ◌+◌, ◌<◌, refl, sym, ap, ◌∙◌, List, [], ◌∷◌, ◌++◌, None, Some, length, Option, subst}
use Rattle.ucq_terms.specs.Syntax.{Query}
use Rattle.ucq_terms.specs.Query.{IsStored}
use Rattle.ucq_antichain.specs.Rows.{AntichainValue, SomeLiveCovers}
use Rattle.ucq_antichain.specs.Calls.{AddsRow}
use Rattle.ucq_store.specs.declared.Mark.{Mark}
use Rattle.ucq_store.specs.declared.RowState.TheVariants.{Waiting}
use Rattle.ucq_store.specs.Store.{Store, query_of, depth_of}
use Rattle.ucq_store.specs.Lawful.{IsCoreOfOneStep, IsLeftOver, IsLawful, IsLawfulByLevels}
use Rattle.ucq_store.specs.Changes.{IsCandidate, Adds, with_row}
use Rattle.ucq_store.specs.Candidates.{Evidence, Candidate, used, IsEvident, IsKnownAmong, HoldsCore}
use Rattle.ucq_store.specs.Calls.{IsOffered, DoesTake}
use Rattle.ucq_store.proofs.Sound.{derived_is_sound}
use Rattle.ucq_store.proofs.Cutting.{left_over}
use Rattle.ucq_store.proofs.Live.{live_covers_on}
use Rattle.ucq_store.proofs.Adding.{add_keeps}

-- a core of a rewriting of a row of the level may be added
pub candidate_from : (s : Store) (row : ℕ) (core : Query) → IsLawful s → row < length s.rows → depth_of s row ≡ s.level → IsCoreOfOneStep s.problem.rules (query_of s row) core →
    IsStored core → IsCandidate s row core
candidate_from s row core law l at derived stored = record {
  row_of = l;
  row_depth = at;
  sound_core = record {
    sound = derived_is_sound s.problem (query_of s row) core (law.rows_are_sound_cores.each row l).sound derived;
    core = derived.core_of.core;
    stored = stored;
  };
  derived = derived;
}

-- where the evidence is right about its row, a live row covers the core
pub known_is_covered : (s : Store) (core : Query) (evidence : Option Evidence) → IsLawful s → IsKnownAmong s.rows evidence → IsEvident (Some core) evidence →
    SomeLiveCovers s.rows core
known_is_covered s core None law bad evident = absurd bad
known_is_covered s core (Some e) law held covers =
    live_covers_on s.rows e.by core (subst (SomeLiveCovers s.rows) held.query (law.rows_are_covered e.row held.row_of)) covers

abbrev pub kept_of : Store → AntichainValue
kept_of s = record { budget = s.budget; rows = s.rows }

-- the store with these rows and marks
abbrev pub with_rows : Store → AntichainValue → List Mark → Store
with_rows s k marks = record s { budget = k.budget; rows = k.rows; marks = marks }

module _ (s : Store) (c : Candidate) (core : Query) (offered : IsOffered s c) (held : Some core ≡ c.core) where
  same_core : offered.core ≡ core
  same_core = let e : Some core ≡ Some offered.core = held ∙ offered.fresh.core_of in cc

  pub holds_core : HoldsCore c core
  holds_core = record { core_of = sym held; placed_nowhere = offered.fresh.placed_nowhere }

  derived_here : IsCoreOfOneStep s.problem.rules (query_of s offered.row) core
  derived_here = subst (λ (q : Query). IsCoreOfOneStep s.problem.rules (query_of s offered.row) q) same_core offered.derived

  -- where there is no room for the core, it is left over
  pub over : IsStored core → IsLawful s → ¬ SomeLiveCovers s.rows core → length s.rows ≡ s.budget → IsLeftOver s.problem s.budget s.rows core
  over stored law fresh full =
      left_over s offered.row core law (candidate_from s offered.row core law offered.row_of offered.row_depth derived_here stored) fresh full

  -- where the evidence is right, nothing is added
  pub known_is_taken : IsLawful s → IsKnownAmong s.rows c.evidence → IsEvident c.core c.evidence → DoesTake s c None s (used c.placed)
  known_is_taken law is evident =
      let covered : SomeLiveCovers s.rows core =
      known_is_covered s core c.evidence law is (subst (λ (x : Option Query). IsEvident x c.evidence) (sym held) evident) in
      (core, holds_core, (None, ap used offered.fresh.placed_nowhere, (covered, refl)))

  module _ (row pruned : ℕ) (k : AntichainValue) (marks : List Mark) (adds : AddsRow (kept_of s) core row pruned k)
      (noted : marks ≡ s.marks ++ record { depth = s.level + 1; state = Waiting } ∷ []) where
    as_adds : Adds s core k.rows
    as_adds = record { uncovered = adds.uncovered; room = subst (λ (n : ℕ). n < s.budget) adds.last adds.room; added = adds.added }

    same_store : with_rows s k marks ≡ with_row s k.rows
    same_store =
        ap (λ (n : ℕ). let after : Store = record s { budget = n; rows = k.rows; marks = marks } in after) adds.budget ∙
        ap (λ (ms : List Mark). let after : Store = record s { rows = k.rows; marks = ms } in after) noted

    pub added_is_lawful : IsStored core → IsLawfulByLevels s → IsLawfulByLevels (with_rows s k marks)
    added_is_lawful stored law =
        let candidate = candidate_from s offered.row core law.lawful offered.row_of offered.row_depth derived_here stored in
        subst IsLawfulByLevels (sym same_store) ((add_keeps s offered.row core k.rows offered.uncut candidate as_adds).by_levels law)

    pub added_is_taken : DoesTake s c None (with_rows s k marks) (used (Some row))
    added_is_taken = (core, holds_core, (Some row, refl, (adds.last, (k.rows, as_adds, same_store))))
