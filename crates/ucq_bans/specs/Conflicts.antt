-- Constraints, the sets of facts that violate them, and conflicts. (Minimal inconsistent subsets, after Arenas, Bertossi and
-- Chomicki 1999; under existential rules by a finite chase, as in `ucq_terms`.)
use Rattle.std.specs.Prelude.{ℕ, ◌<◌, ◌↔◌, List, [], length, All, Contains, slice_get}
use Rattle.std.specs.List.{filter_map}
use Rattle.std.specs.List.Sorted.{IsStrictlySortedBy}
use Rattle.std.specs.Ordering.{nat_cmp}
use Rattle.std.specs.Cmp.Lexicographic.{slice_cmp}
use Rattle.ucq_terms.specs.Syntax.{Atom, Problem}
use Rattle.ucq_terms.specs.Chase.{IsChaseAnswer}

-- the facts violate the problem's Boolean query: some finite chase of them answers it
abbrev pub Violates : Problem → List Atom → Type 0
Violates problem facts = IsChaseAnswer problem facts []

-- each number is below the next, so that the list stands for a set
abbrev pub IsRising : List ℕ → Type 0
IsRising numbers = IsStrictlySortedBy nat_cmp numbers

-- a set of facts, as the rising list of their places
pub record IsFactSet (facts : List Atom) (places : List ℕ) : Type 0 where
  pub rising : IsRising places
  pub within : All (λ place. place < length facts) places

-- the facts at these places
abbrev pub facts_at : List Atom → List ℕ → List Atom
facts_at facts places = filter_map (slice_get facts) places

-- some of the places, and not all
pub record IsProperPart (part whole : List ℕ) : Type 0 where
  pub among : All (Contains whole) part
  pub proper : ¬ All (Contains part) whole

-- the facts at these places violate the problem's query, and those at some of the places, and not all, don't
pub record IsConflict (problem : Problem) (facts : List Atom) (places : List ℕ) : Type 0 where
  pub set : IsFactSet facts places
  pub violates : Violates problem (facts_at facts places)
  pub minimal : (part : List ℕ) → IsFactSet facts part → IsProperPart part places → ¬ Violates problem (facts_at facts part)

-- every conflict, each once, in lexicographic order
pub record AreConflicts (problem : Problem) (facts : List Atom) (conflicts : List (List ℕ)) : Type 0 where
  pub each : (places : List ℕ) → Contains conflicts places ↔ IsConflict problem facts places
  pub order : IsStrictlySortedBy (slice_cmp nat_cmp) conflicts
