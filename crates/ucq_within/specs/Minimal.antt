-- Queries without atoms that rules make needless.
use Rattle.std.specs.Prelude.{◌≡◌, ◌⊎◌, ℕ, zero, suc, List, length}
use Rattle.std.specs.List.{remove}
use Rattle.ucq_terms.specs.declared.Term.{Term}
use Rattle.ucq_terms.specs.declared.Term.TheVariants.{Constant, Variable}
use Rattle.ucq_terms.specs.Syntax.{Atom, Query, OccursIn, IsSafe, IsSubset}
use Rattle.ucq_terms.specs.Homomorphism.{Covers}
use Rattle.ucq_store.specs.Store.{Store, IsRow, query_of, IsFinished}
use Rattle.ucq_within.specs.Containment.{AreEqualUnder}

-- the query without the atom at the place
abbrev pub without : Query → ℕ → Query
without q place = record q { atoms = remove q.atoms place }

-- the term is a constant, or occurs in an atom at another place
abbrev pub IsHeldWithout : List Atom → ℕ → Term → Type 0
IsHeldWithout atoms place (Constant c) = Unit {0}
IsHeldWithout atoms place (Variable v) = OccursIn (remove atoms place) (Variable v)

-- Without the atom at the place the query is safe, so it has an atom, and some row covers it.
pub record MaySpare (s : Store) (q : Query) (place : ℕ) : Type 0 where
  pub safe : IsSafe (without q place)
  pub row : ℕ
  pub row_of : IsRow s row
  pub covers : Covers (query_of s row) (without q place)

-- The second query is the first without some of its atoms at places below a number. They are tried from the last to the
-- first: one is left out exactly where it may be spared then.
abbrev pub LeavesOut : Store → ℕ → Query → Query → Type 0
LeavesOut s zero q left = left ≡ q
LeavesOut s (suc place) q left = (MaySpare s q place × LeavesOut s place (without q place) left) ⊎ ((¬ MaySpare s q place) × LeavesOut s place q left)

-- some of the query's atoms, and not all, with its answers, as a query
pub record IsProperPart (q part : Query) : Type 0 where
  pub safe : IsSafe part
  pub answers : part.answers ≡ q.answers
  pub atoms : IsSubset part.atoms q.atoms
  pub proper : ¬ IsSubset q.atoms part.atoms

-- Atoms of the problem's query are left out so. Under the rules the rest has the same answers; where the store is finished,
-- no proper part of it has.
pub record IsMinimised (s : Store) (q : Query) : Type 0 where
  pub leaves : LeavesOut s (length s.problem.query.atoms) s.problem.query q
  pub equal : AreEqualUnder s.problem.rules q s.problem.query
  pub minimal : IsFinished s → (part : Query) → IsProperPart q part → ¬ AreEqualUnder s.problem.rules part s.problem.query
