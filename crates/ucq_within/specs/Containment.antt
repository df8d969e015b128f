-- Containment of queries under rules, and what the rows of a store tell of it. (After Johnson and Klug 1984; answers over
-- facts by a finite chase, as in `ucq_terms`.)
use Rattle.std.specs.Prelude.{ℕ, ◌<◌, List}
use Rattle.ucq_terms.specs.declared.Term.{Term}
use Rattle.ucq_terms.specs.Syntax.{Atom, Rule, Query, Problem}
use Rattle.ucq_terms.specs.Homomorphism.{Covers}
use Rattle.ucq_terms.specs.Chase.{IsChaseAnswer}
use Rattle.ucq_store.specs.Store.{Store, IsRow, query_of, IsCut, IsFinished}
use Rattle.ucq_within.specs.declared.Within.{Within}
use Rattle.ucq_within.specs.declared.Within.TheVariants.{Yes, No, Open}

-- ---- containment

-- the query, asked under the rules
abbrev pub asked_under : List Rule → Query → Problem
asked_under rules q = record { rules = rules; query = q }

-- under the rules, each answer of the first query over any facts is one of the second
pub record IsContained (rules : List Rule) (a b : Query) : Type 0 where
  pub answers : (facts : List Atom) (tuple : List Term) → IsChaseAnswer (asked_under rules a) facts tuple → IsChaseAnswer (asked_under rules b) facts tuple

-- each is contained in the other
pub record AreEqualUnder (rules : List Rule) (a b : Query) : Type 0 where
  pub forth : IsContained rules a b
  pub back : IsContained rules b a

-- ---- rows

-- the first row that covers the query
pub record IsFirstCovering (s : Store) (q : Query) (row : ℕ) : Type 0 where
  pub row_of : IsRow s row
  pub covers : Covers (query_of s row) q
  pub first : (earlier : ℕ) → earlier < row → ¬ Covers (query_of s earlier) q

abbrev pub NoRowCovers : Store → Query → Type 0
NoRowCovers s q = (row : ℕ) → IsRow s row → ¬ Covers (query_of s row) q

-- What is told of the query: by its first covering row, that it is contained in the store's; where no row covers it, that it
-- isn't, of a finished store, and nothing, of a cut one.
abbrev pub TellsWithin : Store → Query → Within → Type 0
TellsWithin s q (Yes row) = IsFirstCovering s q row × IsContained s.problem.rules q s.problem.query
TellsWithin s q No = IsFinished s × NoRowCovers s q × ¬ IsContained s.problem.rules q s.problem.query
TellsWithin s q Open = IsCut s × NoRowCovers s q
