-- What the answers of a union are to its problem.
use Rattle.std.specs.Prelude.{◌≡◌, ℕ, ◌↔◌, List, Contains}
use Rattle.ucq_terms.specs.Syntax.{Atom, Query, Problem}
use Rattle.ucq_terms.specs.Chase.{IsChaseAnswer}
use Rattle.ucq_terms.specs.Union.{IsExact}
use Rattle.ucq_eval.specs.Answers.{AreAnswers, constants}

-- the answers of an exact union are just the tuples of constants that some finite chase of the facts answers
abbrev pub AnswersAreChaseAnswers : Type 0
AnswersAreChaseAnswers =
    (names : List (List ℕ)) (problem : Problem) (union : List Query) (facts : List Atom) (tuples : List (List ℕ)) →
    IsExact problem union →
    AreAnswers names union facts tuples →
    (tuple : List ℕ) → Contains tuples tuple ↔ IsChaseAnswer problem facts (constants tuple)

-- a union has one list of answers over some facts
abbrev pub AnswersAreUnique : Type 0
AnswersAreUnique =
    (names : List (List ℕ)) (union : List Query) (facts : List Atom) (one two : List (List ℕ)) →
    AreAnswers names union facts one →
    AreAnswers names union facts two →
    one ≡ two
