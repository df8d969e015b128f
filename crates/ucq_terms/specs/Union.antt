-- What a union of queries is to a problem. (After König, Leclère, Mugnier and Thomazo 2015; the word exact, and tuples that
-- hold unknown values, are this project's own.)
use Rattle.std.specs.Prelude.{◌≡◌, ℕ, ◌<◌, length, List, All, Any, AllPairs, slice_index_or}
use Rattle.ucq_terms.specs.declared.Term.{Term}
use Rattle.ucq_terms.specs.Syntax.{Atom, Query, Problem}
use Rattle.ucq_terms.specs.Homomorphism.{MapsInto, Covers, IsCore, AreIsomorphic}
use Rattle.ucq_terms.specs.Chase.{IsChaseAnswer}

-- the query's answer list is an answer over its own atoms
abbrev pub IsSound : Problem → Query → Type 0
IsSound problem q = IsChaseAnswer problem q.atoms q.answers

-- some member maps into the facts with every answer
pub record IsComplete (problem : Problem) (union : List Query) : Type 0 where
  pub finds : (facts : List Atom) (tuple : List Term) → IsChaseAnswer problem facts tuple → Any (λ q. MapsInto q facts tuple) union

-- neither covers the other
pub record AreIncomparable (a b : Query) : Type 0 where
  pub not_forth : ¬ Covers a b
  pub not_back : ¬ Covers b a

pub record IsExact (problem : Problem) (union : List Query) : Type 0 where
  pub sound : All (IsSound problem) union
  pub complete : IsComplete problem union
  pub minimal : AllPairs AreIncomparable union
  pub cores : All IsCore union

-- each member of the first list is isomorphic to exactly one member of the second
abbrev pub IsPairedWith : List Query → List Query → Type 0
IsPairedWith xs ys =
    (i : ℕ) (d : Query) →
    i < length xs →
    (j : ℕ) × (j < length ys) × AreIsomorphic (slice_index_or xs i d) (slice_index_or ys j d) ×
    ((k : ℕ) → k < length ys → AreIsomorphic (slice_index_or xs i d) (slice_index_or ys k d) → k ≡ j)

-- the two unions are equal up to renaming
abbrev pub IsSameUnion : List Query → List Query → Type 0
IsSameUnion xs ys = IsPairedWith xs ys × IsPairedWith ys xs
