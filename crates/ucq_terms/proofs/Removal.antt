-- Lists after an element is taken out.
use Rattle.std.proofs.Common.{ℕ, zero, suc, ◌<◌, List, [], ◌∷◌, length, Contains, AllPairs, arith, ⊎_elim, subst, inl, inr, ◌≢◌}
use Rattle.std.specs.List.{remove}
use Rattle.std.proofs.lemmas.List.Edits.{length-remove}
use Rattle.ucq_terms.specs.Syntax.{Atom, Query, IsSafe}
use Rattle.ucq_terms.specs.Query.{IsStored}
use Rattle.ucq_terms.proofs.Lists.{Contains-first, Contains-rest, Contains-cons_cases}
use Rattle.ucq_terms.proofs.Pairwise.{AllPairs-cons, AllPairs-first, AllPairs-rest}
use Rattle.ucq_terms.proofs.Subsets.{IsSubset-from_contains, OccursIn-subset}

-- what stands in the rest stood in the list
pub Contains-remove : {X : Type 0} (xs : List X) (i : ℕ) (x : X) → Contains (remove xs i) x → Contains xs x
Contains-remove [] zero x h = h
Contains-remove [] (suc i) x h = h
Contains-remove (y ∷ ys) zero x h = Contains-rest y ys x h
Contains-remove {X} (y ∷ ys) (suc i) x h = elim (Contains-cons_cases y (remove ys i) x h) [
  | inl e ↦ subst (λ (z : X). Contains (y ∷ ys) z) e (Contains-first y ys)
  | inr j ↦ Contains-rest y ys x (Contains-remove ys i x j)
]

-- the rest keeps what holds of each two elements
pub AllPairs-remove : {X : Type 0} (R : X → X → Type 0) (xs : List X) (i : ℕ) → AllPairs R xs → AllPairs R (remove xs i)
AllPairs-remove R [] zero h = h
AllPairs-remove R [] (suc i) h = h
AllPairs-remove R (y ∷ ys) zero h = AllPairs-rest R y ys h
AllPairs-remove R (y ∷ ys) (suc i) h =
    AllPairs-cons R y (remove ys i) (λ z c. AllPairs-first R y ys z h (Contains-remove ys i z c))
    (AllPairs-remove R ys i (AllPairs-rest R y ys h))

-- a stored query less an atom is stored, where it is safe
pub IsStored-remove : (q : Query) (place : ℕ) → place < length q.atoms → IsSafe (record q { atoms = remove q.atoms place }) → IsStored q →
    IsStored (record q { atoms = remove q.atoms place })
IsStored-remove q place l safe s = record {
  safe = safe;
  once = AllPairs-remove (λ (a b : Atom). a ≢ b) q.atoms place s.once;
  few_atoms = let a = s.few_atoms in omega (arith, length-remove q.atoms place l);
  few_answers = s.few_answers;
  variables =
      λ v o. s.variables v (⊎_elim
      (λ i. inl (OccursIn-subset (remove q.atoms place) q.atoms _ (IsSubset-from_contains (remove q.atoms place) q.atoms (λ a. Contains-remove q.atoms place a)) i))
      (λ i. inr i) o);
}
