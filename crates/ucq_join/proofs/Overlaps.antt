-- The test whether two pieces overlap.
use Rattle.std.proofs.Common.{◌≡◌, ℕ, Bool, true, false, List, [], ◌∷◌, Contains, nat_eq, refl, sym, ap, ◌∙◌, subst, ◌⊎◌, inl, inr, eqb-true, eq-eqb}
use Rattle.std.specs.List.{list_any}
use Rattle.std.specs.Prelude.{◌||◌}
use Rattle.ucq_terms.specs.Unifier.{places}
use Rattle.ucq_terms.specs.Rewriting.{Member, AreApart}
use Rattle.ucq_terms.proofs.Lists.{Contains-first, Contains-rest, Contains-cons_cases, Contains-empty}
use Rattle.ucq_terms.proofs.Places.{Contains-places, Contains-from_places}
use Rattle.ucq_join.specs.inner.Search.{has_place, overlap}

pub list_any-at : {X : Type 0} (p : X → Bool) (xs : List X) → list_any p xs ≡ true → (x : X) × Contains xs x × (p x ≡ true)
list_any-at p [] e = cc
list_any-at {X} p (x ∷ xs) e = go (p x) refl (λ f. list_any-at p xs f) e
  where
    go : (b : Bool) → p x ≡ b → (list_any p xs ≡ true → (y : X) × Contains xs y × (p y ≡ true)) → (b || list_any p xs) ≡ true →
        (y : X) × Contains (x ∷ xs) y × (p y ≡ true)
    go true d r f = (x, Contains-first x xs, d)
    go false d r f = let (y, i, h) = r f in (y, Contains-rest x xs y i, h)

pub list_any-from : {X : Type 0} (p : X → Bool) (xs : List X) (x : X) → Contains xs x → p x ≡ true → list_any p xs ≡ true
list_any-from p [] x i e = absurd (Contains-empty x i)
list_any-from {X} p (y ∷ xs) x i e = elim (Contains-cons_cases y xs x i) [
  | inl d ↦ go (p y) (list_any p xs) (inl (ap p d ∙ e))
  | inr j ↦ go (p y) (list_any p xs) (inr (list_any-from p xs x j e))
]
  where
    go : (a b : Bool) → (a ≡ true) ⊎ (b ≡ true) → (a || b) ≡ true
    go true b h = refl
    go false b (inl h) = cc
    go false b (inr h) = h

pub not_apart : (a b : Member) → overlap a.pairs b.pairs ≡ true → AreApart a b → ⊥
not_apart a b e h =
    let (p, i, f) = list_any-at (λ (pair : ℕ × ℕ). has_place b.pairs pair.0) a.pairs e in
    let (q, j, g) = list_any-at (λ (pair : ℕ × ℕ). nat_eq p.0 pair.0) b.pairs f in
    h p.0 (Contains-places a.pairs p i) (subst (λ (n : ℕ). Contains (places b.pairs) n) (sym (eqb-true p.0 q.0 g)) (Contains-places b.pairs q j))

pub apart_from_test : (a b : Member) → overlap a.pairs b.pairs ≡ false → AreApart a b
apart_from_test a b e = λ place c d.
    let (p, i, f) = Contains-from_places a.pairs place c in
    let (q, j, g) = Contains-from_places b.pairs place d in
    let here : nat_eq p.0 q.0 ≡ true = eq-eqb p.0 q.0 (f ∙ sym g) in
    let yes' : overlap a.pairs b.pairs ≡ true =
    list_any-from (λ (pair : ℕ × ℕ). has_place b.pairs pair.0) a.pairs p i (list_any-from (λ (pair : ℕ × ℕ). nat_eq p.0 pair.0) b.pairs q j here) in
    cc
