-- Orders of the places of some atoms.
use Rattle.std.proofs.Common.{◌≡◌, ◌<◌, ℕ, List, length, Contains, get_or, sym, ap, ◌∙◌, inl, inr, arith}
use Rattle.std.specs.List.{SwappedAt}
use Rattle.std.proofs.lemmas.Bool.{cases_eq}
use Rattle.std.proofs.lemmas.List.{get_or_default}
use Rattle.std.proofs.lemmas.List.Elements.{Contains-get_or}
use Rattle.ucq_terms.specs.Syntax.{Atom}
use Rattle.ucq_hom.specs.Search.{ArePlaces, IsOrder}

-- the place that stands somewhere in the list is one of an atom
pub ArePlaces-at : (atoms : List Atom) (order : List ℕ) (i : ℕ) → i < length order → ArePlaces atoms order → get_or order i 0 < length atoms
ArePlaces-at atoms order i l p = p.within (get_or order i 0) (Contains-get_or order i 0 l)

-- the places in their own order
pub IsOrder-numbered : (atoms : List Atom) (order : List ℕ) → length order ≡ length atoms → ((k : ℕ) → k < length order → get_or order k 0 ≡ k) → IsOrder atoms order
IsOrder-numbered atoms order size f = record {
  places = record {
    within = λ p (k, l, e).
        let same : k ≡ p = sym (f k l) ∙ (get_or_default order k 0 p l ∙ e) in
        omega arith;
  };
  all = λ p l. let m : p < length order = omega arith in (p, m, get_or_default order p p 0 m ∙ f p m);
}

-- two elements exchanged
pub Contains-from_swapped : (xs ys : List ℕ) (i j p : ℕ) → i < length xs → j < length xs → length ys ≡ length xs → SwappedAt xs ys i j → Contains ys p → Contains xs p
Contains-from_swapped xs ys i j p l m size s (k, n, e) = elim (cases_eq k i) [
  | inl q ↦ (j, m, sym (s.0 p) ∙ (ap (λ x. get_or ys x p) (sym q) ∙ e))
  | inr a ↦ elim (cases_eq k j) [
    | inl q ↦ (i, l, sym (s.1 p) ∙ (ap (λ x. get_or ys x p) (sym q) ∙ e))
    | inr b ↦ (k, omega arith, sym (s.2 k p a b) ∙ e)
  ]
]

pub Contains-swapped : (xs ys : List ℕ) (i j p : ℕ) → i < length xs → j < length xs → length ys ≡ length xs → SwappedAt xs ys i j → Contains xs p → Contains ys p
Contains-swapped xs ys i j p l m size s (k, n, e) = elim (cases_eq k i) [
  | inl q ↦ (j, omega arith, s.1 p ∙ (ap (λ x. get_or xs x p) (sym q) ∙ e))
  | inr a ↦ elim (cases_eq k j) [
    | inl q ↦ (i, omega arith, s.0 p ∙ (ap (λ x. get_or xs x p) (sym q) ∙ e))
    | inr b ↦ (k, omega arith, s.2 k p a b ∙ e)
  ]
]

-- two of the places exchanged
pub IsOrder-swapped : (atoms : List Atom) (xs ys : List ℕ) (i j : ℕ) → i < length xs → j < length xs → length ys ≡ length xs → SwappedAt xs ys i j → IsOrder atoms xs →
    IsOrder atoms ys
IsOrder-swapped atoms xs ys i j l m size s o = record {
  places = record { within = λ p c. o.places.within p (Contains-from_swapped xs ys i j p l m size s c) };
  all = λ p n. Contains-swapped xs ys i j p l m size s (o.all p n);
}
