-- Places of atoms, in one order and another.
use Rattle.std.proofs.Common.{◌≡◌, ℕ, nat_eq, true, false, ◌<◌, ◌-◌, List, [], ◌∷◌, ◌++◌, length, take, drop, get_or, Contains, refl, sym, ap, ◌∙◌, subst, inl, inr, arith}
use Rattle.std.specs.List.{SwappedAt}
use Rattle.std.proofs.lemmas.List.{append-nil}
use Rattle.std.proofs.Math.Seq.{take-length, drop-length}
use Rattle.ucq_terms.specs.Syntax.{Atom}
use Rattle.ucq_terms.specs.Unifier.{atom_at}
use Rattle.ucq_terms.proofs.Equality.{IsEquality-nat_eq, eq_same}
use Rattle.ucq_terms.proofs.Lists.{Contains-first, Contains-rest, Contains-cons_cases}
use Rattle.ucq_hom.specs.Search.{ArePlaces}
use Rattle.ucq_hom.proofs.Found.{read_at}
use Rattle.ucq_hom.proofs.Ordered.{Contains-from_swapped, Contains-swapped}
use Rattle.ucq_eval.specs.inner.Join.{HasSamePlaces}

pub HasSamePlaces-refl : (xs : List ℕ) → HasSamePlaces xs xs
HasSamePlaces-refl xs = record { size = refl; each = λ p. (λ i. i, λ i. i) }

pub HasSamePlaces-trans : (xs ys zs : List ℕ) → HasSamePlaces xs ys → HasSamePlaces ys zs → HasSamePlaces xs zs
HasSamePlaces-trans xs ys zs s u = record {
  size = u.size ∙ s.size;
  each = λ p. (λ i. (s.each p).0 ((u.each p).0 i), λ i. (u.each p).1 ((s.each p).1 i));
}

-- two exchanged
pub HasSamePlaces-swapped : (xs ys : List ℕ) (i j : ℕ) → i < length xs → j < length xs → length ys ≡ length xs → SwappedAt xs ys i j → HasSamePlaces xs ys
HasSamePlaces-swapped xs ys i j l m size s = record {
  size = size;
  each = λ p. (λ k. Contains-from_swapped xs ys i j p l m size s k, λ k. Contains-swapped xs ys i j p l m size s k);
}

-- those after the first in another order
HasSamePlaces-rest : (x : ℕ) (xs ys : List ℕ) → HasSamePlaces xs ys → HasSamePlaces (x ∷ xs) (x ∷ ys)
HasSamePlaces-rest x xs ys s = record {
  size = let e = s.size in omega arith;
  each = λ p. (
    λ i. elim (Contains-cons_cases x ys p i) [
      | inl e ↦ subst (λ (y : ℕ). Contains (x ∷ xs) y) e (Contains-first x xs)
      | inr j ↦ Contains-rest x xs p ((s.each p).0 j)
    ],
    λ i. elim (Contains-cons_cases x xs p i) [
      | inl e ↦ subst (λ (y : ℕ). Contains (x ∷ ys) y) e (Contains-first x ys)
      | inr j ↦ Contains-rest x ys p ((s.each p).1 j)
    ],
  );
}

pub ArePlaces-same : (atoms : List Atom) (xs ys : List ℕ) → HasSamePlaces xs ys → ArePlaces atoms xs → ArePlaces atoms ys
ArePlaces-same atoms xs ys s a = record { within = λ p i. a.within p ((s.each p).0 i) }

-- the first place, and those after it as a part of the list
pub first_and_rest : (xs : List ℕ) → 0 < length xs → xs ≡ get_or xs 0 0 ∷ take (length xs - 1) (drop 1 xs)
first_and_rest [] l = absurd (omega arith)
first_and_rest (x ∷ xs) l =
    let n : length (x ∷ xs) - 1 ≡ length xs = omega arith in
    ap (λ (ys : List ℕ). x ∷ ys) (sym (ap (λ k. take k xs) n ∙ take-length xs))

-- the list with that part in another order
pub HasSamePlaces-part : (xs ys : List ℕ) → 0 < length xs → HasSamePlaces (take (length xs - 1) (drop 1 xs)) ys →
    HasSamePlaces xs (take 1 xs ++ (ys ++ drop (length xs - 1) (drop 1 xs)))
HasSamePlaces-part [] ys l s = absurd (omega arith)
HasSamePlaces-part (x ∷ xs) ys l s =
    let n : length (x ∷ xs) - 1 ≡ length xs = omega arith in
    let part : take (length (x ∷ xs) - 1) xs ≡ xs = ap (λ k. take k xs) n ∙ take-length xs in
    let after : drop (length (x ∷ xs) - 1) xs ≡ [] = ap (λ k. drop k xs) n ∙ drop-length xs in
    subst (λ (zs : List ℕ). HasSamePlaces (x ∷ xs) (x ∷ (ys ++ zs))) (sym after)
    (subst (λ (zs : List ℕ). HasSamePlaces (x ∷ xs) (x ∷ zs)) (sym (append-nil ys))
    (HasSamePlaces-rest x xs ys (subst (λ (zs : List ℕ). HasSamePlaces zs ys) part s)))

-- the first place, and those after it in another order
pub HasSamePlaces-first : (xs ys : List ℕ) → 0 < length xs → HasSamePlaces (take (length xs - 1) (drop 1 xs)) ys → HasSamePlaces xs (get_or xs 0 0 ∷ ys)
HasSamePlaces-first xs ys l s =
    let part = take (length xs - 1) (drop 1 xs) in
    subst (λ (zs : List ℕ). HasSamePlaces zs (get_or xs 0 0 ∷ ys)) (sym (first_and_rest xs l)) (HasSamePlaces-rest (get_or xs 0 0) part ys s)

-- an atom that was read at a place of an equal list
pub read_of : (xs ys : List Atom) (place : ℕ) (a : Atom) → xs ≡ ys → place < length ys → a ≡ get_or xs place a → a ≡ atom_at ys place
read_of xs ys place a e l r = read_at ys place a l (r ∙ ap (λ (zs : List Atom). get_or zs place a) e)

-- what the test of an empty list means
pub no_places : (xs : List ℕ) → nat_eq (length xs) 0 ≡ true → length xs ≡ 0
no_places xs e = eq_same nat_eq IsEquality-nat_eq (length xs) 0 e

pub some_place : (xs : List ℕ) → nat_eq (length xs) 0 ≡ false → 0 < length xs
some_place [] e = cc
some_place (x ∷ xs) e = omega arith
