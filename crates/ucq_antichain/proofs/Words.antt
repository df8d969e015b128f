-- Bits of words that are joined, met, set and shifted.
use Rattle.std.proofs.Common.{◌≡◌, ℕ, ◌+◌, ◌-◌, ◌/◌, ◌%◌, ◌^◌, ◌<◌, ◌≤◌, ◌⊎◌, inl, inr, arith, subst, sym, ap, ◌∙◌}
use Rattle.std.specs.Prelude.{bit_and, bit_or}
use Rattle.std.specs.Int.{bit_at}
use Rattle.std.proofs.lemmas.Bool.{cases_eq, cases_order}
use Rattle.std.proofs.Math.Nat.{div-le_self}
use Rattle.std.proofs.lemmas.Nat.{div-add-mod', mod_below, pow_pos}
use Rattle.std.proofs.lemmas.Nat.Bits.{bit_at_and, bit_at_or, bit_at-lt, bit_at-zero, bit_at_cat_high, bit_at_above}

pub cases_below : (n m : ℕ) → (n < m) ⊎ (m ≤ n)
cases_below n m = elim (cases_eq n m) [
  | inl e ↦ inr (omega (arith, e))
  | inr ne ↦ elim (cases_order n m) [ inl e ↦ inr (omega (arith, e)) | inr (inl l) ↦ inl l | inr (inr g) ↦ inr (omega (arith, g)) ]
]

pub or_left : (a b i : ℕ) → bit_at a i ≡ 1 → bit_at (bit_or a b) i ≡ 1
or_left a b i e = let o = bit_at_or a b i in let l = bit_at-lt b i in omega arith

pub and_both : (a b i : ℕ) → bit_at a i ≡ 1 → bit_at b i ≡ 1 → bit_at (bit_and a b) i ≡ 1
and_both a b i e f = let o = bit_at_and a b i in omega arith

-- a bit of a word shifted by some places
pub bit_of_shifted : (n k i : ℕ) → k ≤ i → bit_at n i ≡ bit_at (n / 2 ^ k) (i - k)
bit_of_shifted n k i l =
    subst (λ (m : ℕ). bit_at m i ≡ bit_at (n / 2 ^ k) (i - k)) (div-add-mod' n (2 ^ k)) (bit_at_cat_high (n / 2 ^ k) k (n % 2 ^ k) i (mod_below n (2 ^ k) (pow_pos k)) l)

pub none_from : (n k i : ℕ) → k ≤ i → n / 2 ^ k ≡ 0 → bit_at n i ≡ 0
none_from n k i l none = bit_of_shifted n k i l ∙ subst (λ (m : ℕ). bit_at m (i - k) ≡ 0) (sym none) (bit_at-zero (i - k))

pub bit_at_place : (n k lowest : ℕ) → bit_at (n / 2 ^ k) lowest ≡ 1 → bit_at n (k + lowest) ≡ 1
bit_at_place n k lowest set =
    let back : k + lowest - k ≡ lowest = omega arith in
    bit_of_shifted n k (k + lowest) (omega arith) ∙ ap (λ (i : ℕ). bit_at (n / 2 ^ k) i) back ∙ set

pub place_within : (n k lowest width : ℕ) → n < 2 ^ width → bit_at (n / 2 ^ k) lowest ≡ 1 → k + lowest < width
place_within n k lowest width fits set = elim (cases_below (k + lowest) width) [
  | inl l ↦ l
  | inr g ↦
      let none : bit_at n (k + lowest) ≡ 0 = bit_at_above n width (k + lowest) fits g in
      let some = bit_at_place n k lowest set in
      absurd (omega (arith, none, some))
]

pub shifted_fits : (n k limit : ℕ) → n < limit → n / 2 ^ k < limit
shifted_fits n k limit fits = let l = div-le_self n (2 ^ k) in omega arith
