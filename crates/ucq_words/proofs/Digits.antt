-- The number that digits spell.
use Rattle.std.proofs.Common.{◌≡◌, ◌≤◌, ◌<◌, ◌+◌, ◌-◌, ◌*◌, ℕ, List, [], ◌∷◌, ◌++◌, length, take, drop, get_or, refl, sym, ap, ◌∙◌, subst, arith}
use Rattle.std.proofs.lemmas.List.{take_more, take-append-drop}
use Rattle.std.specs.Prelude.{fold}
use Rattle.ucq_words.specs.Settings.{value_of}

-- one more digit
abbrev pub with_digit : ℕ → ℕ → ℕ
with_digit n b = 10 * n + (b - 48)

value_from : (n : ℕ) (xs ys : List ℕ) → fold with_digit n (xs ++ ys) ≡ fold with_digit (fold with_digit n xs) ys
value_from n [] ys = refl
value_from n (x ∷ xs) ys = value_from (with_digit n x) xs ys

-- the first digits and the next one
pub value_of-more : (xs : List ℕ) (i : ℕ) → i < length xs → value_of (take (i + 1) xs) ≡ 10 * value_of (take i xs) + (get_or xs i 0 - 48)
value_of-more xs i inside = ap value_of (take_more xs i 0 inside) ∙ value_from 0 (take i xs) (get_or xs i 0 ∷ [])

grows : (n : ℕ) (xs : List ℕ) → n ≤ fold with_digit n xs
grows n [] = omega arith
grows n (x ∷ xs) = let h = grows (with_digit n x) xs in omega (arith, h)

-- the first digits spell no more than all of them
pub value_of-take : (xs : List ℕ) (i : ℕ) → value_of (take i xs) ≤ value_of xs
value_of-take xs i =
    let e : value_of xs ≡ fold with_digit (value_of (take i xs)) (drop i xs) = ap value_of (sym (take-append-drop i xs)) ∙ value_from 0 (take i xs) (drop i xs) in
    let h = grows (value_of (take i xs)) (drop i xs) in
    subst (λ (n : ℕ). value_of (take i xs) ≤ n) (sym e) h
