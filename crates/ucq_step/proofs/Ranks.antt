-- A number for each set of places, which grows along a walk.
use Rattle.std.proofs.Common.{◌≡◌, ◌+◌, ◌*◌, ◌-◌, ◌^◌, ◌<◌, ◌≤◌, ◌⊎◌, ℕ, zero, suc, List, [], ◌∷◌, length, Contains, ap, subst, inl, inr, arith}
use Rattle.std.proofs.Math.Nat.{pow-zero, pow-suc, mul-le-mul_left}
use Rattle.ucq_terms.proofs.Lists.{Contains-first, Contains-rest, Contains-empty}
use Rattle.ucq_join.specs.Walk.{ComesAfter, ArePieces, Walk, IsJoinOf}
use Rattle.ucq_join.proofs.Sets.{members_few}

-- the number with these digits less one, and zeros after them
pub rank : ℕ → ℕ → List ℕ → ℕ
rank base zero xs = 0
rank base (suc k) [] = 0
rank base (suc k) (x ∷ xs) = (x + 1) * base ^ k + rank base k xs

pow_positive : (base k : ℕ) → 0 < base → 0 < base ^ k
pow_positive base zero h = let e = pow-zero base in omega (arith, e)
pow_positive base (suc k) h =
    let p = pow_positive base k h in
    let e = pow-suc base k in
    let m : base ^ k * 1 ≤ base ^ k * base = mul-le-mul_left (base ^ k) (omega arith) in
    omega (arith, e, m, p)

-- all digits are below the base
pub record AreDigits (base : ℕ) (xs : List ℕ) : Type 0 where
  pub each : (x : ℕ) → Contains xs x → x + 1 < base

AreDigits-rest : (base x : ℕ) (xs : List ℕ) → AreDigits base (x ∷ xs) → AreDigits base xs
AreDigits-rest base x xs d = record { each = λ y c. d.each y (Contains-rest x xs y c) }

rank-below : (base k : ℕ) (xs : List ℕ) → 0 < base → AreDigits base xs → rank base k xs < base ^ k
unfolding rank
rank-below base zero xs h d = pow_positive base zero h
rank-below base (suc k) [] h d = pow_positive base (suc k) h
rank-below base (suc k) (x ∷ xs) h d =
    let p = base ^ k in
    let below : rank base k xs < p = rank-below base k xs h (AreDigits-rest base x xs d) in
    let digit : x + 1 < base = d.each x (Contains-first x xs) in
    let e : base ^ suc k ≡ p * base = pow-suc base k in
    let m : p * (x + 2) ≤ p * base = mul-le-mul_left p (omega arith) in
    omega (arith, below, e, m)

-- what comes after has a greater number
pub rank-after : (base k : ℕ) (xs ys : List ℕ) → 0 < base → AreDigits base xs → length ys ≤ k → ComesAfter xs ys → rank base k xs < rank base k ys
unfolding rank
rank-after base k [] [] h d l a = absurd a
rank-after base k (x ∷ xs) [] h d l a = absurd a
rank-after base zero xs (y ∷ ys) h d l a = absurd (omega arith)
rank-after base (suc k) [] (y ∷ ys) h d l a =
    let p = base ^ k in
    let some : 0 < p = pow_positive base k h in
    let m : p * 1 ≤ p * (y + 1) = mul-le-mul_left p (omega arith) in
    omega (arith, some, m)
rank-after base (suc k) (x ∷ xs) (y ∷ ys) h d l (inl less) =
    let p = base ^ k in
    let below : rank base k xs < p = rank-below base k xs h (AreDigits-rest base x xs d) in
    let m : p * (x + 2) ≤ p * (y + 1) = mul-le-mul_left p (omega arith) in
    omega (arith, below, m)
rank-after base (suc k) (x ∷ xs) (y ∷ ys) h d l (inr (e, a)) =
    let rest : rank base k xs < rank base k ys = rank-after base k xs ys h (AreDigits-rest base x xs d) (omega arith) a in
    let same : (x + 1) * base ^ k ≡ (y + 1) * base ^ k = ap (λ z. (z + 1) * base ^ k) e in
    omega (arith, rest, same)

-- how far the walk is from its end
pub left_of : Walk → ℕ
left_of w = (length w.pieces + 2) ^ length w.query.atoms - rank (length w.pieces + 2) (length w.query.atoms) w.present

digits_of_join : (w : Walk) (places : List ℕ) → IsJoinOf w places → AreDigits (length w.pieces + 2) places
digits_of_join w places J = record { each = λ p c. let l = J.within p c in omega (arith, l) }

-- it is less far after a step
pub left_of-next : (w : Walk) (next : List ℕ) → ArePieces w.query w.rule w.pieces → (w.present ≡ []) ⊎ IsJoinOf w w.present → IsJoinOf w next →
    ComesAfter w.present next → left_of (record w { present = next }) < left_of w
unfolding left_of
left_of-next w next P here J a =
    let base = length w.pieces + 2 in
    let k = length w.query.atoms in
    let few : length next ≤ k = members_few w.query w.rule w.pieces next P J in
    let digits : AreDigits base w.present = now here in
    let more : rank base k w.present < rank base k next = rank-after base k w.present next (omega arith) digits few a in
    let below : rank base k next < base ^ k = rank-below base k next (omega arith) (digits_of_join w next J) in
    omega (arith, more, below)
  where
    now : (w.present ≡ []) ⊎ IsJoinOf w w.present → AreDigits (length w.pieces + 2) w.present
    now (inl e) = record { each = λ p c. absurd (Contains-empty p (subst (λ (xs : List ℕ). Contains xs p) e c)) }
    now (inr j) = digits_of_join w w.present j
