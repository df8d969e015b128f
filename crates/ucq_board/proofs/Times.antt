-- How often a number stands in a list.
use Rattle.std.proofs.Common.{◌≡◌, ◌≤◌, ◌<◌, ◌+◌, ◌≢◌, ℕ, zero, suc, min, Bool, true, false, if◌then◌else◌, List, [], ◌∷◌, ◌++◌, length, Contains, slice_index_or, eq-eqb, ne_eqb, eq-zero-or-pos, arith, ap, ⊎_elim}
use Rattle.std.proofs.lemmas.Grind.{common_steps}
use Rattle.std.proofs.lemmas.Bool.{cases_eq}
use Rattle.std.specs.Prelude.{◌==◌, nat_lt}
use Rattle.ucq_board.specs.Lists.{times, once_below}

pub times_snoc : (x : ℕ) (xs : List ℕ) (y : ℕ) → times x (xs ++ y ∷ []) ≡ times x xs + (if y == x then 1 else 0)
times_snoc x [] y = omega arith
times_snoc x (z ∷ zs) y = let h = times_snoc x zs y in omega arith

pub times_append : (x : ℕ) (xs ys : List ℕ) → times x (xs ++ ys) ≡ times x xs + times x ys
times_append x [] ys = omega arith
times_append x (z ∷ zs) ys = let h = times_append x zs ys in omega arith

pub once_next : (x n r : ℕ) → n < r → once_below x (min (n + 1) r) ≡ once_below x (min n r) + (if n == x then 1 else 0)
once_next x n r l = grind (arith, common_steps)

pub once_past : (x n r : ℕ) → r ≤ n → once_below x (min (n + 1) r) ≡ once_below x (min n r)
once_past x n r l = let a : min (n + 1) r ≡ min n r = omega arith in ap (once_below x) a

pub once_small : (x n : ℕ) → once_below x n < 2
once_small x n = go (nat_lt x n)
  where
    go : (b : Bool) → (if b then 1 else 0) < 2
    go true = omega arith
    go false = omega arith

-- a number isn't among those below a smaller one
pub none_below : (n r : ℕ) → once_below n (min n r) ≡ 0
none_below n r = grind (arith, common_steps)

-- the number that is added is there once more
pub one_more : (x y : ℕ) → y ≡ x → ◌≡◌ {A = ℕ} (if y == x then 1 else 0) 1
one_more x y e = ap (λ (b : Bool). let one : ℕ = 1 in if b then one else 0) (eq-eqb y x e)

pub not_more : (x y : ℕ) → y ≢ x → ◌≡◌ {A = ℕ} (if y == x then 1 else 0) 0
not_more x y n = ap (λ (b : Bool). let one : ℕ = 1 in if b then one else 0) (ne_eqb y x n)

at_times : (x : ℕ) (xs : List ℕ) (k : ℕ) → k < length xs → slice_index_or xs k x ≡ x → 1 ≤ times x xs
at_times x [] k l e = absurd (omega arith)
at_times x (y ∷ ys) zero l e = let a = one_more x y e in omega arith
at_times x (y ∷ ys) (suc k) l e = let h = at_times x ys k (omega arith) e in omega arith

-- an element stands in the list
pub contained_times : (x : ℕ) (xs : List ℕ) → Contains xs x → 1 ≤ times x xs
contained_times x xs h = at_times x xs h.0 h.1 h.2

pub times_contained : (x : ℕ) (xs : List ℕ) → 1 ≤ times x xs → Contains xs x
times_contained x [] h = absurd (omega arith)
times_contained x (y ∷ ys) h =
    ⊎_elim (λ e. (0, omega arith, e))
    (λ n. let a = not_more x y n in let t = times_contained x ys (omega arith) in let l = t.1 in (suc t.0, omega arith, t.2))
    (cases_eq y x)

pub absent_times : (x : ℕ) (xs : List ℕ) → ¬ Contains xs x → times x xs ≡ 0
absent_times x xs none = ⊎_elim (λ z. z) (λ some. absurd (none (times_contained x xs some))) (eq-zero-or-pos (times x xs))

pub times_absent : (x : ℕ) (xs : List ℕ) → times x xs ≡ 0 → ¬ Contains xs x
times_absent x xs e h = let a = contained_times x xs h in absurd (omega arith)

pub once_within : (x n : ℕ) → 1 ≤ once_below x n → x < n
once_within x n h = grind (arith, common_steps)
