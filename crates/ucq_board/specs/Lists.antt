-- How often a number stands in a list.
use Rattle.std.specs.Prelude.{◌≡◌, ◌<◌, ◌+◌, ℕ, List, [], ◌∷◌, ◌==◌, nat_lt, if◌then◌else◌}

abbrev pub times : ℕ → List ℕ → ℕ
times x [] = 0
times x (y ∷ ys) = (if y == x then 1 else 0) + times x ys

-- how often x stands among the numbers below n: once or not at all
abbrev pub once_below : ℕ → ℕ → ℕ
once_below x n = if nat_lt x n then 1 else 0

-- the list has the numbers below n, each once, and no others
abbrev pub AreBelow : List ℕ → ℕ → Type 0
AreBelow xs n = (x : ℕ) → times x xs ≡ once_below x n

-- no number stands in the list twice
abbrev pub AreOnce : List ℕ → Type 0
AreOnce xs = (x : ℕ) → times x xs < 2
