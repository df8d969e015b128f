-- Sums of counts, in a type that saturates.
use Rattle.std.specs.Prelude.{◌≡◌, ◌<◌, ◌-◌, ◌^◌, ℕ, List, length, min, sum, slice_index_or}

-- the most that the type of a count holds
abbrev pub most : ℕ
most = 2 ^ 64 - 1

-- The answer for a number with the property: the number itself, or the most where that is less.
pub record IsSaturated (P : ℕ → Type 0) (answer : ℕ) : Type 0 where
  pub number : ℕ
  pub is : P number
  pub answered : answer ≡ min number most

-- The number is the sum of counts, one for each place below `places`.
pub record IsSumOf (Counts : ℕ → ℕ → Type 0) (places number : ℕ) : Type 0 where
  pub counts : List ℕ
  pub many : length counts ≡ places
  pub each : (place : ℕ) → place < places → Counts place (slice_index_or counts place 0)
  pub total : number ≡ sum counts
