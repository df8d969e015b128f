-- Sets of rows, one for each of 128 marks, as the bits of words.
use Rattle.std.specs.Prelude.{◌≡◌, ◌≢◌, ℕ, ◌+◌, ◌*◌, ◌/◌, ◌%◌, ◌<◌, ◌≤◌, List, length, slice_index}
use Rattle.std.specs.Int.{bit_at}

-- each set has so many words; those of the same 64 rows stand together, one for each mark
pub record Sets : Type 0 where
  pub width : ℕ
  pub words : List ℕ

-- the row is in the set of the mark
abbrev pub IsIn : Sets → ℕ → ℕ → Type 0
IsIn sets mark row = bit_at (slice_index sets.words (128 * (row / 64) + mark)) (row % 64) ≡ 1

-- a row that was in a set stays there
pub record Keeps (before after : Sets) : Type 0 where
  pub width : after.width ≡ before.width
  pub each : (mark row : ℕ) → IsIn before mark row → IsIn after mark row

-- the row is in the set whose words these are
abbrev pub IsAmong : List ℕ → ℕ → Type 0
IsAmong words row = bit_at (slice_index words (row / 64)) (row % 64) ≡ 1

-- the set has as many words, and each row but this one is in it where it was before
pub record IsSameBut (before after : List ℕ) (row : ℕ) : Type 0 where
  pub count : length after ≡ length before
  pub others : (other : ℕ) → other ≢ row → bit_at (slice_index after (other / 64)) (other % 64) ≡ bit_at (slice_index before (other / 64)) (other % 64)

-- the list has just the marks that are bits of the number
pub record IsListOf (list : List ℕ) (marks : ℕ) : Type 0 where
  pub few : length list ≤ 128
  pub only : (k : ℕ) → k < length list → (slice_index list k < 128) × (bit_at marks (slice_index list k) ≡ 1)
  pub all : (mark : ℕ) → mark < 128 → bit_at marks mark ≡ 1 → (k : ℕ) × (k < length list) × (slice_index list k ≡ mark)
