-- What is read of a file, and what a sink takes.
use Rattle.std.specs.Prelude.{◌≡◌, ◌≤◌, ◌<◌, ◌++◌, ℕ, List, length, take, drop, Option, Some, Result, Ok, Err, IfSome}

-- The first n bytes of a buffer are those of the file from that place on, and none are given only at its end or into no room.
pub record IsPiece (file : List ℕ) (place n : ℕ) (buffer : List ℕ) : Type 0 where
  pub bytes : take n buffer ≡ take n (drop place file)
  pub at_end : n ≡ 0 → 0 < length buffer → length file ≤ place

-- Where what was taken is told after a push, it was told before and has grown by the bytes that were taken of the piece. A
-- push that failed leaves it.
abbrev pub TakesPiece : {E : Type 0} → Option (List ℕ) → Option (List ℕ) → List ℕ → Result ℕ E → Type 0
TakesPiece before now piece (Ok n) = IfSome now (λ bytes. (old : List ℕ) × (before ≡ Some old) × (bytes ≡ old ++ take n piece))
TakesPiece before now piece (Err e) = now ≡ before
