-- Chains of rows by links, each to an earlier row.
use Rattle.std.specs.Prelude.{◌≡◌, ◌≢◌, ℕ, zero, suc, ◌+◌, ◌*◌, ◌<◌, List, length, slice_index}
use Rattle.std.specs.Int.{bit_at}

-- The first link of each chain, what follows each link, and for how many links there is room. Link 0 is the end of a chain, and
-- the link of a row is one more than the row.
pub record Chained : Type 0 where
  pub heads : List ℕ
  pub next : List ℕ
  pub room : ℕ

-- the link so many steps after one
abbrev pub follow : List ℕ → ℕ → ℕ → ℕ
follow next link zero = link
follow next link (suc steps) = follow next (slice_index next link) steps

-- one link is some steps after another
pub record Reaches (next : List ℕ) (link to : ℕ) : Type 0 where
  pub steps : ℕ
  pub there : follow next link steps ≡ to

-- the row is in the chain of the key
abbrev pub IsInChain : Chained → ℕ → ℕ → Type 0
IsInChain chains key row = Reaches chains.next (slice_index chains.heads key) (row + 1)

-- a row that was in a chain stays there
pub record Keeps (before after : Chained) : Type 0 where
  pub each : (key row : ℕ) → IsInChain before key row → IsInChain after key row

-- so does each row but that of a link
pub record KeepsBut (before after : Chained) (link : ℕ) : Type 0 where
  pub each : (key row : ℕ) → row + 1 ≢ link → IsInChain before key row → IsInChain after key row

-- Each link leads to an earlier one, and the last to the end. A chain of two marks with a row in it is noted.
pub record AreChains (heads next filled : List ℕ) : Type 0 where
  pub count : length heads ≡ 16385
  pub sets : length filled ≡ 129
  pub begun : 0 < length next
  pub ends : slice_index next 0 ≡ 0
  pub falls : (link : ℕ) → 0 < link → link < length next → slice_index next link < link
  pub within : (key : ℕ) → slice_index heads key < length next
  pub noted : (i j : ℕ) → i < 128 → j < 128 → slice_index heads (128 * i + j) ≢ 0 → bit_at (slice_index filled i) j ≡ 1
