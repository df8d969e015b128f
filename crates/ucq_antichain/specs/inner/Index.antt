-- The signatures of rows, and sets and chains by which the rows are found that may cover a query or be covered by it.
use Rattle.std.specs.Prelude.{◌≡◌, ℕ, ◌+◌, ◌*◌, ◌/◌, ◌<◌, ◌≤◌, ◌⊎◌, List, length, slice_index, slice_index_or}
use Rattle.std.specs.Int.{bit_at}
use Rattle.ucq_hom.specs.Signature.{Marks}
use Rattle.ucq_antichain.specs.inner.Sets.{Sets, IsIn, IsAmong}
use Rattle.ucq_antichain.specs.inner.Chains.{Chained, IsInChain}

-- the signatures of rows, with room for so many groups of 4,096, the rows that are kept, and chains of these
pub record Indexed : Type 0 where
  pub groups : ℕ
  pub signatures : List Marks
  pub kept : List ℕ
  pub chains : Chained

-- what a read past the end gives
abbrev pub no_marks : Marks
no_marks = record { first = 0; second = 0 }

abbrev pub signature_at : List Marks → ℕ → Marks
signature_at signatures row = slice_index_or signatures row no_marks

-- the number is a mark
abbrev pub IsMarkOf : ℕ → ℕ → Type 0
IsMarkOf marks mark = (mark < 128) × (bit_at marks mark ≡ 1)

-- the key is the pair of a mark with one of these others
pub record IsKeyBeside (others first key : ℕ) : Type 0 where
  pub second : ℕ
  pub low : second < 128
  pub bit : bit_at others second ≡ 1
  pub key_is : key ≡ 128 * first + second

-- 16384 is taken to be a key of every query, and the others are pairs of its marks
abbrev pub IsKeyOf : Marks → ℕ → Type 0
IsKeyOf marks key = (key ≡ 16384) ⊎ ((first : ℕ) × (first < 128) × (bit_at marks.first first ≡ 1) × IsKeyBeside marks.second first key)

-- the row is in the chain of one of its keys
pub record HasKey (chains : Chained) (marks : Marks) (row : ℕ) : Type 0 where
  pub key : ℕ
  pub own : IsKeyOf marks key
  pub among : IsInChain chains key row

-- there is a link for each row and for the end, and each row that is kept is in the chain of one of its keys
pub record AreChainsOf (chains : Chained) (signatures : List Marks) (kept : List ℕ) : Type 0 where
  pub size : length chains.next ≡ length signatures + 1
  pub ends : slice_index chains.next 0 ≡ 0
  pub keyed : (row : ℕ) → row < length signatures → IsAmong kept row → HasKey chains (signature_at signatures row) row

-- The sets have room for the rows. Each row is in the sets of all its marks, and its word is in the sets of words of these. Each
-- row that is kept is in the chain of one of its keys, and its word is among those of rows that are kept.
pub record IsIndex (groups : ℕ) (signatures : List Marks) (all words : Sets) (kept kept_words : List ℕ) (chains : Chained) : Type 0 where
  pub narrow : groups ≤ 16
  pub few : length signatures ≤ 4096 * groups
  pub all_width : all.width ≡ 64 * groups
  pub words_width : words.width ≡ groups
  pub kept_width : length kept ≡ 64 * groups
  pub kept_words_width : length kept_words ≡ groups
  pub row : (row mark : ℕ) → row < length signatures → IsMarkOf (signature_at signatures row).first mark → IsIn all mark row
  pub word : (row mark : ℕ) → row < length signatures → IsMarkOf (signature_at signatures row).first mark → IsIn words mark (row / 64)
  pub kept_word : (row : ℕ) → IsAmong kept row → IsAmong kept_words (row / 64)
  pub chained : AreChainsOf chains signatures kept
