-- Sorted lists of sets, and the sets of which no other one is a part. A set is a rising list.
use Rattle.std.specs.Prelude.{◌≡◌, ℕ, suc, ◌+◌, ◌<◌, ◌≤◌, List, [], ◌∷◌, length, map, take, drop, Some, All, Contains, ◌⊎◌, ◌↔◌, slice_get}
use Rattle.std.specs.List.Sorted.{IsStrictlySortedBy}
use Rattle.std.specs.Ordering.{nat_cmp}
use Rattle.std.specs.Cmp.Lexicographic.{slice_cmp}

-- the sets in lexicographic order, each once
abbrev pub AreSorted : List (List ℕ) → Type 0
AreSorted sets = IsStrictlySortedBy (slice_cmp nat_cmp) sets

-- each of the lists has that many places, and behind them the lists are sorted, each once
pub record AreSortedBehind (depth : ℕ) (sets : List (List ℕ)) : Type 0 where
  pub long : All (λ set. depth ≤ length set) sets
  pub sorted : AreSorted (map (drop depth) sets)

-- the sets that were found, sorted
pub record AreSortedFrom (found sets : List (List ℕ)) : Type 0 where
  pub each : (set : List ℕ) → Contains sets set ↔ Contains found set
  pub sorted : AreSorted sets

-- the first place, counted from 1, and 0 where there is none
abbrev pub key_of : List ℕ → ℕ
key_of [] = 0
key_of (place ∷ places) = suc place

-- so many of the sets end at the depth or have a place below the end there, and the others don't
pub record IsCutAt (depth end : ℕ) (sets : List (List ℕ)) (count : ℕ) : Type 0 where
  pub before : All (λ set. key_of (drop depth set) ≤ end) (take count sets)
  pub behind : All (λ set. end < key_of (drop depth set)) (drop count sets)

-- those of the sets that have the place at the depth, which are sorted behind it
pub record AreBeginning (depth place : ℕ) (sets beginning : List (List ℕ)) : Type 0 where
  pub each : (set : List ℕ) → Contains beginning set ↔ (Contains sets set × (slice_get set depth ≡ Some place))
  pub sorted : AreSortedBehind (depth + 1) beginning

-- the first list is left of the second where elements are taken out
abbrev pub IsSubsequence : List ℕ → List ℕ → Type 0
IsSubsequence [] ys = Unit {0}
IsSubsequence (x ∷ xs) [] = ⊥
IsSubsequence (x ∷ xs) (y ∷ ys) = ((x ≡ y) × IsSubsequence xs ys) ⊎ IsSubsequence (x ∷ xs) ys

-- one of the sets has fewer places than the size, and behind the depth a subsequence of the places
pub record SomePart (depth : ℕ) (places : List ℕ) (size : ℕ) (sets : List (List ℕ)) : Type 0 where
  pub part : List ℕ
  pub among : Contains sets part
  pub smaller : length part < size
  pub left : IsSubsequence (drop depth part) places

-- Those of the first sets of which no set is a part, in their order.
pub record AreMinimalBefore (sets done minimal : List (List ℕ)) : Type 0 where
  pub each : (set : List ℕ) → Contains minimal set ↔ (Contains done set × ¬ SomePart 0 set (length set) sets)
  pub sorted : AreSorted minimal

-- Those of the sets of which no other one is a part, in their order.
abbrev pub AreMinimal : List (List ℕ) → List (List ℕ) → Type 0
AreMinimal sets minimal = AreMinimalBefore sets sets minimal
