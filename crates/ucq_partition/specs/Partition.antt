-- Classes of numbers, which chains of joins make.
use Rattle.std.specs.Prelude.{◌≡◌, ℕ, ◌<◌, ◌≤◌, List, length, map, Contains, slice_index_or, nat_eq, if◌then◌else◌}

-- a chain of joins links the two numbers
pub data AreLinked (joins : List (ℕ × ℕ)) : ℕ → ℕ → Type 0 where
  alone : {a : ℕ} → AreLinked joins a a
  forth : {a b c : ℕ} → Contains joins (a, b) → AreLinked joins b c → AreLinked joins a c
  back : {a b c : ℕ} → Contains joins (b, a) → AreLinked joins b c → AreLinked joins a c

-- the label of a number
abbrev pub label_of : List ℕ → ℕ → ℕ
label_of labels a = slice_index_or labels a 0

-- The labels tell the classes that these joins make: those of a class are its least number.
pub record IsMadeBy (joins : List (ℕ × ℕ)) (labels : List ℕ) : Type 0 where
  -- each join is of numbers that have labels
  pub within : (join : ℕ × ℕ) → Contains joins join → (join.0 < length labels) × (join.1 < length labels)
  -- the two have one label
  pub kept : (join : ℕ × ℕ) → Contains joins join → label_of labels join.0 ≡ label_of labels join.1
  -- a number is linked to its label
  pub linked : (a : ℕ) → a < length labels → AreLinked joins a (label_of labels a)
  -- which isn't above it
  pub least : (a : ℕ) → a < length labels → label_of labels a ≤ a

-- the labels with one of them replaced by another
abbrev pub relabelled : List ℕ → ℕ → ℕ → List ℕ
relabelled labels from to = map (λ l. if nat_eq l from then to else l) labels
