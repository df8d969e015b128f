-- Shelves in memory: their files, and what a pull of them answers.
use Rattle.std.specs.Prelude.{◌≡◌, ◌-◌, ◌++◌, ◌⊎◌, ℕ, List, [], ◌∷◌, length, take, drop, min, map, cond, Contains, Option, Some, None, Result, Ok, Err, IfSome, unwrap_or, string_bytes, bytes_eq}
use Rattle.std.specs.declared.string.String.{String}
use Rattle.std.specs.declared.alloc.Global.{Global}
use Rattle.std.specs.Global.{Vec}
use Rattle.ucq_outside.specs.Causes.{raised, faults_after}

-- files: of each its name and its bytes
abbrev pub Files : Type 0
Files = List (List ℕ × List ℕ)

-- the files that a list of names and bytes stands for
abbrev pub files_of : List (String Global × Vec ℕ) → Files
files_of files = map (λ f. (string_bytes f.0, f.1.items)) files

-- the bytes of the file of that name; of files with equal names the first counts
abbrev pub file_named : List ℕ → Files → Option (List ℕ)
file_named name [] = None
file_named name (file ∷ files) = cond (bytes_eq file.0 name) (Some file.1) (file_named name files)

-- a name that isn't held stands for an empty file
abbrev pub file_or_empty : List ℕ → Files → List ℕ
file_or_empty name files = unwrap_or (file_named name files) []

-- a shelf of which some calls fail: the files, the numbers of those calls, the number of the next call, the faults so far
pub record FailingShelf : Type 0 where
  pub files : Files
  pub failing : List ℕ
  pub calls : ℕ
  pub faults : ℕ

-- how many bytes of a file from that place on fit into that room
abbrev pub fitting : List ℕ → ℕ → ℕ → ℕ
fitting file place room = min room (length file - place)

-- the buffer whose first n bytes are those of the file from that place on, and whose others are as before
abbrev pub filled : List ℕ → ℕ → ℕ → List ℕ → List ℕ
filled file place n buffer = take n (drop place file) ++ drop n buffer

-- The answer is the count of the bytes that fit, and the buffer has them.
pub record Gives (file : List ℕ) (place : ℕ) (before now : List ℕ) (n : ℕ) : Type 0 where
  pub count : n ≡ fitting file place (length before)
  pub buffer : now ≡ filled file place n before

-- a call fails where its number is listed or the name isn't held
abbrev pub IsFailing : FailingShelf → List ℕ → Type 0
IsFailing shelf name = Contains shelf.failing shelf.calls ⊎ (file_named name shelf.files ≡ None)

-- the shelf after a call: its number counted, and a fault if it was one
abbrev pub shelf_after : {E : Type 0} → Result ℕ E → FailingShelf → FailingShelf
shelf_after result shelf = record shelf { calls = raised shelf.calls 1; faults = faults_after result shelf.faults }

-- What a pull of a failing shelf answers: a fault exactly where the call is failing, which leaves the buffer, and else as
-- many bytes of the file of that name as fit.
abbrev pub Pulls : {E : Type 0} → FailingShelf → List ℕ → ℕ → List ℕ → List ℕ → Result ℕ E → Type 0
Pulls shelf name place before now (Ok n) = ¬ (IsFailing shelf name) × IfSome (file_named name shelf.files) (λ file. Gives file place before now n)
Pulls shelf name place before now (Err e) = IsFailing shelf name × (now ≡ before)
