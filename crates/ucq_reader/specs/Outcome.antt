-- What the reader answers.
use Rattle.std.specs.Prelude.{◌≡◌, ℕ, ◌+◌, ◌≤◌, List, [], ◌∷◌, ◌++◌, map, length, sum_by, Option, Some, None, Ok, Err}
use Rattle.std.specs.declared.vec.Vec.{Vec}
use Rattle.std.specs.declared.alloc.Global.{Global}
use Rattle.ucq_reader.specs.declared.input.Input.{Input}
use Rattle.ucq_reader.specs.declared.ReadFault.{ReadFault}
use Rattle.ucq_reader.specs.declared.ReadFault.TheVariants.{Memory}
use Rattle.ucq_reader.specs.Statement.{Statement, spelling}
use Rattle.ucq_reader.specs.declared.names.Declaration.{Declaration}
use Rattle.ucq_reader.specs.Names.{declare}
use Rattle.ucq_reader.specs.View.{declared_view}
use Rattle.ucq_reader.specs.Meaning.{Meant, Placed, FileRead, statement_fault, parsed, placed_from, file_fault, meant}
use Rattle.ucq_reader.specs.Input.{InputValue, IsRead, HasNumbersOf, IsRefused}
use Rattle.ucq_reader.specs.Gathered.{GatheredValue, IsGathered}

-- want of memory is free; of every other fault this holds
abbrev pub OrMemory : (ReadFault → Type 0) → ReadFault → Type 0
OrMemory P Memory = Unit {0}
OrMemory P fault = P fault

-- ---- statements

-- these statements have been taken
abbrev pub AreTakenUp : List Placed → GatheredValue → GatheredValue → Type 0
AreTakenUp more old new = (all : List Placed) → IsGathered all old → IsGathered (all ++ more) new

-- at most so many names have come, so many unknown values and so many queries
pub record GrowsBy (old new : GatheredValue) (count : ℕ) : Type 0 where
  pub names : length new.names ≤ length old.names + count
  pub unknowns : new.unknowns ≤ old.unknowns + count
  pub asked : new.asked ≤ old.asked + count

-- The statement has no refusal of its own and has been taken, with so many tokens, and these are the prefix lines up to it.
pub record IsAdmitted (text : List ℕ) (p : Placed) (count : ℕ) (before after : List Declaration) (old new : GatheredValue) : Type 0 where
  pub clear : statement_fault p ≡ None
  pub taken : AreTakenUp (p ∷ []) old new
  pub grown : GrowsBy old new count
  pub declared : declared_view text after ≡ declare (declared_view text before) p.statement

-- an earlier refusal stays; where there is none, the statement is admitted, or it has a refusal of its own
abbrev pub IsJudged : Option ReadFault → Placed → Type 0 → Option ReadFault → Type 0
IsJudged (Some fault) p admitted result = result ≡ Some fault
IsJudged None p admitted (Some fault) = OrMemory (λ (g : ReadFault). statement_fault p ≡ Some g) fault
IsJudged None p admitted None = admitted

-- how many words they have
abbrev pub word_count : List Placed → ℕ
word_count all = sum_by (λ (p : Placed). length (spelling p.statement)) all

-- ---- files

-- the bytes of the files
abbrev pub texts : List (Vec ℕ Global) → List (List ℕ)
texts files = map (λ (f : Vec ℕ Global). f.items) files

-- how many bytes they have
abbrev pub byte_count : List (List ℕ) → ℕ
byte_count files = sum_by length files

-- the file is a list of statements of which none is refused, and they have been taken
pub record IsFileTaken (file : ℕ) (text : List ℕ) (old new : GatheredValue) : Type 0 where
  pub statements : List Statement
  pub places : List ℕ
  pub read : IsRead file text (parsed statements places)
  pub clear : file_fault file (parsed statements places) ≡ None
  pub taken : AreTakenUp (placed_from file 0 places [] statements) old new
  pub grown : GrowsBy old new (length text)
  pub few : word_count (placed_from file 0 places [] statements) ≤ length text

-- this is the first refusal of the file
abbrev pub IsFileFault : ℕ → List ℕ → ReadFault → Type 0
IsFileFault file text fault = (read : FileRead) × IsRead file text read × (file_fault file read ≡ Some fault)

-- ---- the whole

-- the parts, as contracts see them
abbrev pub input_value : Input → InputValue
input_value i = record { names = i.names; rules = i.rules.items; queries = i.queries.items; facts = i.facts.items }

-- what is gathered has the numbers of what is meant
abbrev pub IsMeant : Meant → GatheredValue → Type 0
IsMeant m g = HasNumbersOf m (record { names = g.names; rules = g.rules; queries = g.queries; facts = g.facts })

-- why statements, of which none is refused, stand for no input; or that this has been gathered of what they stand for
abbrev pub IsDecidedBy : List Placed → GatheredValue → Option ReadFault → Type 0
IsDecidedBy all g (Some fault) = meant all ≡ Err fault
IsDecidedBy all g None = (m : Meant) × (meant all ≡ Ok m) × IsMeant m g

-- the files are refused so
abbrev pub IsFault : List (List ℕ) → ReadFault → Type 0
IsFault files fault = OrMemory (IsRefused files) fault
