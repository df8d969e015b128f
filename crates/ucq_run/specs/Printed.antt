-- What a run prints.
use Rattle.std.specs.Prelude.{◌≡◌, ◌⊎◌, ℕ, Bool, true, false, List, [], take, Result, Ok, Err}
use Rattle.ucq_outside.specs.Causes.{Rose}
use Rattle.ucq_outside.specs.Taken.{SinkChange, TookAll, TookPrefix}
use Rattle.ucq_reader.specs.Input.{InputValue}
use Rattle.ucq_words.specs.Settings.{SettingsValue}
use Rattle.ucq_run.specs.declared.outcome.Outcome.{Outcome}
use Rattle.ucq_run.specs.declared.outcome.Outcome.TheVariants.{Finished, Cut, NoMemory, WriteFault}
use Rattle.ucq_run.specs.declared.writing.Unwritten.{Unwritten}
use Rattle.ucq_run.specs.declared.writing.Unwritten.TheVariants.{Failed, Memory}
use Rattle.ucq_run.specs.Inputs.{Call, IsAsked}
use Rattle.ucq_run.specs.Parts.{Part, PartText, parts_of, IsTextOf, AreTextsOf, join, NoneIsCut, SomeIsCut}

-- this outcome, where all was written
abbrev pub IsWrittenAs : Result (Unit {0}) Unwritten → Outcome → Outcome → Type 0
IsWrittenAs (Ok u) whole outcome = outcome ≡ whole
IsWrittenAs (Err Failed) whole outcome = outcome ≡ WriteFault
IsWrittenAs (Err Memory) whole outcome = outcome ≡ NoMemory

-- ---- a part

-- it took a prefix of the part's text
abbrev pub PrintsSome : Part → SinkChange → Type 0
PrintsSome part out = (written : PartText) × IsTextOf part written × TookPrefix out written.text

-- it took the part's text whole, which is that of a cut or isn't
abbrev pub PrintsWhole : Part → SinkChange → Bool → Type 0
PrintsWhole part out cut = (text : List ℕ) × IsTextOf part (record { text = text; cut = cut }) × TookAll out text

-- What the output took of a part: its text whole, finished or cut; a prefix of it, where its count of faults rose; one of these or
-- nothing, for want of memory.
abbrev pub PrintsFor : Part → SinkChange → Outcome → Type 0
PrintsFor part out Finished = PrintsWhole part out false
PrintsFor part out Cut = PrintsWhole part out true
PrintsFor part out WriteFault = Rose out.faults_before out.faults_after × PrintsSome part out
PrintsFor part out NoMemory = TookAll out [] ⊎ PrintsSome part out
PrintsFor part out _ = ⊥

-- ---- all parts

-- the outcome where all are printed whole
abbrev pub ended : Bool → Outcome
ended true = Cut
ended false = Finished

-- the texts of all parts, whole and in their order, of which this holds
pub record PrintsAll (parts : List Part) (out : SinkChange) (P : List PartText → Type 0) : Type 0 where
  pub texts : List PartText
  pub are : AreTextsOf parts texts
  pub has : P texts
  pub took : TookAll out (join texts)

-- a prefix of the texts of the first parts, joined; there may be none of them
pub record PrintsBeginning (parts : List Part) (out : SinkChange) : Type 0 where
  pub count : ℕ
  pub texts : List PartText
  pub are : AreTextsOf (take count parts) texts
  pub took : TookPrefix out (join texts)

-- What the output took: the texts of all parts, of which none is cut, or some; or a prefix of the first ones, where its count of
-- faults rose or for want of memory.
abbrev pub PrintsParts : List Part → SinkChange → Outcome → Type 0
PrintsParts parts out Finished = PrintsAll parts out NoneIsCut
PrintsParts parts out Cut = PrintsAll parts out SomeIsCut
PrintsParts parts out WriteFault = Rose out.faults_before out.faults_after × PrintsBeginning parts out
PrintsParts parts out NoMemory = PrintsBeginning parts out
PrintsParts parts out _ = ⊥

-- the outcome comes before anything is printed
abbrev pub IsEarly : Outcome → Type 0
IsEarly Finished = ⊥
IsEarly Cut = ⊥
IsEarly WriteFault = ⊥
IsEarly _ = Unit {0}

-- What the output took of a run: what its parts print; or nothing, where the outcome comes before anything is printed.
pub record PrintsAsked (call : Call) (out : SinkChange) (outcome : Outcome) : Type 0 where
  pub settings : SettingsValue
  pub input : InputValue
  pub asked : IsAsked call settings input
  pub prints : PrintsParts (parts_of settings input) out outcome

abbrev pub Prints : Call → SinkChange → Outcome → Type 0
Prints call out outcome = PrintsAsked call out outcome ⊎ (IsEarly outcome × TookAll out [])
