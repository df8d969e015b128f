-- What a run is.
use Rattle.std.specs.Prelude.{◌≡◌, ◌≢◌, ◌<◌, ◌≤◌, ◌⊎◌, ◌↔◌, ℕ, List, Some, Result, Ok, Err, All}
use Rattle.ucq_lexer.specs.declared.TheConstants.{BYTES}
use Rattle.std.specs.Global.{Vec}
use Rattle.std.specs.List.{AllZip}
use Rattle.ucq_outside.specs.Causes.{Rose}
use Rattle.ucq_reader.specs.declared.ReadFault.{ReadFault}
use Rattle.ucq_reader.specs.Input.{InputValue, IsInput, IsRefused}
use Rattle.ucq_reader.specs.Outcome.{byte_count}
use Rattle.ucq_words.specs.Settings.{SettingsValue, StandFor, make}
use Rattle.ucq_run.specs.declared.outcome.Outcome.{Outcome}
use Rattle.ucq_run.specs.declared.outcome.Outcome.TheVariants.{NoMemory}
use Rattle.ucq_run.specs.Inputs.{Call, IsInputOf}
use Rattle.ucq_run.specs.Parts.{parts_of, HasEnoughFor}
use Rattle.ucq_run.specs.Causes.{IsCause, NameFiles}
use Rattle.ucq_outside.specs.Taken.{SinkChange, TookLine}
use Rattle.ucq_run.specs.Printed.{Prints}
use Rattle.ucq_run.specs.Outcomes.{outcome_line, status_of}

-- The sink took the line that was made, and the answer is the status; or there was no memory for a line.
abbrev pub IsTold : {E : Type 0} → SinkChange → Result (Vec ℕ) E → ℕ → ℕ → Type 0
IsTold sink (Ok line) status answer = (answer ≡ status) × TookLine sink line.items
IsTold sink (Err e) status answer = (answer ≡ 1) × TookLine sink (outcome_line NoMemory)

-- An outcome is told as it is, or as want of memory, where its line takes memory.
pub record IsReported (sink : SinkChange) (outcome : Outcome) (answer : ℕ) : Type 0 where
  pub told : Outcome
  pub same : (told ≡ outcome) ⊎ (told ≡ NoMemory)
  pub status : answer ≡ status_of told
  pub line : TookLine sink (outcome_line told)

-- A run comes to an outcome, which has its cause; it answers the outcome's status, the output took what the outcome says,
-- and the error stream its line.
pub record IsRun (call : Call) (out err : SinkChange) (answer : ℕ) : Type 0 where
  pub outcome : Outcome
  pub status : answer ≡ status_of outcome
  pub cause : IsCause call outcome
  pub prints : Prints call out outcome
  pub line : TookLine err (outcome_line outcome)

-- ---- what decides

-- The words name files, and the shelf tells the bytes of each.
pub record HoldsFiles (call : Call) (texts : List (List ℕ)) : Type 0 where
  pub names : List (List ℕ)
  pub named : NameFiles call.words names
  pub held : AllZip (λ (name text : List ℕ). call.held name ≡ Some text) names texts

-- And its count of faults didn't rise.
pub record TellsFiles (call : Call) (texts : List (List ℕ)) : Type 0 where
  pub files : HoldsFiles call texts
  pub sure : ¬ Rose call.faults_before call.faults_after

-- the files are too long together, or the reader refuses them
abbrev pub AreRefused : List (List ℕ) → Type 0
AreRefused texts = (BYTES < byte_count texts) ⊎ ((byte_count texts ≤ BYTES) × ((fault : ReadFault) × IsRefused texts fault))

-- the files stand for an input
abbrev pub AreReadable : List (List ℕ) → Type 0
AreReadable texts = (byte_count texts ≤ BYTES) × ((input : InputValue) × IsInput texts input)

-- finished or cut, or want of memory
abbrev pub IsAnswered : ℕ → Type 0
IsAnswered status = ((status ≡ 0) ⊎ (status ≡ 5)) ⊎ (status ≡ 1)

-- finished, or want of memory
abbrev pub IsFinishedOrWanting : ℕ → Type 0
IsFinishedOrWanting status = (status ≡ 0) ⊎ (status ≡ 1)

-- The words stand for settings whose budget is enough for each part.
pub record HasEnough (call : Call) (settings : SettingsValue) (input : InputValue) : Type 0 where
  pub stand : StandFor call.words settings
  pub enough : All HasEnoughFor (parts_of settings input)

-- Up to want of memory the words decide on status 2; where the shelf tells the files and doesn't fail, their bytes decide
-- between a refusal and an answer; and where the output doesn't fail either, files that stand for an input are answered,
-- and so is an input that is made. Where the budget is enough for each part, the answer isn't a cut.
pub record IsDecided (call : Call) (out : SinkChange) (status : ℕ) : Type 0 where
  pub words : status ≢ 1 → (status ≡ 2) ↔ ((settings : SettingsValue) → StandFor call.words settings → ⊥)
  pub refused : (texts : List (List ℕ)) → TellsFiles call texts → status ≢ 1 → (status ≡ 4) ↔ AreRefused texts
  pub answered : (texts : List (List ℕ)) → TellsFiles call texts → ¬ Rose out.faults_before out.faults_after → AreReadable texts → IsAnswered status
  pub finished :
      (texts : List (List ℕ)) (settings : SettingsValue) (input : InputValue) →
      TellsFiles call texts →
      ¬ Rose out.faults_before out.faults_after →
      byte_count texts ≤ BYTES →
      IsInput texts input →
      HasEnough call settings input →
      IsFinishedOrWanting status
  pub made : (settings : SettingsValue) (number : ℕ) → StandFor call.words settings → settings.job ≡ make number → ¬ Rose out.faults_before out.faults_after → IsAnswered status
  pub finished_made :
      (settings : SettingsValue) (number : ℕ) (input : InputValue) →
      settings.job ≡ make number →
      ¬ Rose out.faults_before out.faults_after →
      IsInputOf call.held settings.job input →
      HasEnough call settings input →
      IsFinishedOrWanting status

-- What is said of a top call: it is a run, and its status is decided so.
pub record IsFullRun (call : Call) (out err : SinkChange) (answer : ℕ) : Type 0 where
  pub run : IsRun call out err answer
  pub decided : IsDecided call out answer
