-- Why a run printed nothing.
use Rattle.std.specs.Prelude.{◌≡◌, ◌<◌, ◌≤◌, ◌+◌, ℕ, List, length, take, slice_get, Option, Some, IfSome}
use Rattle.ucq_lexer.specs.declared.TheConstants.{BYTES}
use Rattle.ucq_outside.specs.Causes.{Rose}
use Rattle.ucq_reader.specs.declared.ReadFault.{ReadFault}
use Rattle.ucq_reader.specs.Input.{IsRefused}
use Rattle.ucq_reader.specs.Outcome.{byte_count}
use Rattle.ucq_words.specs.Settings.{JobValue, files, make, SettingsValue, StandFor}
use Rattle.ucq_run.specs.declared.outcome.Outcome.{Outcome}
use Rattle.ucq_run.specs.declared.outcome.Outcome.TheVariants.{NoMemory, BadWords, ReadFault as ReadFaultAt, TooLong, Refused}
use Rattle.ucq_run.specs.Inputs.{Call, AreFileTexts}

-- the place is within the file of that number, where the shelf tells it
pub record IsPlaceIn (held : List ℕ → Option (List ℕ)) (names : List (List ℕ)) (file at : ℕ) : Type 0 where
  pub name : List ℕ
  pub named : slice_get names file ≡ Some name
  pub within : IfSome (held name) (λ bytes. at ≤ length bytes)

-- The files before that one were read, and with it they are too long together.
pub record IsTooLong (held : List ℕ → Option (List ℕ)) (names : List (List ℕ)) (file : ℕ) : Type 0 where
  pub before : List (List ℕ)
  pub read : AreFileTexts held (take file names) before
  pub name : List ℕ
  pub named : slice_get names file ≡ Some name
  pub long : IfSome (held name) (λ bytes. BYTES < byte_count before + length bytes)

-- all files were read, and the reader has that refusal
pub record AreRefusedFor (held : List ℕ → Option (List ℕ)) (names : List (List ℕ)) (fault : ReadFault) : Type 0 where
  pub texts : List (List ℕ)
  pub read : AreFileTexts held names texts
  pub refused : IsRefused texts fault

-- why the file of that number wasn't read, after so many bytes of the files before it
abbrev pub IsUnreadAt : ℕ → Option (List ℕ) → ℕ → ℕ → ℕ → Outcome → Type 0
IsUnreadAt number held total before after NoMemory = Unit {0}
IsUnreadAt number held total before after (ReadFaultAt file at) = (file ≡ number) × Rose before after × IfSome held (λ bytes. at ≤ length bytes)
IsUnreadAt number held total before after (TooLong file) = (file ≡ number) × IfSome held (λ bytes. BYTES < total + length bytes)
IsUnreadAt number held total before after _ = ⊥

-- why files of these names, read from a shelf with these counts of faults, stand for no input
abbrev pub HaveCause : (List ℕ → Option (List ℕ)) → List (List ℕ) → ℕ → ℕ → Outcome → Type 0
HaveCause held names before after NoMemory = Unit {0}
HaveCause held names before after (ReadFaultAt file at) = Rose before after × IsPlaceIn held names file at
HaveCause held names before after (TooLong file) = IsTooLong held names file
HaveCause held names before after (Refused fault) = AreRefusedFor held names fault
HaveCause held names before after _ = ⊥

-- why texts stand for no input
abbrev pub IsRefusal : List (List ℕ) → Outcome → Type 0
IsRefusal texts (Refused fault) = IsRefused texts fault
IsRefusal texts NoMemory = Unit {0}
IsRefusal texts _ = ⊥

-- why a job has no input; a made one is wanting only for want of memory
abbrev pub IsJobCause : (List ℕ → Option (List ℕ)) → JobValue → ℕ → ℕ → Outcome → Type 0
IsJobCause held (files names) before after outcome = HaveCause held names before after outcome
IsJobCause held (make number) before after NoMemory = Unit {0}
IsJobCause held (make number) before after _ = ⊥

-- The words name these files.
pub record NameFiles (words : List (List ℕ)) (names : List (List ℕ)) : Type 0 where
  pub settings : SettingsValue
  pub stand : StandFor words settings
  pub job : settings.job ≡ files names

-- What an outcome says of the words, the files and the shelf's faults.
abbrev pub IsCause : Call → Outcome → Type 0
IsCause call BadWords = (settings : SettingsValue) → StandFor call.words settings → ⊥
IsCause call (ReadFaultAt file at) = (names : List (List ℕ)) × NameFiles call.words names × HaveCause call.held names call.faults_before call.faults_after (ReadFaultAt file at)
IsCause call (TooLong file) = (names : List (List ℕ)) × NameFiles call.words names × IsTooLong call.held names file
IsCause call (Refused fault) = (names : List (List ℕ)) × NameFiles call.words names × AreRefusedFor call.held names fault
IsCause call _ = Unit {0}
