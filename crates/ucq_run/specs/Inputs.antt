-- What the words of a run ask for, and the input that it is asked of.
use Rattle.std.specs.Prelude.{◌≡◌, ◌≤◌, ℕ, Bool, true, false, List, length, Option, IfSome}
use Rattle.ucq_lexer.specs.declared.TheConstants.{BYTES}
use Rattle.std.specs.List.{AllZip}
use Rattle.ucq_terms.specs.Syntax.{Problem, Query}
use Rattle.ucq_reader.specs.Input.{InputValue, IsInput, HasNumbersOf}
use Rattle.ucq_reader.specs.Outcome.{byte_count}
use Rattle.ucq_reader.specs.Made.{made}
use Rattle.ucq_words.specs.Settings.{JobValue, files, make, SettingsValue, StandFor}
use Rattle.ucq_run.specs.declared.form.Form.{Form}
use Rattle.ucq_run.specs.declared.form.Form.TheVariants.{Queries, Answers, Counts}

-- A run's words, the bytes of the files, where the shelf tells them, and the shelf's count of faults before and after.
pub record Call : Type 0 where
  pub words : List (List ℕ)
  pub held : List ℕ → Option (List ℕ)
  pub faults_before : ℕ
  pub faults_after : ℕ

abbrev pub call_of : List (List ℕ) → (List ℕ → Option (List ℕ)) → ℕ → ℕ → Call
call_of words held before after = record { words = words; held = held; faults_before = before; faults_after = after }

-- The texts of the files with these names, in their order: as the shelf tells them, where it does, and not too long together.
pub record AreFileTexts (held : List ℕ → Option (List ℕ)) (names texts : List (List ℕ)) : Type 0 where
  pub told : AllZip (λ (name text : List ℕ). IfSome (held name) (λ file. text ≡ file)) names texts
  pub short : byte_count texts ≤ BYTES

-- files were read that stand for the input
pub record IsReadInput (held : List ℕ → Option (List ℕ)) (names : List (List ℕ)) (input : InputValue) : Type 0 where
  pub texts : List (List ℕ)
  pub read : AreFileTexts held names texts
  pub stands_for : IsInput texts input

-- the input of a job: what its files stand for, or what is made for its number
abbrev pub IsInputOf : (List ℕ → Option (List ℕ)) → JobValue → InputValue → Type 0
IsInputOf held (files names) input = IsReadInput held names input
IsInputOf held (make number) input = HasNumbersOf (made number) input

-- 1 to 64 files, or a number of 1 to 4,000
abbrev pub IsJobWithin : JobValue → Type 0
IsJobWithin (files names) = (1 ≤ length names) × (length names ≤ 64)
IsJobWithin (make number) = (1 ≤ number) × (number ≤ 4000)

-- the problem of an input's rules and one of its queries
abbrev pub problem_of : InputValue → Query → Problem
problem_of input query = record { rules = input.rules; query = query }

-- how a finished union of a job is printed: its counts where the input is made, else its queries, with answers where they are asked for
abbrev pub job_form : Bool → JobValue → Form
job_form answers (make number) = Counts
job_form true (files names) = Answers
job_form false (files names) = Queries

abbrev pub form_of : SettingsValue → Form
form_of settings = job_form settings.answers settings.job

-- the words stand for the settings, and their job has the input
pub record IsAsked (call : Call) (settings : SettingsValue) (input : InputValue) : Type 0 where
  pub stand : StandFor call.words settings
  pub has : IsInputOf call.held settings.job input
