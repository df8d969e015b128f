-- What words ask for is within its ranges.
use Rattle.std.proofs.Common.{◌≡◌, ◌≤◌, ◌∙◌, ℕ, Bool, true, false, List, ap, arith}
use Rattle.std.specs.Prelude.{Option, Some, None, ◌||◌}
use Rattle.ucq_terms.specs.Syntax.{Query}
use Rattle.ucq_reader.specs.Input.{InputValue}
use Rattle.ucq_reader.specs.Made.{made}
use Rattle.ucq_print.specs.Laws.{IsHeldInput}
use Rattle.ucq_print.proofs.HeldNames.{made_has_texts, numbered_is_held}
use Rattle.ucq_print.proofs.InputHeld.{input_is_held}
use Rattle.ucq_words.specs.declared.values.Mode.TheVariants.{Plain}
use Rattle.ucq_words.specs.Settings.{IsJob, IsNumber, JobValue, files, make, mode_by, SettingsValue, StandFor}
use Rattle.ucq_run.specs.declared.form.Form.{Form}
use Rattle.ucq_run.specs.Finished.{question_of}
use Rattle.ucq_run.specs.Inputs.{IsInputOf, form_of}
use Rattle.ucq_run.specs.Parts.{Part, parts_in, parts_of}

-- a number within its range, which is that of the default too
pub record IsBetween (least most number : ℕ) : Type 0 where
  pub low : least ≤ number
  pub high : number ≤ most

between : (least most default : ℕ) (digits : Option (List ℕ)) (number : ℕ) → least ≤ default → default ≤ most → IsNumber least most default digits number → IsBetween least most number
between least most default (Some digits) number low high is = record { low = is.low; high = is.high }
between least most default None number low high is = record { low = omega (arith, is, low); high = omega (arith, is, high) }

pub budget_within : (words : List (List ℕ)) (v : SettingsValue) → StandFor words v → IsBetween 1 65536 v.budget
budget_within words v stand = between 1 65536 4096 _ v.budget (omega arith) (omega arith) stand.settings.budget

pub workers_within : (words : List (List ℕ)) (v : SettingsValue) → StandFor words v → IsBetween 1 64 v.workers
workers_within words v stand = between 1 64 1 _ v.workers (omega arith) (omega arith) stand.settings.workers

-- ---- a job that makes its input has no mode

made_is_alone : (value : Option (List ℕ)) (given : List (List ℕ)) (more : Bool) (job : JobValue) (number : ℕ) → job ≡ make number → IsJob value given more job → more ≡ false
made_is_alone None given more (files names) number e h = absurd cc
made_is_alone None given more (make other) number e h = absurd h
made_is_alone (Some digits) given more (files names) number e h = absurd h
made_is_alone (Some digits) given more (make other) number e h = h.plain

neither : (a b : Bool) → (a || b) ≡ false → b ≡ false
neither true b e = absurd cc
neither false b e = e

pub made_is_plain : (words : List (List ℕ)) (v : SettingsValue) (number : ℕ) → StandFor words v → v.job ≡ make number → v.mode ≡ Plain
made_is_plain words v number stand e = stand.settings.mode ∙ ap mode_by (neither _ _ (made_is_alone _ _ _ v.job number e stand.settings.job))

-- ---- parts

-- the parts in the form that is asked for
abbrev parts_as : SettingsValue → InputValue → Form → List Part
parts_as settings input form =
    parts_in settings.mode input.queries input.rules (λ (query : Query). record (question_of settings input query) { form = form }) input.names settings.budget

pub parts_in_form : (settings : SettingsValue) (input : InputValue) (form : Form) → form ≡ form_of settings → parts_as settings input form ≡ parts_of settings input
parts_in_form settings input form e = ap (parts_as settings input) e

-- each predicate and constant of the input that is asked has a name
pub asked_is_held : (held : List ℕ → Option (List ℕ)) (job : JobValue) (input : InputValue) → IsInputOf held job input → IsHeldInput input
asked_is_held held (files names) input has = input_is_held has.texts input has.stands_for
asked_is_held held (make number) input has = numbered_is_held (made number) input (made_has_texts number) has
