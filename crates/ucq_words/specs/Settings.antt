-- The settings that words stand for.
use Rattle.std.specs.Prelude.{◌≡◌, ◌<◌, ◌≤◌, ◌+◌, ◌-◌, ◌*◌, ℕ, Bool, true, false, ◌||◌, List, [], length, fold, map, All, codes, string_bytes, Option, Some, None, Result, Ok, Err}
use Rattle.clap.specs.Walk.{Row, Text, first_of}
use Rattle.clap.specs.Takes.{is_given}
use Rattle.clap.specs.Simple.{matches_of}
use Rattle.clap.specs.Faults.{fault_of}
use Rattle.ucq_words.specs.Command.{command, files_in}
use Rattle.ucq_words.specs.declared.values.Job.{Job}
use Rattle.ucq_words.specs.declared.values.Job.TheVariants.{Files, Make}
use Rattle.ucq_words.specs.declared.values.Mode.{Mode}
use Rattle.ucq_words.specs.declared.values.Mode.TheVariants.{Plain, Within}
use Rattle.ucq_words.specs.declared.values.Settings.{Settings}
use Rattle.ucq_words.specs.declared.WordsFault.{WordsFault}
use Rattle.ucq_words.specs.declared.WordsFault.TheVariants.{BadWords, Memory}

-- ---- numbers

-- a byte from `0` to `9`
abbrev pub IsDigit : ℕ → Type 0
IsDigit b = (48 ≤ b) × (b ≤ 57)

-- the number that decimal digits spell
abbrev pub value_of : List ℕ → ℕ
value_of digits = fold (λ n b. 10 * n + (b - 48)) 0 digits

-- 1 to 9 digits that spell a number of this range
pub record SpellsNumber (least most : ℕ) (digits : Text) (number : ℕ) : Type 0 where
  pub some : 0 < length digits
  pub few : length digits ≤ 9
  pub each : All IsDigit digits
  pub value : number ≡ value_of digits
  pub low : least ≤ number
  pub high : number ≤ most

-- the number of an option: the one that its value spells, or the default where the option isn't given
abbrev pub IsNumber : ℕ → ℕ → ℕ → Option Text → ℕ → Type 0
IsNumber least most default (Some digits) number = SpellsNumber least most digits number
IsNumber least most default None number = number ≡ default

-- ---- settings

-- what is to be done: read these files, or make the input of this size
pub data JobValue : Type 0 where
  files : List Text → JobValue
  make : ℕ → JobValue

-- settings, as contracts compare them
pub record SettingsValue : Type 0 where
  pub workers : ℕ
  pub budget : ℕ
  pub answers : Bool
  pub mode : Mode
  pub job : JobValue

-- the job as the code has it
abbrev pub job_value : Job → JobValue
job_value (Files names) = files (map (λ name. string_bytes name) names.items)
job_value (Make number) = make number

-- the settings as the code has them
abbrev pub settings_value : Settings → SettingsValue
settings_value s = record { workers = s.workers; budget = s.budget; answers = s.answers; mode = s.mode; job = job_value s.job }

-- 1 to 64 files, in this order
pub record IsReading (given listed : List Text) : Type 0 where
  pub same : listed ≡ given
  pub some : 1 ≤ length given
  pub few : length given ≤ 64

-- the value of `--make` spells 1 to 4000, there is no file, and neither answers nor a mode are asked for
pub record IsMaking (digits : Text) (given : List Text) (more : Bool) (number : ℕ) : Type 0 where
  pub spelled : SpellsNumber 1 4000 digits number
  pub alone : given ≡ []
  pub plain : more ≡ false

-- the job by the value of `--make`, the files, and whether more is asked for, answers or a mode
abbrev pub IsJob : Option Text → List Text → Bool → JobValue → Type 0
IsJob None given more (files listed) = IsReading given listed
IsJob None given more (make number) = ⊥
IsJob (Some digits) given more (files listed) = ⊥
IsJob (Some digits) given more (make number) = IsMaking digits given more number

-- the mode, by whether `--within` is given
abbrev pub mode_by : Bool → Mode
mode_by true = Within
mode_by false = Plain

-- whether answers or a mode are asked for
abbrev pub asks_more : List Row → Bool
asks_more rows = is_given (codes "answers") rows || is_given (codes "within") rows

-- The settings by clap's matches: 1 to 64 workers, or 1 where their number isn't given; a budget of 1 to 65,536 rows, or of
-- 4,096; whether `--answers` is given; the mode; and the job.
pub record AreSettings (rows : List Row) (v : SettingsValue) : Type 0 where
  pub workers : IsNumber 1 64 1 (first_of (codes "workers") rows) v.workers
  pub budget : IsNumber 1 65536 4096 (first_of (codes "budget") rows) v.budget
  pub answers : v.answers ≡ is_given (codes "answers") rows
  pub mode : v.mode ≡ mode_by (is_given (codes "within") rows)
  pub job : IsJob (first_of (codes "make") rows) (files_in rows) (asks_more rows) v.job

-- The words stand for these settings: clap takes them, and its matches are these.
pub record StandFor (words : List Text) (v : SettingsValue) : Type 0 where
  pub taken : fault_of command words ≡ []
  pub settings : AreSettings (matches_of command words) v

-- the job, or that there is none
abbrev pub AnswersJob : Option Text → List Text → Bool → Result Job WordsFault → Type 0
AnswersJob value given more (Ok job) = IsJob value given more (job_value job)
AnswersJob value given more (Err BadWords) = (v : JobValue) → IsJob value given more v → ⊥
AnswersJob value given more (Err Memory) = Unit {0}

-- the settings that the words stand for, or that they stand for none
abbrev pub AnswersWords : List Text → Result Settings WordsFault → Type 0
AnswersWords words (Ok s) = StandFor words (settings_value s)
AnswersWords words (Err BadWords) = (v : SettingsValue) → StandFor words v → ⊥
AnswersWords words (Err Memory) = Unit {0}

-- words stand for at most one settings
abbrev pub OneSettings : Type 0
OneSettings = (words : List Text) (a b : SettingsValue) → StandFor words a → StandFor words b → a ≡ b
