-- From clap's matches to the words.
use Rattle.std.proofs.Common.{◌≡◌, ◌∙◌, sym, subst, ℕ, Bool, List, codes, Err, Some, Option}
use Rattle.std.specs.Prelude.{MatchOption}
use Rattle.clap.specs.Walk.{Row, Text, first_of}
use Rattle.ucq_words.specs.declared.WordsFault.{WordsFault}
use Rattle.ucq_words.specs.declared.WordsFault.TheVariants.{BadWords, Memory}
use Rattle.ucq_words.specs.Command.{AreMatched, files_in}
use Rattle.ucq_words.specs.Settings.{SettingsValue, AreSettings, StandFor, IsJob, IsNumber, asks_more, AnswersJob, AnswersWords}

-- settings by the matches are what the words stand for
pub stand : (words : List Text) (rows : List Row) (v : SettingsValue) → AreMatched words rows → AreSettings rows v → StandFor words v
stand words rows v taken s = record {
  taken = taken.taken;
  settings = subst (λ (r : List Row). AreSettings r v) taken.are s;
}

-- and the other way round
pub by_matches : (words : List Text) (rows : List Row) (v : SettingsValue) → AreMatched words rows → StandFor words v → AreSettings rows v
by_matches words rows v taken s = subst (λ (r : List Row). AreSettings r v) (sym taken.are) s.settings

-- where there is no job, the words stand for nothing
pub no_job : (words : List Text) (rows : List Row) (more : Bool) (fault : WordsFault) → AreMatched words rows → more ≡ asks_more rows
    → AnswersJob (first_of (codes "make") rows) (files_in rows) more (Err fault) → AnswersWords words (Err fault)
no_job words rows more BadWords taken given none = λ v s.
    let at = by_matches words rows v taken s in
    none v.job (subst (λ (b : Bool). IsJob (first_of (codes "make") rows) (files_in rows) b v.job) (sym given) at.job)
no_job words rows more Memory taken given none = tt

-- the number that was read of an option
pub number_read : (N : Type 0) (least most default : ℕ) (value given : Option Text) (o : Option ℕ) (n : ℕ) → MatchOption o N (λ number. IsNumber least most default value number)
    → o ≡ Some n → value ≡ given → IsNumber least most default given n
number_read N least most default value given o n read is same =
    subst (λ (v : Option Text). IsNumber least most default v n) same
    (subst (λ (m : Option ℕ). MatchOption m N (λ number. IsNumber least most default value number)) is read)
