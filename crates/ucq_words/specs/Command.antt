-- The command by which clap reads the words, and what it makes of them.
use Rattle.std.specs.Prelude.{◌≡◌, true, List, [], Some, codes, Result, Ok, Err, unwrap_or}
use Rattle.clap.specs.Walk.{Rule, Row, Text, all_of, rows_of}
use Rattle.clap.specs.Simple.{App, new_app, new_rule, with_rule, on_top, matches_of}
use Rattle.clap.specs.Faults.{fault_of}
use Rattle.clap.specs.Matches.{found_of}
use Rattle.clap.specs.declared.builder.action.ArgAction.TheVariants.{SetTrue, Append}
use Rattle.clap.specs.declared.parser.matches.ArgMatches.{ArgMatches}
use Rattle.ucq_words.specs.declared.WordsFault.{WordsFault}
use Rattle.ucq_words.specs.declared.WordsFault.TheVariants.{BadWords, Memory}

-- an option with one value, any text
abbrev pub option_rule : Text → Rule
option_rule name = record (new_rule name) { long = Some name }

-- a flag
abbrev pub flag_rule : Text → Rule
flag_rule name = record (new_rule name) { long = Some name; action = Some SetTrue }

-- any number of files
abbrev pub files_rule : Rule
files_rule = record (new_rule (codes "file")) { action = Some Append }

-- a command without arguments, and without its help and version flags; its words begin after the program's name
abbrev pub bare : App
bare = on_top (λ s. record s { no_binary_name = true; disable_help_flag = true; disable_version_flag = true }) (new_app (codes "ucq"))

-- with the flags
abbrev pub with_flags : App → App
with_flags app = with_rule (with_rule app (flag_rule (codes "answers"))) (flag_rule (codes "within"))

-- `ucq [--workers N] [--budget N] [--make N] [--answers] [--within] FILE...`
abbrev pub command : App
command = with_rule (with_flags (with_rule (with_rule (with_rule bare (option_rule (codes "workers"))) (option_rule (codes "budget"))) (option_rule (codes "make")))) files_rule

-- the files, in their order
abbrev pub files_in : List Row → List Text
files_in rows = unwrap_or (all_of (codes "file") rows) []

-- clap takes the words, and these are its matches
pub record AreMatched (words : List Text) (rows : List Row) : Type 0 where
  pub taken : fault_of command words ≡ []
  pub are : rows ≡ matches_of command words

-- clap takes the words and gives its matches, or it doesn't take them
abbrev pub Matches : List Text → Result ArgMatches WordsFault → Type 0
Matches words (Ok m) = AreMatched words (rows_of (found_of m))
Matches words (Err BadWords) = fault_of command words ≡ [] → ⊥
Matches words (Err Memory) = Unit {0}
