-- The texts of the reader's refusals, each of which is a line of the error stream.
use Rattle.std.specs.Prelude.{ℕ, List, ◌++◌, codes, decimal}
use Rattle.ucq_reader.specs.declared.ReadFault.{ReadFault}
use Rattle.ucq_reader.specs.declared.ReadFault.TheVariants.{BadByte, BadStatement, OpenEnd, UnknownPrefix, NotBuilt, Limit, Unsafe, TooMany, NoQuery, Memory}
use Rattle.ucq_reader.specs.declared.NotBuiltKind.{NotBuiltKind}
use Rattle.ucq_reader.specs.declared.NotBuiltKind.TheVariants as kinds
use Rattle.ucq_reader.specs.declared.Which.{Which}
use Rattle.ucq_reader.specs.declared.Which.TheVariants as limits
use Rattle.ucq_reader.specs.declared.Whole.{Whole}
use Rattle.ucq_reader.specs.declared.Whole.TheVariants as wholes
use Rattle.ucq_print.specs.Texts.{line_feed}

abbrev pub kind_word : NotBuiltKind → List ℕ
kind_word kinds.Base = codes "base"
kind_word kinds.Top = codes "top"
kind_word kinds.Constraint = codes "constraint"

abbrev pub limit_word : Which → List ℕ
limit_word limits.Name = codes "name"
limit_word limits.Arity = codes "arity"
limit_word limits.Answers = codes "answers"
limit_word limits.Atoms = codes "atoms"

abbrev pub whole_word : Whole → List ℕ
whole_word wholes.Rules = codes "rules"
whole_word wholes.Facts = codes "facts"
whole_word wholes.Queries = codes "queries"

-- what is wrong at a byte of a file, and in a statement of one
abbrev pub byte_text : ℕ → ℕ → List ℕ → List ℕ
byte_text file at what = codes "ucq: file " ++ decimal file ++ codes " byte " ++ decimal at ++ codes ": " ++ what

abbrev pub statement_text : ℕ → ℕ → List ℕ → List ℕ
statement_text file number what = codes "ucq: file " ++ decimal file ++ codes " statement " ++ decimal number ++ what

-- a limit that is passed
abbrev pub limit_text : List ℕ → ℕ → List ℕ
limit_text word count = word ++ codes " limit passed with " ++ decimal count

-- the text of a refusal of the reader
abbrev pub refusal_text : ReadFault → List ℕ
refusal_text (BadByte file at) = byte_text file at (codes "bad byte")
refusal_text (BadStatement file number at) = statement_text file number (codes " byte " ++ decimal at ++ codes ": bad statement")
refusal_text (OpenEnd file at) = byte_text file at (codes "statement not ended")
refusal_text (UnknownPrefix file at) = byte_text file at (codes "unknown prefix")
refusal_text (NotBuilt file number kind) = statement_text file number (codes ": " ++ kind_word kind ++ codes " is not built")
refusal_text (Limit file number which count) = statement_text file number (codes ": " ++ limit_text (limit_word which) count)
refusal_text (Unsafe file number place) = statement_text file number (codes ": answer " ++ decimal place ++ codes " is not in the body")
refusal_text (TooMany which count) = codes "ucq: " ++ limit_text (whole_word which) count
refusal_text NoQuery = codes "ucq: no query"
refusal_text Memory = codes "ucq: out of memory"

-- the line of a refusal of the reader
abbrev pub refusal_line : ReadFault → List ℕ
refusal_line fault = refusal_text fault ++ line_feed
