-- What the texts of runs tell.
use Rattle.std.specs.Prelude.{◌≡◌, ◌⊎◌, ◌++◌, ℕ, List, [], ◌∷◌, All, Some, slice_get}
use Rattle.ucq_terms.specs.Syntax.{Query}
use Rattle.ucq_terms.specs.Union.{IsExact, IsSameUnion}
use Rattle.ucq_reader.specs.declared.input.Asked.{Asked}
use Rattle.ucq_reader.specs.Input.{InputValue, IsInput}
use Rattle.ucq_print.specs.Laws.{ArePrintable, ArePrintableTuples, IsLine}
use Rattle.ucq_print.specs.Texts.{answered_text, finished_text, lines_text, section_line}
use Rattle.ucq_words.specs.Settings.{SettingsValue, StandFor, make}
use Rattle.ucq_run.specs.Inputs.{Call, problem_of}
use Rattle.ucq_run.specs.Finished.{AreChaseAnswers}
use Rattle.ucq_outside.specs.Taken.{SinkChange}
use Rattle.ucq_run.specs.Run.{IsRun, HoldsFiles}

-- ---- runs

-- A run with this status, whose output tells that it took this text.
pub record IsRunTaking (call : Call) (status : ℕ) (text : List ℕ) : Type 0 where
  pub out : SinkChange
  pub err : SinkChange
  pub run : IsRun call out err status
  pub before : List ℕ
  pub told_before : out.taken_before ≡ Some before
  pub told_after : out.taken_after ≡ Some (before ++ text)

-- a run all of whose sections are finished
abbrev pub IsFinishedRun : Call → List ℕ → Type 0
IsFinishedRun call text = IsRunTaking call 0 text

-- a run whose sections are finished or cut
abbrev pub IsWholeRun : Call → List ℕ → Type 0
IsWholeRun call text = (status : ℕ) × ((status ≡ 0) ⊎ (status ≡ 5)) × IsRunTaking call status text

-- ---- sections

-- Behind whole lines and the header of the query of that number comes this text.
pub record IsBehindHeader (number : ℕ) (asked : Asked) (text section : List ℕ) : Type 0 where
  pub before : List (List ℕ)
  pub lines : All IsLine before
  pub stands : text ≡ lines_text before ++ (section_line number asked.label ++ section)

-- With this text the section of the query of that number begins: behind its header, or, where it is the one query, at the start.
abbrev pub IsSectionOf : List Asked → ℕ → Asked → List ℕ → List ℕ → Type 0
IsSectionOf (one ∷ []) number asked text section = text ≡ section
IsSectionOf queries number asked text section = IsBehindHeader number asked text section

-- it is the query of that number among those of the input, and its section begins so
pub record HasSection (input : InputValue) (number : ℕ) (asked : Asked) (text section : List ℕ) : Type 0 where
  pub query : slice_get input.queries number ≡ Some asked
  pub stands : IsSectionOf input.queries number asked text section

-- The text begins with the finished text of the union, each of whose predicates and constants has a name.
pub record BeginsWithUnion (names : List (List ℕ)) (text : List ℕ) (union : List Query) : Type 0 where
  pub printable : ArePrintable names union
  pub rest : List ℕ
  pub begins : text ≡ finished_text names union ++ rest

-- and so with its answers
pub record BeginsWithAnswers (names : List (List ℕ)) (text : List ℕ) (union : List Query) (tuples : List (List ℕ)) : Type 0 where
  pub printable : ArePrintable names union
  pub printable_tuples : ArePrintableTuples names tuples
  pub rest : List ℕ
  pub begins : text ≡ answered_text names union tuples ++ rest

-- ---- laws

-- In what a finished run over files prints, each query has a section, which begins with the finished text of an exact union of its
-- problem.
abbrev pub FinishedRunPrintsUnions : Type 0
FinishedRunPrintsUnions =
    (call : Call) (texts : List (List ℕ)) (input : InputValue) (text : List ℕ) (number : ℕ) (asked : Asked) →
    HoldsFiles call texts →
    IsInput texts input →
    IsFinishedRun call text →
    slice_get input.queries number ≡ Some asked →
    (section : List ℕ) × (union : List Query) ×
    HasSection input number asked text section × BeginsWithUnion input.names section union × IsExact (problem_of input asked.query) union

-- In what a run prints, finished or cut, each list of queries over the files' names with whose finished text the section of a query
-- begins is an exact union of its problem.
abbrev pub PrintedUnionIsExact : Type 0
PrintedUnionIsExact =
    (call : Call) (texts : List (List ℕ)) (input : InputValue) (text section : List ℕ) (number : ℕ) (asked : Asked) (union : List Query) →
    HoldsFiles call texts →
    IsInput texts input →
    IsWholeRun call text →
    HasSection input number asked text section →
    BeginsWithUnion input.names section union →
    IsExact (problem_of input asked.query) union

-- So two finished sections of one query in runs over the same files print unions that are equal up to renaming.
abbrev pub FinishedSectionsAgree : Type 0
FinishedSectionsAgree =
    (one two : Call) (texts : List (List ℕ)) (input : InputValue) (text_one text_two section_one section_two : List ℕ) (number : ℕ) (asked : Asked) (xs ys : List Query) →
    HoldsFiles one texts →
    HoldsFiles two texts →
    IsInput texts input →
    IsWholeRun one text_one →
    IsWholeRun two text_two →
    HasSection input number asked text_one section_one →
    HasSection input number asked text_two section_two →
    BeginsWithUnion input.names section_one xs →
    BeginsWithUnion input.names section_two ys →
    IsSameUnion xs ys

-- Where a section begins with the text of a union with answers, that union is exact, and these are the answers of the chase over
-- the facts, whatever input the files stand for: the numbers of unknown values are free.
abbrev pub PrintedAnswersAreExact : Type 0
PrintedAnswersAreExact =
    (call : Call) (texts : List (List ℕ)) (input : InputValue) (text section : List ℕ) (number : ℕ) (asked : Asked) (union : List Query) (tuples : List (List ℕ)) →
    HoldsFiles call texts →
    IsInput texts input →
    IsWholeRun call text →
    HasSection input number asked text section →
    BeginsWithAnswers input.names section union tuples →
    IsExact (problem_of input asked.query) union × AreChaseAnswers input.names (problem_of input asked.query) input.facts tuples

-- ---- made inputs

-- The words ask for the input that is made for the number.
pub record AskForMade (words : List (List ℕ)) (number : ℕ) : Type 0 where
  pub settings : SettingsValue
  pub stand : StandFor words settings
  pub job : settings.job ≡ make number

-- Two finished runs on the input that is made for one number print one text, whatever their budgets and workers.
abbrev pub MadeRunsAgree : Type 0
MadeRunsAgree =
    (one two : Call) (number : ℕ) (text_one text_two : List ℕ) →
    AskForMade one.words number →
    AskForMade two.words number →
    IsFinishedRun one text_one →
    IsFinishedRun two text_two →
    text_one ≡ text_two
