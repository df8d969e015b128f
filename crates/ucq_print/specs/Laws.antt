-- What a printed text tells of its union.
use Rattle.std.specs.Prelude.{◌≡◌, ◌≢◌, ◌<◌, ◌+◌, ◌^◌, ◌⊎◌, ◌∷◌, ◌++◌, ℕ, List, Option, Some, IfSome, length, map, drop, slice_get, All, AllPairs, Contains, codes}
use Rattle.std.specs.List.{flat_map}
use Rattle.ucq_terms.specs.Syntax.{Query}
use Rattle.ucq_terms.specs.Query.{IsStored}
use Rattle.ucq_terms.specs.Numbering.{query_order, numbered_query}
use Rattle.ucq_antichain.specs.declared.Row.{Row}
use Rattle.ucq_lexer.specs.declared.Kind.TheVariants.{Identifier, Iri, Integer, Text}
use Rattle.ucq_lexer.specs.Spelling.{IsSpelled}
use Rattle.ucq_chase.specs.Names.{AreHeldAtoms, IsHeldQuery, IsHeldRule}
use Rattle.ucq_reader.specs.declared.input.Asked.{Asked}
use Rattle.ucq_reader.specs.Input.{InputValue, IsInput, HasNumbersOf}
use Rattle.ucq_reader.specs.Made.{made}
use Rattle.ucq_print.specs.declared.compared.Judged.{Judged}
use Rattle.ucq_print.specs.declared.compared.Told.{Told}
use Rattle.ucq_print.specs.Compared.{minimal_line, rule_line, within_line}
use Rattle.ucq_print.specs.Texts.{answer_lines, answered_lines, answered_text, finished_lines, finished_text, line_feed, lines_text, rows_cut_lines, rows_cut_text, section_line, wide_cut_lines, wide_cut_text}

-- ---- lines

-- bytes that end with a line feed, and hold no other
pub record IsLine (line : List ℕ) : Type 0 where
  pub inner : List ℕ
  pub is : line ≡ inner ++ line_feed
  pub single : ¬ Contains inner 10

-- the longer list has the lines of the shorter one and then more, with which what follows the shorter one begins
pub record GoesOn (shorter : List (List ℕ)) (follows : List ℕ) (longer : List (List ℕ)) (other : List ℕ) : Type 0 where
  pub more : List (List ℕ)
  pub lines : longer ≡ shorter ++ more
  pub rests : follows ≡ lines_text more ++ other

-- Two texts that begin with lines are equal only where one of the two lists of lines goes on the other.
abbrev pub LinesAreTold : Type 0
LinesAreTold =
    (one two : List (List ℕ)) (rest_one rest_two : List ℕ) →
    All IsLine one →
    All IsLine two →
    lines_text one ++ rest_one ≡ lines_text two ++ rest_two →
    GoesOn one rest_one two rest_two ⊎ GoesOn two rest_two one rest_one

-- So where there are as many lines in both, they are the same lines, and so is what follows.
abbrev pub CountedLinesAreTold : Type 0
CountedLinesAreTold =
    (one two : List (List ℕ)) (rest_one rest_two : List ℕ) →
    All IsLine one →
    All IsLine two →
    length one ≡ length two →
    lines_text one ++ rest_one ≡ lines_text two ++ rest_two →
    (one ≡ two) × (rest_one ≡ rest_two)

-- And where nothing follows, they are the same lines.
abbrev pub WholeLinesAreTold : Type 0
WholeLinesAreTold = (one two : List (List ℕ)) → All IsLine one → All IsLine two → lines_text one ≡ lines_text two → one ≡ two

-- ---- unions

-- the spelling of an Identifier, an Iri, an Integer or a Text
abbrev pub IsNameText : List ℕ → Type 0
IsNameText text = IsSpelled Identifier text ⊎ (IsSpelled Iri text ⊎ (IsSpelled Integer text ⊎ IsSpelled Text text))

-- No name stands twice, and each is spelled so.
pub record AreReadableNames (names : List (List ℕ)) : Type 0 where
  pub different : AllPairs (λ a b. a ≢ b) names
  pub spelled : All IsNameText names

-- each predicate and constant of the query has a name, and its variables are fewer than 2^64
pub record IsPrintable (names : List (List ℕ)) (q : Query) : Type 0 where
  pub held : IsHeldQuery (length names) q
  pub variables : length (query_order q) < 2 ^ 64

-- each query is so, and there are fewer than 2^64 of them
pub record ArePrintable (names : List (List ℕ)) (union : List Query) : Type 0 where
  pub each : All (IsPrintable names) union
  pub few : length union < 2 ^ 64

-- two unions over readable names that have one finished text are one list of queries, up to the variables' names in each
abbrev pub FinishedTextTellsUnion : Type 0
FinishedTextTellsUnion =
    (names : List (List ℕ)) (one two : List Query) →
    AreReadableNames names →
    ArePrintable names one →
    ArePrintable names two →
    finished_text names one ≡ finished_text names two →
    map numbered_query one ≡ map numbered_query two

-- two texts that begin with the finished texts of such unions are equal only where the unions are one, and the rest is
abbrev pub BeginningTellsUnion : Type 0
BeginningTellsUnion =
    (names : List (List ℕ)) (one two : List Query) (rest_one rest_two : List ℕ) →
    AreReadableNames names →
    ArePrintable names one →
    ArePrintable names two →
    finished_text names one ++ rest_one ≡ finished_text names two ++ rest_two →
    (map numbered_query one ≡ map numbered_query two) × (rest_one ≡ rest_two)

-- each constant of each tuple has a name, and there are fewer than 2^64 tuples
pub record ArePrintableTuples (names : List (List ℕ)) (tuples : List (List ℕ)) : Type 0 where
  pub held : All (All (λ c. c < length names)) tuples
  pub few : length tuples < 2 ^ 64

-- two texts that begin with the texts of unions with their answers are equal only where the unions are one list of queries so,
-- the answers are one list, and the rest is one
abbrev pub AnsweredTextTellsUnion : Type 0
AnsweredTextTellsUnion =
    (names : List (List ℕ)) (one two : List Query) (answers_one answers_two : List (List ℕ)) (rest_one rest_two : List ℕ) →
    AreReadableNames names →
    ArePrintable names one →
    ArePrintable names two →
    ArePrintableTuples names answers_one →
    ArePrintableTuples names answers_two →
    answered_text names one answers_one ++ rest_one ≡ answered_text names two answers_two ++ rest_two →
    (map numbered_query one ≡ map numbered_query two) × (answers_one ≡ answers_two) × (rest_one ≡ rest_two)

-- ---- cuts

-- each predicate and constant of each row has a name
pub record ArePrintableRows (names : List (List ℕ)) (rows : List Row) : Type 0 where
  pub each : All (λ (row : Row). IsPrintable names row.query) rows

-- a row whose variables have the numbers that are printed
abbrev pub numbered_row : Row → Row
numbered_row row = record row { query = numbered_query row.query }

-- two texts that begin with the text of a cut at a budget tell the budget, the rows, live or dead, the core that is left, and
-- the rest
abbrev pub RowsCutTextTellsRows : Type 0
RowsCutTextTellsRows =
    (names : List (List ℕ)) (budget_one budget_two : ℕ) (one two : List Row) (left_one left_two : Query) (rest_one rest_two : List ℕ) →
    AreReadableNames names →
    budget_one < 2 ^ 64 →
    budget_two < 2 ^ 64 →
    ArePrintableRows names one →
    ArePrintableRows names two →
    IsPrintable names left_one →
    IsPrintable names left_two →
    rows_cut_text names budget_one one left_one ++ rest_one ≡ rows_cut_text names budget_two two left_two ++ rest_two →
    (budget_one ≡ budget_two)
    × (map numbered_row one ≡ map numbered_row two)
    × (numbered_query left_one ≡ numbered_query left_two)
    × (rest_one ≡ rest_two)

-- the bytes begin as the line of a row does, live or dead
abbrev pub BeginsARow : List ℕ → Type 0
BeginsARow bytes = (rest : List ℕ) × ((bytes ≡ codes "?" ++ rest) ⊎ (bytes ≡ codes "% dead " ++ rest))

-- the same of a cut at a rewriting that is too wide: the row and the rule, the rows, and the rest, which begins no row
abbrev pub WideCutTextTellsRows : Type 0
WideCutTextTellsRows =
    (names : List (List ℕ)) (row_one rule_one row_two rule_two : ℕ) (one two : List Row) (rest_one rest_two : List ℕ) →
    AreReadableNames names →
    (row_one < 2 ^ 64) × (rule_one < 2 ^ 64) →
    (row_two < 2 ^ 64) × (rule_two < 2 ^ 64) →
    ArePrintableRows names one →
    ArePrintableRows names two →
    ¬ BeginsARow rest_one →
    ¬ BeginsARow rest_two →
    wide_cut_text names row_one rule_one one ++ rest_one ≡ wide_cut_text names row_two rule_two two ++ rest_two →
    (row_one ≡ row_two) × (rule_one ≡ rule_two) × (map numbered_row one ≡ map numbered_row two) × (rest_one ≡ rest_two)

-- no text begins both as a finished one and as a cut one, or as one of either cut
abbrev pub TextsDiffer : Type 0
TextsDiffer =
    (names : List (List ℕ)) (union : List Query) (budget row rule : ℕ) (rows others : List Row) (left : Query) (rest other : List ℕ) →
    (finished_text names union ++ rest ≢ rows_cut_text names budget rows left ++ other)
    × (finished_text names union ++ rest ≢ wide_cut_text names row rule rows ++ other)
    × (rows_cut_text names budget rows left ++ rest ≢ wide_cut_text names row rule others ++ other)

-- ---- sections

-- the bytes begin as the header of a section does
abbrev pub BeginsASection : List ℕ → Type 0
BeginsASection bytes = (rest : List ℕ) × (bytes ≡ codes "% query " ++ rest)

-- lines of a section: none of them begins as a header does
pub record AreSectionLines (section : List (List ℕ)) : Type 0 where
  pub lines : All IsLine section
  pub none : All (λ line. ¬ BeginsASection line) section

-- the label has no line feed
abbrev pub IsLabelLine : Option (List ℕ) → Type 0
IsLabelLine label = IfSome label (λ bytes. ¬ Contains bytes 10)

-- a header tells its number and its label
abbrev pub HeaderTells : Type 0
HeaderTells =
    (one two : ℕ) (label other : Option (List ℕ)) →
    one < 2 ^ 64 →
    two < 2 ^ 64 →
    section_line one label ≡ section_line two other →
    (one ≡ two) × (label ≡ other)

-- a header is a line
abbrev pub HeaderIsLine : Type 0
HeaderIsLine = (number : ℕ) (label : Option (List ℕ)) → number < 2 ^ 64 → IsLabelLine label → IsLine (section_line number label)

-- what a header says, and the lines behind it
pub record Headed : Type 0 where
  pub number : ℕ
  pub label : Option (List ℕ)
  pub lines : List (List ℕ)

abbrev pub headed_lines : Headed → List (List ℕ)
headed_lines s = section_line s.number s.label ∷ s.lines

-- the header is a line, and so are those behind it, none of which begins as a header does
pub record IsHeaded (s : Headed) : Type 0 where
  pub small : s.number < 2 ^ 64
  pub label : IsLabelLine s.label
  pub lines : AreSectionLines s.lines

-- Where a header stands behind whole lines in the join of sections, it is the header of one of them, with whose lines the rest
-- begins; then come the later sections.
abbrev pub SectionsAreTold : Type 0
SectionsAreTold =
    (sections : List Headed) (before : List (List ℕ)) (number : ℕ) (label : Option (List ℕ)) (rest : List ℕ) →
    All IsHeaded sections →
    All IsLine before →
    number < 2 ^ 64 →
    IsLabelLine label →
    lines_text (flat_map headed_lines sections) ≡ lines_text before ++ (section_line number label ++ rest) →
    (place : ℕ)
    × (s : Headed)
    × (slice_get sections place ≡ Some s)
    × (s.number ≡ number)
    × (s.label ≡ label)
    × (rest ≡ lines_text (s.lines ++ flat_map headed_lines (drop (place + 1) sections)))

-- the lines of a finished union, with or without its answers, and of either cut are lines of a section
abbrev pub TextsAreSections : Type 0
TextsAreSections =
    (names : List (List ℕ)) →
    AreReadableNames names →
    ((union : List Query) → ArePrintable names union → AreSectionLines (finished_lines names union))
    × ((union : List Query) (tuples : List (List ℕ)) → ArePrintable names union → ArePrintableTuples names tuples → AreSectionLines (answered_lines names union tuples))
    × ((budget : ℕ) (rows : List Row) (left : Query) → budget < 2 ^ 64 → ArePrintableRows names rows → IsPrintable names left →
    AreSectionLines (rows_cut_lines names budget rows left))
    × ((row rule : ℕ) (rows : List Row) → row < 2 ^ 64 → rule < 2 ^ 64 → ArePrintableRows names rows → AreSectionLines (wide_cut_lines names row rule rows))

-- no text begins both with a header and with the lines of answers
abbrev pub HeadersAreNoAnswers : Type 0
HeadersAreNoAnswers =
    (number : ℕ) (label : Option (List ℕ)) (rest other : List ℕ) (names : List (List ℕ)) (tuples : List (List ℕ)) →
    section_line number label ++ rest ≢ lines_text (answer_lines names tuples) ++ other

-- A line of a section, such that no text that begins with it begins with the lines of answers.
pub record StandsApart (line : List ℕ) : Type 0 where
  pub is : IsLine line
  pub none : ¬ BeginsASection line
  pub apart : (rest other : List ℕ) (names : List (List ℕ)) (tuples : List (List ℕ)) → line ++ rest ≢ lines_text (answer_lines names tuples) ++ other

-- the lines that compare queries under rules, and rules with each other, are such
abbrev pub ComparingLinesStandApart : Type 0
ComparingLinesStandApart =
    ((query of : ℕ) (told : Told) → StandsApart (within_line query of told))
    × ((names : List (List ℕ)) (query : Query) → AreReadableNames names → StandsApart (minimal_line names query))
    × ((number : ℕ) (judged : Judged) → StandsApart (rule_line number judged))

-- ---- inputs

-- the names of what files stand for are readable
abbrev pub InputNamesAreReadable : Type 0
InputNamesAreReadable = (files : List (List ℕ)) (input : InputValue) → IsInput files input → AreReadableNames input.names

-- no label of it has a line feed, so that each header is a line
abbrev pub InputLabelsAreLines : Type 0
InputLabelsAreLines = (files : List (List ℕ)) (input : InputValue) → IsInput files input → All (λ (asked : Asked). IsLabelLine asked.label) input.queries

-- a stored query is printable where its predicates and constants have names
abbrev pub StoredArePrintable : Type 0
StoredArePrintable = (names : List (List ℕ)) (q : Query) → IsStored q → IsHeldQuery (length names) q → IsPrintable names q

-- each predicate and constant of the rules, of each query and of the facts has a name
pub record IsHeldInput (input : InputValue) : Type 0 where
  pub rules : All (IsHeldRule (length input.names)) input.rules
  pub queries : All (λ (asked : Asked). IsHeldQuery (length input.names) asked.query) input.queries
  pub facts : AreHeldAtoms (length input.names) input.facts

-- the input that files stand for is so
abbrev pub InputNamesAreHeld : Type 0
InputNamesAreHeld = (files : List (List ℕ)) (input : InputValue) → IsInput files input → IsHeldInput input

-- and the input that is made
abbrev pub MadeNamesAreHeld : Type 0
MadeNamesAreHeld = (number : ℕ) (input : InputValue) → HasNumbersOf (made number) input → IsHeldInput input
