-- The texts that a run prints: of a finished union, of rows where the run was cut, and the headers of sections.
use Rattle.std.specs.Prelude.{ℕ, Bool, true, false, List, [], ◌∷◌, ◌++◌, length, map, codes, decimal, sum_by, Option, Some, None}
use Rattle.std.specs.List.{flat_map}
use Rattle.ucq_terms.specs.declared.Term.{Term}
use Rattle.ucq_terms.specs.declared.Term.TheVariants.{Constant, Variable}
use Rattle.ucq_terms.specs.Syntax.{Atom, Query}
use Rattle.ucq_terms.specs.Names.{name_text}
use Rattle.ucq_terms.specs.Numbering.{numbered_query}
use Rattle.ucq_antichain.specs.declared.Row.{Row}
use Rattle.ucq_store.specs.declared.Cut.{Cut}
use Rattle.ucq_store.specs.declared.Cut.TheVariants.{Rows, Wide}
use Rattle.ucq_store.specs.Store.{Store}
use Rattle.ucq_eval.specs.Tuples.{joined, tuple_text}

abbrev pub line_feed : List ℕ
line_feed = 10 ∷ []

-- A constant is its text. The variables are X0, X1 and so on.
abbrev pub term_text : List (List ℕ) → Term → List ℕ
term_text names (Constant c) = name_text names c
term_text names (Variable v) = 88 ∷ decimal v

-- terms between parentheses, with commas
abbrev pub terms_text : List (List ℕ) → List Term → List ℕ
terms_text names terms = codes "(" ++ joined (codes ",") (term_text names) terms ++ codes ")"

abbrev pub atom_text : List (List ℕ) → Atom → List ℕ
atom_text names a = name_text names a.name ++ terms_text names a.terms

-- nothing where there are no answer terms
abbrev pub answers_text : List (List ℕ) → List Term → List ℕ
answers_text names [] = []
answers_text names (t ∷ ts) = terms_text names (t ∷ ts)

-- a query whose variables have the numbers that are printed
abbrev pub numbered_text : List (List ℕ) → Query → List ℕ
numbered_text names q =
    codes "?" ++ answers_text names q.answers ++ codes " :- " ++ joined (codes ", ") (atom_text names) q.atoms ++ codes "."

-- The text of a query. Its variables are numbered by first occurrence in the answer list, and then in the atoms as they stand.
abbrev pub query_text : List (List ℕ) → Query → List ℕ
query_text names q = numbered_text names (numbered_query q)

-- a query on a line of its own
abbrev pub query_line : List (List ℕ) → Query → List ℕ
query_line names q = query_text names q ++ line_feed

-- one line after another
abbrev pub lines_text : List (List ℕ) → List ℕ
lines_text lines = flat_map (λ line. line) lines

-- how many queries there are
abbrev pub count_line : ℕ → List ℕ
count_line count = codes "% queries " ++ decimal count ++ line_feed

-- The finished text of a union: what was found, how many queries there are, and each of them on a line.
abbrev pub finished_lines : List (List ℕ) → List Query → List (List ℕ)
finished_lines names union = codes "% finished\n" ∷ count_line (length union) ∷ map (query_line names) union

abbrev pub finished_text : List (List ℕ) → List Query → List ℕ
finished_text names union = lines_text (finished_lines names union)

-- how many answers there are
abbrev pub answer_count_line : ℕ → List ℕ
answer_count_line count = codes "% answers " ++ decimal count ++ line_feed

-- an answer on a line of its own
abbrev pub tuple_line : List (List ℕ) → List ℕ → List ℕ
tuple_line names tuple = codes "% " ++ tuple_text names tuple ++ line_feed

-- how many answers there are, and each of them on a line
abbrev pub answer_lines : List (List ℕ) → List (List ℕ) → List (List ℕ)
answer_lines names tuples = answer_count_line (length tuples) ∷ map (tuple_line names) tuples

-- The finished text of a union with its answers over the facts.
abbrev pub answered_lines : List (List ℕ) → List Query → List (List ℕ) → List (List ℕ)
answered_lines names union tuples = finished_lines names union ++ answer_lines names tuples

abbrev pub answered_text : List (List ℕ) → List Query → List (List ℕ) → List ℕ
answered_text names union tuples = lines_text (answered_lines names union tuples)

-- how many atoms the queries have together
abbrev pub atom_count : List Query → ℕ
atom_count union = sum_by (λ (q : Query). length q.atoms) union

abbrev pub atom_count_line : ℕ → List ℕ
atom_count_line count = codes "% atoms " ++ decimal count ++ line_feed

-- The summary of a union and its answers: how many queries, atoms and answers there are.
abbrev pub summary_lines : ℕ → ℕ → ℕ → List (List ℕ)
summary_lines queries atoms answers = codes "% finished\n" ∷ count_line queries ∷ atom_count_line atoms ∷ answer_count_line answers ∷ []

abbrev pub summary_text : ℕ → ℕ → ℕ → List ℕ
summary_text queries atoms answers = lines_text (summary_lines queries atoms answers)

-- what stands before a row's query: nothing where the row is live
abbrev pub life_text : Bool → List ℕ
life_text true = []
life_text false = codes "% dead "

-- a row on a line, live or dead
abbrev pub row_line : List (List ℕ) → Row → List ℕ
row_line names row = life_text row.live ++ query_line names row.query

abbrev pub row_lines : List (List ℕ) → List Row → List (List ℕ)
row_lines names rows = map (row_line names) rows

-- The rows number the budget.
abbrev pub rows_cut_line : ℕ → List ℕ
rows_cut_line budget = codes "% cut rows " ++ decimal budget ++ line_feed

-- the core for which there was no room
abbrev pub left_line : List (List ℕ) → Query → List ℕ
left_line names left = codes "% left " ++ query_line names left

-- The text of a run that was cut at the budget: the budget, each row in order, and the core that is left.
abbrev pub rows_cut_lines : List (List ℕ) → ℕ → List Row → Query → List (List ℕ)
rows_cut_lines names budget rows left = rows_cut_line budget ∷ (row_lines names rows ++ left_line names left ∷ [])

abbrev pub rows_cut_text : List (List ℕ) → ℕ → List Row → Query → List ℕ
rows_cut_text names budget rows left = lines_text (rows_cut_lines names budget rows left)

-- The row has a rewriting with the rule that is too wide. Both are numbered from 0.
abbrev pub wide_cut_line : ℕ → ℕ → List ℕ
wide_cut_line row rule = codes "% cut wide row " ++ decimal row ++ codes " rule " ++ decimal rule ++ line_feed

-- The text of a run that was cut at a rewriting that is too wide: where it was cut, and each row in order.
abbrev pub wide_cut_lines : List (List ℕ) → ℕ → ℕ → List Row → List (List ℕ)
wide_cut_lines names row rule rows = wide_cut_line row rule ∷ row_lines names rows

abbrev pub wide_cut_text : List (List ℕ) → ℕ → ℕ → List Row → List ℕ
wide_cut_text names row rule rows = lines_text (wide_cut_lines names row rule rows)

-- the lines of a cut with its budget and rows; none where nothing was cut
abbrev pub lines_of_cut : List (List ℕ) → ℕ → List Row → Option Cut → List (List ℕ)
lines_of_cut names budget rows None = []
lines_of_cut names budget rows (Some (Rows left)) = rows_cut_lines names budget rows left
lines_of_cut names budget rows (Some (Wide row rule count)) = wide_cut_lines names row rule rows

-- the lines of a store that is cut; none where it isn't cut
abbrev pub cut_lines : List (List ℕ) → Store → List (List ℕ)
cut_lines names s = lines_of_cut names s.budget s.rows s.cut

-- what stands behind a query's number: a space and its label, where it has one
abbrev pub label_text : Option (List ℕ) → List ℕ
label_text None = []
label_text (Some label) = codes " " ++ label

-- The header of a query's section. Queries are numbered from 0.
abbrev pub section_line : ℕ → Option (List ℕ) → List ℕ
section_line number label = codes "% query " ++ decimal number ++ label_text label ++ line_feed
