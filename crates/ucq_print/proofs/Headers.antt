-- The header of a section is a line, and tells its number and its label. No other line begins as one.
use Rattle.std.proofs.Common.{◌≡◌, ◌≢◌, ℕ, ◌<◌, ◌^◌, Bool, true, false, List, [], ◌∷◌, ◌++◌, length, map, drop, get_or, All, refl, sym, ap, ◌∙◌, append_assoc, arith}
use Rattle.std.specs.Prelude.{Option, Some, None, codes, decimal}
use Rattle.std.proofs.lemmas.List.{append_cancel_left, append_cancel_right}
use Rattle.std.proofs.lemmas.List.Elements.{All-append, All-cons, All-map, All-nil}
use Rattle.ucq_terms.specs.Syntax.{Query}
use Rattle.ucq_antichain.specs.declared.Row.{Row}
use Rattle.ucq_lexer.specs.Bytes.{is_digit}
use Rattle.ucq_print.specs.Texts.{line_feed, life_text, query_text, query_line, count_line, finished_lines, tuple_line, answer_count_line, answer_lines, answered_lines, row_line, row_lines, left_line, rows_cut_line, rows_cut_lines, wide_cut_line, wide_cut_lines, lines_text, label_text, section_line}
use Rattle.ucq_print.specs.Laws.{IsLine, IsPrintable, AreReadableNames, ArePrintable, ArePrintableTuples, ArePrintableRows, BeginsASection, AreSectionLines, IsLabelLine}
use Rattle.ucq_print.proofs.Spelled.{decimals_apart, heads_differ, tails}
use Rattle.ucq_print.proofs.LineFeeds.{IsSingle, is_told, single_both, single_nothing, single_number, single_run}
use Rattle.ucq_print.proofs.Unions.{query_is_line, query_is_single, tuple_is_line}
use Rattle.ucq_print.proofs.CutTexts.{row_is_line}

-- ---- headers

single_label : (label : Option (List ℕ)) → IsLabelLine label → IsSingle (label_text label)
single_label None h = single_nothing
single_label (Some label) h = single_both (codes " ") label (single_run is_told (codes " ") refl refl) (record { free = h })

pub header_is_line : (number : ℕ) (label : Option (List ℕ)) → number < 2 ^ 64 → IsLabelLine label → IsLine (section_line number label)
header_is_line number label small h = record {
  inner = codes "% query " ++ decimal number ++ label_text label;
  is = refl;
  single = (single_both (codes "% query " ++ decimal number) (label_text label)
      (single_both (codes "% query ") (decimal number) (single_run is_told (codes "% query ") refl refl) (single_number number)) (single_label label h)).free;
}

regroup : (a b c d : List ℕ) → ((a ++ b) ++ c) ++ d ≡ a ++ (b ++ (c ++ d))
regroup a b c d = simp append_assoc

-- what ends the number, and what comes then
abbrev stop : Option (List ℕ) → ℕ
stop None = 10
stop (Some label) = 32

abbrev stopped : Option (List ℕ) → List ℕ
stopped None = []
stopped (Some label) = label ++ line_feed

no_digit : (label : Option (List ℕ)) → is_digit (stop label) ≡ false
no_digit None = refl
no_digit (Some label) = refl

label_shape : (label : Option (List ℕ)) → label_text label ++ line_feed ≡ stop label ∷ stopped label
label_shape None = refl
label_shape (Some label) = refl

header_shape : (number : ℕ) (label : Option (List ℕ)) → section_line number label ≡ codes "% query " ++ (decimal number ++ stop label ∷ stopped label)
header_shape number label =
    regroup (codes "% query ") (decimal number) (label_text label) line_feed ∙ ap (λ (l : List ℕ). codes "% query " ++ (decimal number ++ l)) (label_shape label)

labels_apart : (label other : Option (List ℕ)) → stop label ∷ stopped label ≡ stop other ∷ stopped other → label ≡ other
labels_apart None None e = refl
labels_apart None (Some other) e = absurd (heads_differ 10 32 [] (other ++ line_feed) (λ f. omega arith) e)
labels_apart (Some label) None e = absurd (heads_differ 32 10 (label ++ line_feed) [] (λ f. omega arith) e)
labels_apart (Some label) (Some other) e = ap Some (append_cancel_right label other line_feed (tails e))

pub header_tells : (one two : ℕ) (label other : Option (List ℕ)) → one < 2 ^ 64 → two < 2 ^ 64 → section_line one label ≡ section_line two other → (one ≡ two) × (label ≡ other)
header_tells one two label other h k e =
    let whole =
    append_cancel_left (codes "% query ") (decimal one ++ stop label ∷ stopped label) (decimal two ++ stop other ∷ stopped other)
    (sym (header_shape one label) ∙ (e ∙ header_shape two other)) in
    let numbers = decimals_apart one two (stop label) (stop other) (stopped label) (stopped other) h k (no_digit label) (no_digit other) whole in
    (numbers.front, labels_apart label other numbers.rest)

pub header_begins : (number : ℕ) (label : Option (List ℕ)) → BeginsASection (section_line number label)
header_begins number label = (decimal number ++ stop label ∷ stopped label, header_shape number label)

-- ---- other lines

-- a header goes on by another byte
no_header : (front tail after line : List ℕ) (c d : ℕ) → codes "% query " ≡ front ++ c ∷ tail → line ≡ front ++ d ∷ after → d ≢ c → ¬ BeginsASection line
no_header front tail after line c d header is other (rest, e) =
    let whole : front ++ d ∷ after ≡ front ++ c ∷ (tail ++ rest) = sym is ∙ (e ∙ (ap (λ l. l ++ rest) header ∙ append_assoc front (c ∷ tail) rest)) in
    heads_differ d c after (tail ++ rest) other (append_cancel_left front (d ∷ after) (c ∷ (tail ++ rest)) whole)

-- a remark that goes on by another byte
pub no_header_remark : (d : ℕ) (after : List ℕ) → d ≢ 113 → ¬ BeginsASection (codes "% " ++ d ∷ after)
no_header_remark d after other = no_header (codes "% ") (codes "uery ") after (codes "% " ++ d ∷ after) 113 d refl refl other

pub answers_begin_no_section : (names tuples : List (List ℕ)) (rest : List ℕ) → ¬ BeginsASection (lines_text (answer_lines names tuples) ++ rest)
answers_begin_no_section names tuples rest = no_header_remark 97 (drop 3 (lines_text (answer_lines names tuples) ++ rest)) (λ f. omega arith)

pub no_answers : (number : ℕ) (label : Option (List ℕ)) (rest other : List ℕ) (names tuples : List (List ℕ)) →
    section_line number label ++ rest ≢ lines_text (answer_lines names tuples) ++ other
no_answers number label rest other names tuples e =
    let (after, is) = header_begins number label in
    answers_begin_no_section names tuples other
    (after ++ rest, sym e ∙ (ap (λ (l : List ℕ). l ++ rest) is ∙ append_assoc (codes "% query ") after rest))

-- a line that begins as no header does
abbrev IsSectionLine : List ℕ → Type 0
IsSectionLine line = IsLine line × (¬ BeginsASection line)

section_lines : (lines : List (List ℕ)) → All IsSectionLine lines → AreSectionLines lines
section_lines lines h = record { lines = λ i d b. (h i d b).0; none = λ i d b. (h i d b).1 }

-- a number between some bytes and a line feed
numbered_line : (before : List ℕ) (n : ℕ) → IsSingle before → IsLine (before ++ decimal n ++ line_feed)
numbered_line before n h = record { inner = before ++ decimal n; is = refl; single = (single_both before (decimal n) h (single_number n)).free }

finished_line : IsSectionLine (codes "% finished\n")
finished_line = (
  record { inner = codes "% finished"; is = refl; single = (single_run is_told (codes "% finished") refl refl).free },
  no_header_remark 102 (codes "inished\n") (λ f. omega arith),
)

counted_line : (n : ℕ) → n < 2 ^ 64 → IsSectionLine (count_line n)
counted_line n small = (
  numbered_line (codes "% queries ") n (single_run is_told (codes "% queries ") refl refl),
  no_header (codes "% quer") (codes " ") (drop 7 (count_line n)) (count_line n) 121 105 refl refl (λ f. omega arith),
)

counted_answers : (n : ℕ) → n < 2 ^ 64 → IsSectionLine (answer_count_line n)
counted_answers n small = (
  numbered_line (codes "% answers ") n (single_run is_told (codes "% answers ") refl refl),
  no_header_remark 97 (drop 3 (answer_count_line n)) (λ f. omega arith),
)

cut_at_rows : (n : ℕ) → n < 2 ^ 64 → IsSectionLine (rows_cut_line n)
cut_at_rows n small = (
  numbered_line (codes "% cut rows ") n (single_run is_told (codes "% cut rows ") refl refl),
  no_header_remark 99 (drop 3 (rows_cut_line n)) (λ f. omega arith),
)

cut_at_rule : (row rule : ℕ) → row < 2 ^ 64 → rule < 2 ^ 64 → IsSectionLine (wide_cut_line row rule)
cut_at_rule row rule small few =
    let before : List ℕ = codes "% cut wide row " ++ decimal row ++ codes " rule " in
    let free : IsSingle before =
    single_both (codes "% cut wide row " ++ decimal row) (codes " rule ")
    (single_both (codes "% cut wide row ") (decimal row) (single_run is_told (codes "% cut wide row ") refl refl) (single_number row))
    (single_run is_told (codes " rule ") refl refl) in
    (numbered_line before rule free, no_header_remark 99 (drop 3 (wide_cut_line row rule)) (λ f. omega arith))

-- ---- unions, answers and cuts

module _ (names : List (List ℕ)) (readable : AreReadableNames names) where
  line_of_query : (q : Query) → IsPrintable names q → IsSectionLine (query_line names q)
  line_of_query q h = (
    query_is_line names readable q,
    no_header [] (codes " query ") (drop 1 (query_line names q)) (query_line names q) 37 63 refl refl (λ f. omega arith),
  )

  line_of_tuple : (tuple : List ℕ) → All (λ c. c < length names) tuple → IsSectionLine (tuple_line names tuple)
  line_of_tuple tuple h = (tuple_is_line names readable tuple, no_header_remark 40 (drop 3 (tuple_line names tuple)) (λ f. omega arith))

  line_of_row : (row : Row) → IsPrintable names row.query → IsSectionLine (row_line names row)
  line_of_row row h = (row_is_line names readable row h, go row.live)
    where
      go : (live : Bool) → ¬ BeginsASection (life_text live ++ query_line names row.query)
      go true = no_header [] (codes " query ") (drop 1 (query_line names row.query)) (query_line names row.query) 37 63 refl refl (λ f. omega arith)
      go false = no_header_remark 100 (codes "ead " ++ query_line names row.query) (λ f. omega arith)

  line_of_left : (left : Query) → IsPrintable names left → IsSectionLine (left_line names left)
  line_of_left left h = (
    record {
      inner = codes "% left " ++ query_text names left;
      is = sym (append_assoc (codes "% left ") (query_text names left) line_feed);
      single = (single_both (codes "% left ") (query_text names left) (single_run is_told (codes "% left ") refl refl) (query_is_single names readable left)).free;
    },
    no_header_remark 108 (drop 3 (left_line names left)) (λ f. omega arith),
  )

  lines_of_rows : (rows : List Row) → ArePrintableRows names rows → All IsSectionLine (row_lines names rows)
  lines_of_rows rows h = All-map IsSectionLine (row_line names) rows (λ i d b. line_of_row (get_or rows i d) (h.each i d b))

  lines_of_union : (union : List Query) → ArePrintable names union → All IsSectionLine (finished_lines names union)
  lines_of_union union h =
      All-cons IsSectionLine (codes "% finished\n") (count_line (length union) ∷ map (query_line names) union) finished_line
      (All-cons IsSectionLine (count_line (length union)) (map (query_line names) union) (counted_line (length union) h.few)
      (All-map IsSectionLine (query_line names) union (λ i d b. line_of_query (get_or union i d) (h.each i d b))))

  lines_of_answers : (tuples : List (List ℕ)) → ArePrintableTuples names tuples → All IsSectionLine (answer_lines names tuples)
  lines_of_answers tuples h =
      All-cons IsSectionLine (answer_count_line (length tuples)) (map (tuple_line names) tuples) (counted_answers (length tuples) h.few)
      (All-map IsSectionLine (tuple_line names) tuples (λ i d b. line_of_tuple (get_or tuples i d) (h.held i d b)))

  pub finished_is_section : (union : List Query) → ArePrintable names union → AreSectionLines (finished_lines names union)
  finished_is_section union h = section_lines (finished_lines names union) (lines_of_union union h)

  pub answered_is_section : (union : List Query) (tuples : List (List ℕ)) → ArePrintable names union → ArePrintableTuples names tuples →
      AreSectionLines (answered_lines names union tuples)
  answered_is_section union tuples h k =
      section_lines (answered_lines names union tuples)
      (All-append IsSectionLine (finished_lines names union) (answer_lines names tuples) (lines_of_union union h) (lines_of_answers tuples k))

  pub rows_cut_is_section : (budget : ℕ) (rows : List Row) (left : Query) → budget < 2 ^ 64 → ArePrintableRows names rows → IsPrintable names left →
      AreSectionLines (rows_cut_lines names budget rows left)
  rows_cut_is_section budget rows left small h k =
      section_lines (rows_cut_lines names budget rows left)
      (All-cons IsSectionLine (rows_cut_line budget) (row_lines names rows ++ left_line names left ∷ []) (cut_at_rows budget small)
      (All-append IsSectionLine (row_lines names rows) (left_line names left ∷ []) (lines_of_rows rows h)
      (All-cons IsSectionLine (left_line names left) [] (line_of_left left k) (All-nil IsSectionLine))))

  pub wide_cut_is_section : (row rule : ℕ) (rows : List Row) → row < 2 ^ 64 → rule < 2 ^ 64 → ArePrintableRows names rows →
      AreSectionLines (wide_cut_lines names row rule rows)
  wide_cut_is_section row rule rows small few h =
      section_lines (wide_cut_lines names row rule rows)
      (All-cons IsSectionLine (wide_cut_line row rule) (row_lines names rows) (cut_at_rule row rule small few) (lines_of_rows rows h))
