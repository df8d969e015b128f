-- Lines by their places.
use Rattle.std.proofs.Common.{◌≡◌, ◌≢◌, ℕ, zero, suc, ◌+◌, ◌-◌, ◌<◌, ◌≤◌, List, [], ◌∷◌, ◌++◌, length, take, drop, get_or, add-one, refl, sym, ap, ◌∙◌, arith}
use Rattle.std.specs.Prelude.{Some, codes, slice_get}
use Rattle.std.specs.Option.{option_map}
use Rattle.std.proofs.Math.Seq.{split_at, take-suc}
use Rattle.std.proofs.lemmas.Grind.{flat_map-append}
use Rattle.std.proofs.lemmas.Option.{slice_get-map, slice_get-get_or, slice_get_within, get_or_from_slice_get}
use Rattle.std.proofs.lemmas.List.{length-map, append-nil}
use Rattle.ucq_terms.specs.Syntax.{Query}
use Rattle.ucq_antichain.specs.declared.Row.{Row}
use Rattle.ucq_antichain.specs.Rows.{no_row, row_at}
use Rattle.ucq_eval.specs.Tuples.{tuple_text}
use Rattle.ucq_print.specs.Texts.{answer_lines, line_feed, tuple_line, row_line, row_lines, left_line, lines_text, rows_cut_lines, wide_cut_lines}

-- an element of a list's front, and the one behind it
slice_get-front : {X : Type 0} (xs ys : List X) (k : ℕ) → k < length xs → slice_get (xs ++ ys) k ≡ slice_get xs k
slice_get-front [] ys k h = absurd (omega arith)
slice_get-front (x ∷ xs) ys zero h = refl
slice_get-front (x ∷ xs) ys (suc k) h = slice_get-front xs ys k (omega (arith, h))

slice_get-behind : {X : Type 0} (xs : List X) (y : X) → slice_get (xs ++ y ∷ []) (length xs) ≡ Some y
slice_get-behind [] y = refl
slice_get-behind (x ∷ xs) y = slice_get-behind xs y

-- a row's line among those of the rows
row_at_place : (names : List (List ℕ)) (rows : List Row) (row : ℕ) → row < length rows → slice_get (row_lines names rows) row ≡ Some (row_line names (row_at rows row))
row_at_place names rows row h = slice_get-map (row_line names) rows row ∙ ap (option_map (row_line names)) (slice_get-get_or rows row no_row h)

-- a row's line in the text of a wide cut
pub row_at_wide_place : (names : List (List ℕ)) (row rule : ℕ) (rows : List Row) (place : ℕ) (line : List ℕ) → place ≢ 0 → place < length (wide_cut_lines names row rule rows) →
    line ≡ row_line names (row_at rows (place - 1)) → slice_get (wide_cut_lines names row rule rows) place ≡ Some line
row_at_wide_place names row rule rows zero line other h is = absurd (other refl)
row_at_wide_place names row rule rows (suc k) line other h is =
    let same : suc k - 1 ≡ k = omega arith in
    row_at_place names rows k (omega (arith, h, length-map rows (row_line names))) ∙ ap Some (sym (is ∙ ap (λ n. row_line names (row_at rows n)) same))

-- a row's line in the text of a cut at the budget, and the line of what is left
pub row_at_rows_place : (names : List (List ℕ)) (budget : ℕ) (rows : List Row) (left : Query) (place : ℕ) (line : List ℕ) → place ≢ 0 → place ≤ length rows →
    line ≡ row_line names (row_at rows (place - 1)) → slice_get (rows_cut_lines names budget rows left) place ≡ Some line
row_at_rows_place names budget rows left zero line other h is = absurd (other refl)
row_at_rows_place names budget rows left (suc k) line other h is =
    let same : suc k - 1 ≡ k = omega arith in
    slice_get-front (row_lines names rows) (left_line names left ∷ []) k (omega (arith, h, length-map rows (row_line names))) ∙
    (row_at_place names rows k (omega (arith, h)) ∙ ap Some (sym (is ∙ ap (λ n. row_line names (row_at rows n)) same)))

pub left_at_place : (names : List (List ℕ)) (budget : ℕ) (rows : List Row) (left : Query) (place : ℕ) (line : List ℕ) → place ≡ length rows + 1 →
    line ≡ left_line names left → slice_get (rows_cut_lines names budget rows left) place ≡ Some line
left_at_place names budget rows left zero line last is = absurd (omega arith)
left_at_place names budget rows left (suc k) line last is =
    let same : k ≡ length (row_lines names rows) = omega (arith, last, length-map rows (row_line names)) in
    ap (slice_get (row_lines names rows ++ left_line names left ∷ [])) same ∙ (slice_get-behind (row_lines names rows) (left_line names left) ∙ ap Some (sym is))

-- the text up to one more line
pub lines_more : (lines : List (List ℕ)) (k : ℕ) (line : List ℕ) → slice_get lines k ≡ Some line → lines_text (take (k + 1) lines) ≡ lines_text (take k lines) ++ line
lines_more lines k line h =
    ap (λ n. lines_text (take n lines)) (add-one k) ∙ (ap lines_text (take-suc lines k line (slice_get_within lines k line h)) ∙
    (flat_map-append (λ l. l) (take k lines) (get_or lines k line ∷ []) ∙
    (ap (λ l. lines_text (take k lines) ++ l) (append-nil (get_or lines k line) ∙ get_or_from_slice_get lines k line line h))))

-- the text before a line, the line, and the text after it
pub lines_around : (lines : List (List ℕ)) (k : ℕ) (line : List ℕ) → slice_get lines k ≡ Some line →
    lines_text lines ≡ lines_text (take k lines) ++ (line ++ lines_text (drop (suc k) lines))
lines_around lines k line h =
    ap lines_text (split_at lines k line (slice_get_within lines k line h)) ∙
    (flat_map-append (λ l. l) (take k lines) (get_or lines k line ∷ drop (suc k) lines) ∙
    ap (λ l. lines_text (take k lines) ++ (l ++ lines_text (drop (suc k) lines))) (get_or_from_slice_get lines k line line h))

-- a tuple's line among the answers, where its text was made before
pub text_at_place : (names : List (List ℕ)) (tuples : List (List ℕ)) (place : ℕ) (text line : List ℕ) → place ≢ 0 → place < length (answer_lines names tuples) →
    ((tuple : List ℕ) → slice_get tuples (place - 1) ≡ Some tuple → text ≡ tuple_text names tuple) → line ≡ codes "% " ++ text ++ line_feed →
    slice_get (answer_lines names tuples) place ≡ Some line
text_at_place names tuples zero text line other h at is = absurd (other refl)
text_at_place names tuples (suc k) text line other h at is =
    let inside : k < length tuples = omega (arith, h, length-map tuples (tuple_line names)) in
    let same : suc k - 1 ≡ k = omega arith in
    let tuple : List ℕ = get_or tuples k [] in
    let here : slice_get tuples k ≡ Some tuple = slice_get-get_or tuples k [] inside in
    let told : text ≡ tuple_text names tuple = at tuple (ap (slice_get tuples) same ∙ here) in
    slice_get-map (tuple_line names) tuples k ∙ (ap (option_map (tuple_line names)) here ∙ ap Some (sym (is ∙ ap (λ (t : List ℕ). codes "% " ++ t ++ line_feed) told)))
