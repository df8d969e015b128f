-- Told bytes, step by step.
use Rattle.std.proofs.Common.{get_or, ◌∙◌, ◌≡◌, ◌≤◌, ◌<◌, ◌++◌, ◌+◌, ◌-◌, ℕ, Bool, true, false, List, [], ◌∷◌, length, map, filter, take, drop, arith, append_assoc, ap, sym}
use Rattle.std.proofs.lemmas.Grind.{common_steps}
use Rattle.std.proofs.lemmas.List.{append-nil, map-append, take-append-drop, take_more}
use Rattle.std.proofs.lemmas.List.Elements.{filter-append}
use Rattle.std.proofs.lemmas.Grind.{flat_map-append}
use Rattle.std.proofs.Math.Seq.{take-add}
use Rattle.std.proofs.lemmas.Option.{get_or_from_slice_get}
use Rattle.std.specs.Prelude.{Option, Some, None, Result, Ok, Err, IfSome, IfOk, codes, slice_get}
use Rattle.std.specs.Global.{Vec}
use Rattle.ucq_terms.specs.Syntax.{Query}
use Rattle.ucq_antichain.specs.declared.Row.{Row}
use Rattle.ucq_antichain.specs.Rows.{live_queries, query_at, row_at}
use Rattle.ucq_store.proofs.Live.{dead_more, live_more}
use Rattle.ucq_print.specs.Texts.{answer_lines, answered_text, count_line, finished_lines, finished_text, life_text, lines_text, query_line, row_line}
use Rattle.ucq_run.specs.inner.Written.{row_texts}
use Rattle.ucq_outside.specs.inner.Files.{IsPiece}

rest_is : (piece : List ℕ) (done : ℕ) → take (length piece - done) (drop done piece) ≡ drop done piece
rest_is piece done = grind (arith, common_steps)

pub goes_on : (before mid now : Option (List ℕ)) (piece : List ℕ) (done n : ℕ)
    → IfSome mid (λ b. (o : List ℕ) × (before ≡ Some o) × (b ≡ o ++ take done piece))
    → IfSome now (λ b. (o : List ℕ) × (mid ≡ Some o) × (b ≡ o ++ take n (take (length piece - done) (drop done piece))))
    → IfSome now (λ b. (o : List ℕ) × (before ≡ Some o) × (b ≡ o ++ take (done + n) piece))
goes_on before mid None piece done n h k = tt
goes_on before None (Some b) piece done n h k = let e = k.1 in cc
goes_on before (Some m) (Some b) piece done n h k =
    let t = take-add done n piece in
    let r = rest_is piece done in
    let a = append_assoc h.0 (take done piece) (take n (drop done piece)) in
    let e = h.2 in let f = k.1 in let p = k.2 in
    (h.0, h.1, cc)

pub more_read : (file bytes buffer : List ℕ) (at n : ℕ)
    → bytes ≡ take at file → at ≤ length file → 0 < n → n ≤ length buffer → IsPiece file at n buffer
    → (bytes ++ take n buffer ≡ take (at + n) file) × (at + n ≤ length file)
more_read file bytes buffer at n e l some room p =
    let t = take-add at n file in let b = p.bytes in
    let q : length (take n buffer) ≡ length (take n (drop at file)) = ap length b in
    (cc, grind (arith, common_steps))

-- lines one after another
abbrev pub line_at : List (List ℕ) → ℕ → List ℕ
line_at lines i = get_or lines i []

-- the line that was made, if one was
pub line_made : {E : Type 0} (lines : List (List ℕ)) (i : ℕ) (made : Result (Vec ℕ) E) → IfOk made (λ line. slice_get lines i ≡ Some line.items) → IfOk made (λ line. line.items ≡ line_at lines i)
line_made lines i (Ok line) here = sym (get_or_from_slice_get lines i line.items [] here)
line_made lines i (Err e) here = tt

pub lines_more : (lines : List (List ℕ)) (i : ℕ) → i < length lines → lines_text (take (i + 1) lines) ≡ lines_text (take i lines) ++ line_at lines i
lines_more lines i inside =
    ap lines_text (take_more lines i [] inside)
    ∙ flat_map-append (λ (l : List ℕ). l) (take i lines) (get_or lines i [] ∷ [])
    ∙ ap (λ (l : List ℕ). lines_text (take i lines) ++ l) (append-nil (get_or lines i []))

lines_split : (lines : List (List ℕ)) (i : ℕ) → lines_text lines ≡ lines_text (take i lines) ++ lines_text (drop i lines)
lines_split lines i = ap lines_text (sym (take-append-drop i lines)) ∙ flat_map-append (λ (l : List ℕ). l) (take i lines) (drop i lines)

-- the whole, about a line
pub lines_about : (lines : List (List ℕ)) (i : ℕ) → i < length lines → lines_text lines ≡ (lines_text (take i lines) ++ line_at lines i) ++ lines_text (drop (i + 1) lines)
lines_about lines i inside = lines_split lines (i + 1) ∙ ap (λ (l : List ℕ). l ++ lines_text (drop (i + 1) lines)) (lines_more lines i inside)

-- ---- live rows

live_append : (xs ys : List Row) → live_queries (xs ++ ys) ≡ live_queries xs ++ live_queries ys
live_append xs ys =
    ap (map (λ (r : Row). r.query)) (filter-append (λ (r : Row). r.live) xs ys)
    ∙ map-append (λ (r : Row). r.query) (filter (λ (r : Row). r.live) xs) (filter (λ (r : Row). r.live) ys)

queries_append : (names : List (List ℕ)) (xs ys : List Query) →
    lines_text (map (query_line names) (xs ++ ys)) ≡ lines_text (map (query_line names) xs) ++ lines_text (map (query_line names) ys)
queries_append names xs ys =
    ap lines_text (map-append (query_line names) xs ys) ∙ flat_map-append (λ (l : List ℕ). l) (map (query_line names) xs) (map (query_line names) ys)

-- one more row, which is live
pub rows_more : (names : List (List ℕ)) (rows : List Row) (i : ℕ) → i < length rows → (row_at rows i).live ≡ true →
    row_texts names (take (i + 1) rows) ≡ row_texts names (take i rows) ++ query_line names (query_at rows i)
rows_more names rows i inside live =
    ap (λ (qs : List Query). lines_text (map (query_line names) qs)) (live_more rows i inside live)
    ∙ queries_append names (live_queries (take i rows)) (query_at rows i ∷ [])
    ∙ ap (λ (l : List ℕ). row_texts names (take i rows) ++ l) (append-nil (query_line names (query_at rows i)))

-- or dead
pub rows_same : (names : List (List ℕ)) (rows : List Row) (i : ℕ) → i < length rows → (row_at rows i).live ≡ false → row_texts names (take (i + 1) rows) ≡ row_texts names (take i rows)
rows_same names rows i inside dead = ap (λ (qs : List Query). lines_text (map (query_line names) qs)) (dead_more rows i inside dead)

-- the whole, about a live row
pub rows_about : (names : List (List ℕ)) (rows : List Row) (i : ℕ) → i < length rows → (row_at rows i).live ≡ true →
    row_texts names rows ≡ (row_texts names (take i rows) ++ query_line names (query_at rows i)) ++ row_texts names (drop (i + 1) rows)
rows_about names rows i inside live =
    ap (row_texts names) (sym (take-append-drop (i + 1) rows))
    ∙ ap (λ (qs : List Query). lines_text (map (query_line names) qs)) (live_append (take (i + 1) rows) (drop (i + 1) rows))
    ∙ queries_append names (live_queries (take (i + 1) rows)) (live_queries (drop (i + 1) rows))
    ∙ ap (λ (l : List ℕ). l ++ row_texts names (drop (i + 1) rows)) (rows_more names rows i inside live)

-- a live row's line is that of its query
live_line : (names : List (List ℕ)) (r : Row) → r.live ≡ true → row_line names r ≡ query_line names r.query
live_line names r live = ap (λ (b : Bool). life_text b ++ query_line names r.query) live

pub live_line_made : {E : Type 0} (names : List (List ℕ)) (r : Row) (made : Result (Vec ℕ) E) → r.live ≡ true → IfOk made (λ line. line.items ≡ row_line names r) → IfOk made (λ line. line.items ≡ query_line names r.query)
live_line_made names r (Ok line) live is = is ∙ live_line names r live
live_line_made names r (Err e) live is = tt

-- a finished text is its head and the queries
pub finished_about : (names : List (List ℕ)) (union : List Query) (count : ℕ) → count ≡ length union →
    (codes "% finished\n" ++ count_line count) ++ lines_text (map (query_line names) union) ≡ finished_text names union
finished_about names union count is =
    ap (λ (n : ℕ). (codes "% finished\n" ++ count_line n) ++ lines_text (map (query_line names) union)) is
    ∙ append_assoc (codes "% finished\n") (count_line (length union)) (lines_text (map (query_line names) union))

-- a text with answers is the finished text and the answers
pub answered_about : (names : List (List ℕ)) (union : List Query) (tuples : List (List ℕ)) →
    finished_text names union ++ lines_text (answer_lines names tuples) ≡ answered_text names union tuples
answered_about names union tuples = sym (flat_map-append (λ (l : List ℕ). l) (finished_lines names union) (answer_lines names tuples))
