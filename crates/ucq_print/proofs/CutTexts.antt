-- The texts of cuts are read back.
use Rattle.std.proofs.Common.{◌≡◌, ◌≢◌, ℕ, ◌<◌, ◌^◌, Bool, true, false, List, [], ◌∷◌, ◌++◌, map, drop, get_or, All, inl, inr, refl, sym, ap, ◌∙◌, append_assoc, arith}
use Rattle.std.specs.Prelude.{codes, decimal}
use Rattle.std.proofs.lemmas.List.{append_cancel_left, append-nil}
use Rattle.std.proofs.lemmas.List.Concat.{flat_map-append}
use Rattle.std.proofs.lemmas.List.Elements.{All-map}
use Rattle.ucq_terms.specs.Syntax.{Query}
use Rattle.ucq_terms.specs.Numbering.{numbered_query}
use Rattle.ucq_antichain.specs.declared.Row.{Row}
use Rattle.ucq_print.specs.Texts.{line_feed, life_text, query_text, query_line, row_line, row_lines, lines_text, left_line, rows_cut_line, rows_cut_text, wide_cut_line, wide_cut_text, finished_text}
use Rattle.ucq_print.specs.Laws.{IsLine, IsPrintable, AreReadableNames, ArePrintableRows, numbered_row, BeginsARow}
use Rattle.ucq_print.proofs.Spelled.{AreOne, decimals_apart, heads_differ, tails}
use Rattle.ucq_print.proofs.LineFeeds.{IsSingle, is_told, single_both, single_run}
use Rattle.ucq_print.proofs.ToldLines.{IsBeginning, ended_lines, lines_tell}
use Rattle.ucq_print.proofs.ReadBack.{numbered_apart}
use Rattle.ucq_print.proofs.Unions.{printed_query, query_is_single, query_told}

module _ (names : List (List ℕ)) (readable : AreReadableNames names) where
  abbrev rows_text : List Row → List ℕ
  rows_text rows = lines_text (row_lines names rows)

  line_apart : (p q : Query) (x y : List ℕ) → IsPrintable names p → IsPrintable names q → query_line names p ++ x ≡ query_line names q ++ y → AreOne (numbered_query p) (numbered_query q) x y
  line_apart p q x y h k e =
      let whole : query_text names p ++ 10 ∷ x ≡ query_text names q ++ 10 ∷ y = sym (append_assoc (query_text names p) line_feed x) ∙ (e ∙ append_assoc (query_text names q) line_feed y) in
      let one = numbered_apart names readable (numbered_query p) (numbered_query q) (10 ∷ x) (10 ∷ y) (printed_query names p h) (printed_query names q k) whole in
      record { front = one.front; rest = tails one.rest }

  -- ---- rows

  begins_a_row : (row : Row) (rest : List ℕ) → BeginsARow (row_line names row ++ rest)
  begins_a_row row rest = go row.live
    where
      go : (live : Bool) → BeginsARow ((life_text live ++ query_line names row.query) ++ rest)
      go true = (drop 1 (query_line names row.query ++ rest), inl refl)
      go false = (query_line names row.query ++ rest, inr (append_assoc (codes "% dead ") (query_line names row.query) rest))

  abbrev row_of : Query → Bool → Row
  row_of q live = record { query = q; live = live }

  abbrev IsPrintableRow : Row → Type 0
  IsPrintableRow row = IsPrintable names row.query

  pub row_is_line : (row : Row) → IsPrintableRow row → IsLine (row_line names row)
  row_is_line row h = marked row.live
    where
      text : IsSingle (query_text names row.query)
      text = query_is_single names readable row.query

      mark : (live : Bool) → IsSingle (life_text live)
      mark true = single_run is_told [] refl refl
      mark false = single_run is_told (codes "% dead ") refl refl

      marked : (live : Bool) → IsLine (life_text live ++ query_line names row.query)
      marked live = record {
        inner = life_text live ++ query_text names row.query;
        is = sym (append_assoc (life_text live) (query_text names row.query) line_feed);
        single = (single_both (life_text live) (query_text names row.query) (mark live) text).free;
      }

  -- a row by its line
  marked_told : (a b : Bool) (p q : Query) → IsPrintable names p → IsPrintable names q → life_text a ++ query_line names p ≡ life_text b ++ query_line names q →
      row_of (numbered_query p) a ≡ row_of (numbered_query q) b
  marked_told true true p q h k e = ap (λ (r : Query). row_of r true) (query_told names readable p q h k e)
  marked_told true false p q h k e = absurd (heads_differ 63 37 (drop 1 (query_line names p)) (drop 1 (codes "% dead " ++ query_line names q)) (λ f. omega arith) e)
  marked_told false true p q h k e = absurd (heads_differ 37 63 (drop 1 (codes "% dead " ++ query_line names p)) (drop 1 (query_line names q)) (λ f. omega arith) e)
  marked_told false false p q h k e =
      ap (λ (r : Query). row_of r false) (query_told names readable p q h k (append_cancel_left (codes "% dead ") (query_line names p) (query_line names q) e))

  row_told : (r s : Row) → IsPrintableRow r → IsPrintableRow s → row_line names r ≡ row_line names s → numbered_row r ≡ numbered_row s
  row_told r s h k e = marked_told r.live s.live r.query s.query h k e

  abbrev AllPrintable : List Row → Type 0
  AllPrintable rows = All IsPrintableRow rows

  -- rows, and what begins no row
  rows_apart : (rs ss : List Row) (x y : List ℕ) → AllPrintable rs → AllPrintable ss → ¬ BeginsARow x → ¬ BeginsARow y → rows_text rs ++ x ≡ rows_text ss ++ y →
      AreOne (map numbered_row rs) (map numbered_row ss) x y
  rows_apart rs ss x y h k none neither e =
      let told = ended_lines BeginsARow (row_lines names rs) (row_lines names ss) x y (are_lines rs h) (are_lines ss k) (begin rs) (begin ss) none neither e in
      record { front = lines_tell (row_line names) numbered_row IsPrintableRow row_told rs ss h k told.front; rest = told.rest }
    where
      are_lines : (rows : List Row) → AllPrintable rows → All IsLine (row_lines names rows)
      are_lines rows h = All-map IsLine (row_line names) rows (λ i d b. row_is_line _ (h i d b))

      begin : (rows : List Row) → All (IsBeginning BeginsARow) (row_lines names rows)
      begin rows = All-map (IsBeginning BeginsARow) (row_line names) rows (λ i d b. begins_a_row (get_or rows i d))

  -- ---- a cut at the budget

  left_is_no_row : (left : Query) (x : List ℕ) → ¬ BeginsARow (left_line names left ++ x)
  left_is_no_row left x (rest, inl e) = heads_differ 37 63 (drop 1 (left_line names left ++ x)) rest (λ f. omega arith) e
  left_is_no_row left x (rest, inr e) =
      let f : codes "% " ++ (108 ∷ drop 3 (left_line names left ++ x)) ≡ codes "% " ++ (100 ∷ (codes "ead " ++ rest)) = e in
      heads_differ 108 100 (drop 3 (left_line names left ++ x)) (codes "ead " ++ rest) (λ g. omega arith)
      (append_cancel_left (codes "% ") (108 ∷ drop 3 (left_line names left ++ x)) (100 ∷ (codes "ead " ++ rest)) f)

  rows_cut_shape : (budget : ℕ) (rows : List Row) (left : Query) (x : List ℕ) →
      rows_cut_text names budget rows left ++ x ≡ codes "% cut rows " ++ (decimal budget ++ 10 ∷ (rows_text rows ++ (left_line names left ++ x)))
  rows_cut_shape budget rows left x =
      let lines : List ℕ = lines_text (row_lines names rows ++ left_line names left ∷ []) in
      append_assoc (rows_cut_line budget) lines x ∙
      (append_assoc (codes "% cut rows " ++ decimal budget) line_feed (lines ++ x) ∙
      (append_assoc (codes "% cut rows ") (decimal budget) (10 ∷ (lines ++ x)) ∙
      ap (λ l. codes "% cut rows " ++ (decimal budget ++ 10 ∷ l)) (ap (λ l. l ++ x) apart ∙ append_assoc (rows_text rows) (left_line names left) x)))
    where
      apart : lines_text (row_lines names rows ++ left_line names left ∷ []) ≡ rows_text rows ++ left_line names left
      apart = flat_map-append (λ (l : List ℕ). l) (row_lines names rows) (left_line names left ∷ []) ∙ ap (λ l. rows_text rows ++ l) (append-nil (left_line names left))

  pub rows_cut_apart : (b c : ℕ) (rs ss : List Row) (p q : Query) (x y : List ℕ) → b < 2 ^ 64 → c < 2 ^ 64 → ArePrintableRows names rs → ArePrintableRows names ss →
      IsPrintable names p → IsPrintable names q → rows_cut_text names b rs p ++ x ≡ rows_cut_text names c ss q ++ y →
      (b ≡ c) × (map numbered_row rs ≡ map numbered_row ss) × (numbered_query p ≡ numbered_query q) × (x ≡ y)
  rows_cut_apart b c rs ss p q x y small few h k printed other e =
      let before : List ℕ = rows_text rs ++ (left_line names p ++ x) in
      let after : List ℕ = rows_text ss ++ (left_line names q ++ y) in
      let counted = append_cancel_left (codes "% cut rows ") (decimal b ++ 10 ∷ before) (decimal c ++ 10 ∷ after) (sym (rows_cut_shape b rs p x) ∙ (e ∙ rows_cut_shape c ss q y)) in
      let numbers = decimals_apart b c 10 10 before after small few refl refl counted in
      let rows = rows_apart rs ss (left_line names p ++ x) (left_line names q ++ y) h.each k.each (left_is_no_row p x) (left_is_no_row q y) (tails numbers.rest) in
      let lefts =
      append_cancel_left (codes "% left ") (query_line names p ++ x) (query_line names q ++ y)
      (sym (append_assoc (codes "% left ") (query_line names p) x) ∙ (rows.rest ∙ append_assoc (codes "% left ") (query_line names q) y)) in
      let one = line_apart p q x y printed other lefts in
      (numbers.front, rows.front, one.front, one.rest)

  -- ---- a cut at a rewriting that is too wide

  regroup : (a b c d e x : List ℕ) → ((((a ++ b) ++ c) ++ d) ++ e) ++ x ≡ a ++ (b ++ (c ++ (d ++ (e ++ x))))
  regroup a b c d e x = simp append_assoc

  wide_cut_shape : (row rule : ℕ) (rows : List Row) (x : List ℕ) →
      wide_cut_text names row rule rows ++ x ≡ codes "% cut wide row " ++ (decimal row ++ 32 ∷ (codes "rule " ++ (decimal rule ++ 10 ∷ (rows_text rows ++ x))))
  wide_cut_shape row rule rows x =
      append_assoc (wide_cut_line row rule) (rows_text rows) x ∙ regroup (codes "% cut wide row ") (decimal row) (codes " rule ") (decimal rule) line_feed (rows_text rows ++ x)

  pub wide_cut_apart : (i m j n : ℕ) (rs ss : List Row) (x y : List ℕ) → (i < 2 ^ 64) × (m < 2 ^ 64) → (j < 2 ^ 64) × (n < 2 ^ 64) → ArePrintableRows names rs →
      ArePrintableRows names ss → ¬ BeginsARow x → ¬ BeginsARow y → wide_cut_text names i m rs ++ x ≡ wide_cut_text names j n ss ++ y →
      (i ≡ j) × (m ≡ n) × (map numbered_row rs ≡ map numbered_row ss) × (x ≡ y)
  wide_cut_apart i m j n rs ss x y small few h k none none_other e =
      let before : List ℕ = rows_text rs ++ x in
      let after : List ℕ = rows_text ss ++ y in
      let named =
      append_cancel_left (codes "% cut wide row ") (decimal i ++ 32 ∷ (codes "rule " ++ (decimal m ++ 10 ∷ before))) (decimal j ++ 32 ∷ (codes "rule " ++ (decimal n ++ 10 ∷ after)))
      (sym (wide_cut_shape i m rs x) ∙ (e ∙ wide_cut_shape j n ss y)) in
      let places = decimals_apart i j 32 32 (codes "rule " ++ (decimal m ++ 10 ∷ before)) (codes "rule " ++ (decimal n ++ 10 ∷ after)) small.0 few.0 refl refl named in
      let ruled = append_cancel_left (codes "rule ") (decimal m ++ 10 ∷ before) (decimal n ++ 10 ∷ after) (tails places.rest) in
      let rules = decimals_apart m n 10 10 before after small.1 few.1 refl refl ruled in
      let rows = rows_apart rs ss x y h.each k.each none none_other (tails rules.rest) in
      (places.front, rules.front, rows.front, rows.rest)

-- ---- kinds of texts

module _ (names : List (List ℕ)) where
  finished_is_no_cut : (union : List Query) (tail rest other : List ℕ) → finished_text names union ++ rest ≡ (codes "% c" ++ tail) ++ other → ⊥
  finished_is_no_cut union tail rest other e =
      let f : codes "% " ++ (102 ∷ drop 3 (finished_text names union ++ rest)) ≡ codes "% " ++ (99 ∷ (tail ++ other)) = e in
      heads_differ 102 99 (drop 3 (finished_text names union ++ rest)) (tail ++ other) (λ g. omega arith)
      (append_cancel_left (codes "% ") (102 ∷ drop 3 (finished_text names union ++ rest)) (99 ∷ (tail ++ other)) f)

  pub finished_no_rows_cut : (union : List Query) (budget : ℕ) (rows : List Row) (left : Query) (rest other : List ℕ) →
      finished_text names union ++ rest ≢ rows_cut_text names budget rows left ++ other
  finished_no_rows_cut union budget rows left rest other e = finished_is_no_cut union (drop 3 (rows_cut_text names budget rows left)) rest other e

  pub finished_no_wide_cut : (union : List Query) (row rule : ℕ) (rows : List Row) (rest other : List ℕ) →
      finished_text names union ++ rest ≢ wide_cut_text names row rule rows ++ other
  finished_no_wide_cut union row rule rows rest other e = finished_is_no_cut union (drop 3 (wide_cut_text names row rule rows)) rest other e

  pub cuts_differ : (budget row rule : ℕ) (rows others : List Row) (left : Query) (rest other : List ℕ) →
      rows_cut_text names budget rows left ++ rest ≢ wide_cut_text names row rule others ++ other
  cuts_differ budget row rule rows others left rest other e =
      let one : List ℕ = drop 7 (rows_cut_text names budget rows left ++ rest) in
      let two : List ℕ = drop 7 (wide_cut_text names row rule others ++ other) in
      let f : codes "% cut " ++ (114 ∷ one) ≡ codes "% cut " ++ (119 ∷ two) = e in
      heads_differ 114 119 one two (λ g. omega arith) (append_cancel_left (codes "% cut ") (114 ∷ one) (119 ∷ two) f)
