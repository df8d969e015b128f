-- The finished text is read back.
use Rattle.std.proofs.Common.{◌≡◌, ℕ, ◌+◌, ◌<◌, ◌≤◌, ◌^◌, Bool, true, false, cond, not, List, [], ◌∷◌, ◌++◌, length, map, refl, sym, ap, ◌∙◌, subst, append_assoc, arith, All, nat_eq, flat_map}
use Rattle.std.specs.Prelude.{codes, decimal}
use Rattle.std.specs.List.{position_or_len}
use Rattle.std.proofs.lemmas.List.{append_cancel_left, append-nil, map-id}
use Rattle.std.proofs.lemmas.List.Concat.{flat_map-append}
use Rattle.std.proofs.lemmas.List.Elements.{All-map}
use Rattle.ucq_terms.specs.declared.Term.{Term}
use Rattle.ucq_terms.specs.declared.Term.TheVariants.{Constant, Variable}
use Rattle.ucq_terms.specs.Syntax.{Atom, Query}
use Rattle.ucq_terms.specs.Numbering.{numbered_term, numbered_terms, numbered_atom, query_order, numbered_query}
use Rattle.ucq_terms.specs.Names.{name_text}
use Rattle.ucq_terms.specs.Equality.{number_in}
use Rattle.ucq_eval.specs.Tuples.{tuple_text}
use Rattle.ucq_print.specs.Texts.{line_feed, term_text, terms_text, query_text, query_line, lines_text, count_line, finished_lines, finished_text, tuple_line, answer_count_line, answer_lines, answered_text}
use Rattle.ucq_chase.specs.Names.{IsHeldTerm, IsHeldAtom}
use Rattle.ucq_print.specs.Laws.{IsLine, IsPrintable, AreReadableNames, ArePrintable, ArePrintableTuples}
use Rattle.ucq_print.proofs.Spelled.{AreOne, decimals_apart, tails}
use Rattle.ucq_print.proofs.LineFeeds.{IsSingle, is_told, single_both, single_query, single_run, single_terms}
use Rattle.ucq_print.proofs.ToldLines.{counted_elements}
use Rattle.ucq_print.proofs.ReadBack.{IsPrintedTerm, IsPrintedAtom, IsPrinted, numbered_apart, terms_apart}

-- a place is at most the length
position-le : (p : ℕ → Bool) (xs : List ℕ) → position_or_len p xs ≤ length xs
position-le p [] = omega arith
position-le p (x ∷ xs) = go (position-le p xs) (p x)
  where
    go : position_or_len p xs ≤ length xs → (b : Bool) → cond (not b) (1 + position_or_len p xs) 0 ≤ length (x ∷ xs)
    go rest true = omega arith
    go rest false = omega (arith, rest)

-- a numbered query is printed whole
printed_term : (names : List (List ℕ)) (order : List ℕ) → length order < 2 ^ 64 → (t : Term) → IsHeldTerm (length names) t → IsPrintedTerm names (numbered_term order t)
printed_term names order small (Constant c) h = h
printed_term names order small (Variable v) h = omega (arith, small, position-le (nat_eq v) order)

printed_terms : (names : List (List ℕ)) (order : List ℕ) → length order < 2 ^ 64 → (ts : List Term) → All (IsHeldTerm (length names)) ts → All (IsPrintedTerm names) (numbered_terms order ts)
printed_terms names order small ts h = All-map (IsPrintedTerm names) (numbered_term order) ts (λ k d l. printed_term names order small _ (h k d l))

printed_atom : (names : List (List ℕ)) (order : List ℕ) → length order < 2 ^ 64 → (a : Atom) → IsHeldAtom (length names) a → IsPrintedAtom names (numbered_atom order a)
printed_atom names order small a h = record { name = h.name; terms = printed_terms names order small a.terms h.terms }

pub printed_query : (names : List (List ℕ)) (q : Query) → IsPrintable names q → IsPrinted names (numbered_query q)
printed_query names q h = record {
  answers = printed_terms names (query_order q) h.variables q.answers h.held.answers;
  atoms = All-map (IsPrintedAtom names) (numbered_atom (query_order q)) q.atoms (λ k d l. printed_atom names (query_order q) h.variables _ (h.held.atoms k d l));
}

module _ (names : List (List ℕ)) (readable : AreReadableNames names) where
  abbrev lines : List Query → List ℕ
  lines union = lines_text (map (query_line names) union)

  pub query_is_single : (q : Query) → IsSingle (query_text names q)
  query_is_single q = single_query names readable (numbered_query q)

  pub query_is_line : (q : Query) → IsLine (query_line names q)
  query_is_line q = record { inner = query_text names q; is = refl; single = (query_is_single q).free }

  -- a query by its line
  pub query_told : (p q : Query) → IsPrintable names p → IsPrintable names q → query_line names p ≡ query_line names q → numbered_query p ≡ numbered_query q
  query_told p q h k e = (numbered_apart names readable (numbered_query p) (numbered_query q) line_feed line_feed (printed_query names p h) (printed_query names q k) e).front

  lines_apart : (one two : List Query) (x y : List ℕ) → All (IsPrintable names) one → All (IsPrintable names) two → length one ≡ length two → lines one ++ x ≡ lines two ++ y →
      AreOne (map numbered_query one) (map numbered_query two) x y
  lines_apart one two x y h k n e = counted_elements (query_line names) numbered_query (IsPrintable names) (λ q h. query_is_line q) query_told one two x y h k n e

  finished_shape : (union : List Query) (x : List ℕ) → finished_text names union ++ x ≡ codes "% finished\n" ++ (codes "% queries " ++ (decimal (length union) ++ 10 ∷ (lines union ++ x)))
  finished_shape union x =
      append_assoc (codes "% finished\n") (count_line (length union) ++ lines union) x ∙
      ap (λ l. codes "% finished\n" ++ l) (append_assoc (count_line (length union)) (lines union) x ∙ count_shape (length union) (lines union ++ x))
    where
      count_shape : (n : ℕ) (rest : List ℕ) → count_line n ++ rest ≡ codes "% queries " ++ (decimal n ++ 10 ∷ rest)
      count_shape n rest = append_assoc (codes "% queries " ++ decimal n) line_feed rest ∙ append_assoc (codes "% queries ") (decimal n) (10 ∷ rest)

  -- a union by a text that begins with its finished text
  pub beginning_apart : (one two : List Query) (x y : List ℕ) → ArePrintable names one → ArePrintable names two → finished_text names one ++ x ≡ finished_text names two ++ y →
      AreOne (map numbered_query one) (map numbered_query two) x y
  beginning_apart one two x y h k e =
      let whole = append_cancel_left (codes "% finished\n") (codes "% queries " ++ (decimal (length one) ++ 10 ∷ (lines one ++ x))) (codes "% queries " ++ (decimal (length two) ++ 10 ∷ (lines two ++ y))) (sym (finished_shape one x) ∙ (e ∙ finished_shape two y)) in
      let counted = append_cancel_left (codes "% queries ") (decimal (length one) ++ 10 ∷ (lines one ++ x)) (decimal (length two) ++ 10 ∷ (lines two ++ y)) whole in
      let numbers = decimals_apart (length one) (length two) 10 10 (lines one ++ x) (lines two ++ y) h.few k.few refl refl counted in
      lines_apart one two x y h.each k.each numbers.front (tails numbers.rest)

  pub finished_tells : (one two : List Query) → ArePrintable names one → ArePrintable names two → finished_text names one ≡ finished_text names two → map numbered_query one ≡ map numbered_query two
  finished_tells one two h k e = (beginning_apart one two [] [] h k (append-nil (finished_text names one) ∙ (e ∙ sym (append-nil (finished_text names two))))).front

  -- ---- answers

  more_names : (tuple : List ℕ) → flat_map (λ c. codes "," ++ name_text names c) tuple ≡ flat_map (λ t. codes "," ++ term_text names t) (map Constant tuple)
  more_names [] = refl
  more_names (c ∷ cs) = ap (λ l. (codes "," ++ name_text names c) ++ l) (more_names cs)

  -- a tuple is printed as the list of its constants
  tuple_is : (tuple : List ℕ) → tuple_text names tuple ≡ terms_text names (map Constant tuple)
  tuple_is [] = refl
  tuple_is (c ∷ cs) = ap (λ l. (codes "(" ++ (name_text names c ++ l)) ++ codes ")") (more_names cs)

  constants_printed : (tuple : List ℕ) → All (λ c. c < length names) tuple → All (IsPrintedTerm names) (map Constant tuple)
  constants_printed tuple h = All-map (IsPrintedTerm names) Constant tuple (λ k d l. h k d l)

  constants_back : (tuple : List ℕ) → map number_in (map Constant tuple) ≡ tuple
  constants_back [] = refl
  constants_back (c ∷ cs) = ap (λ l. c ∷ l) (constants_back cs)

  tuple_apart : (t u : List ℕ) (x y : List ℕ) → All (λ c. c < length names) t → All (λ c. c < length names) u → tuple_text names t ++ x ≡ tuple_text names u ++ y → AreOne t u x y
  tuple_apart t u x y h k e =
      let whole : terms_text names (map Constant t) ++ x ≡ terms_text names (map Constant u) ++ y = ap (λ l. l ++ x) (sym (tuple_is t)) ∙ (e ∙ ap (λ l. l ++ y) (tuple_is u)) in
      let one = terms_apart names readable (map Constant t) (map Constant u) x y (constants_printed t h) (constants_printed u k) whole in
      record { front = sym (constants_back t) ∙ (ap (map number_in) one.front ∙ constants_back u); rest = one.rest }

  abbrev tuple_lines : List (List ℕ) → List ℕ
  tuple_lines tuples = lines_text (map (tuple_line names) tuples)

  pub tuple_is_line : (tuple : List ℕ) → IsLine (tuple_line names tuple)
  tuple_is_line tuple =
      let text : IsSingle (tuple_text names tuple) = subst IsSingle (sym (tuple_is tuple)) (single_terms names readable (map Constant tuple)) in
      record { inner = codes "% " ++ tuple_text names tuple; is = refl; single = (single_both (codes "% ") (tuple_text names tuple) (single_run is_told (codes "% ") refl refl) text).free }

  -- a tuple by its line
  tuple_told : (t u : List ℕ) → All (λ c. c < length names) t → All (λ c. c < length names) u → tuple_line names t ≡ tuple_line names u → t ≡ u
  tuple_told t u h k e =
      let whole =
      append_cancel_left (codes "% ") (tuple_text names t ++ line_feed) (tuple_text names u ++ line_feed)
      (sym (append_assoc (codes "% ") (tuple_text names t) line_feed) ∙ (e ∙ append_assoc (codes "% ") (tuple_text names u) line_feed)) in
      (tuple_apart t u line_feed line_feed h k whole).front

  tuples_apart : (one two : List (List ℕ)) (x y : List ℕ) → All (All (λ c. c < length names)) one → All (All (λ c. c < length names)) two → length one ≡ length two →
      tuple_lines one ++ x ≡ tuple_lines two ++ y → AreOne one two x y
  tuples_apart one two x y h k n e =
      let told = counted_elements (tuple_line names) (λ t. t) (All (λ c. c < length names)) (λ tuple h. tuple_is_line tuple) tuple_told one two x y h k n e in
      record { front = sym (map-id one) ∙ (told.front ∙ map-id two); rest = told.rest }

  answers_shape : (tuples : List (List ℕ)) (x : List ℕ) → lines_text (answer_lines names tuples) ++ x ≡ codes "% answers " ++ (decimal (length tuples) ++ 10 ∷ (tuple_lines tuples ++ x))
  answers_shape tuples x =
      append_assoc (answer_count_line (length tuples)) (tuple_lines tuples) x ∙
      (append_assoc (codes "% answers " ++ decimal (length tuples)) line_feed (tuple_lines tuples ++ x) ∙
      append_assoc (codes "% answers ") (decimal (length tuples)) (10 ∷ (tuple_lines tuples ++ x)))

  answers_apart : (one two : List (List ℕ)) (x y : List ℕ) → ArePrintableTuples names one → ArePrintableTuples names two →
      lines_text (answer_lines names one) ++ x ≡ lines_text (answer_lines names two) ++ y → AreOne one two x y
  answers_apart one two x y h k e =
      let counted =
      append_cancel_left (codes "% answers ") (decimal (length one) ++ 10 ∷ (tuple_lines one ++ x)) (decimal (length two) ++ 10 ∷ (tuple_lines two ++ y))
      (sym (answers_shape one x) ∙ (e ∙ answers_shape two y)) in
      let numbers = decimals_apart (length one) (length two) 10 10 (tuple_lines one ++ x) (tuple_lines two ++ y) h.few k.few refl refl counted in
      tuples_apart one two x y h.held k.held numbers.front (tails numbers.rest)

  -- a text with answers begins with the finished text
  pub answered_shape : (union : List Query) (tuples : List (List ℕ)) → answered_text names union tuples ≡ finished_text names union ++ lines_text (answer_lines names tuples)
  answered_shape union tuples = flat_map-append (λ line. line) (finished_lines names union) (answer_lines names tuples)

  pub answered_apart : (one two : List Query) (answers_one answers_two : List (List ℕ)) (x y : List ℕ) → ArePrintable names one → ArePrintable names two →
      ArePrintableTuples names answers_one → ArePrintableTuples names answers_two → answered_text names one answers_one ++ x ≡ answered_text names two answers_two ++ y →
      (map numbered_query one ≡ map numbered_query two) × (answers_one ≡ answers_two) × (x ≡ y)
  answered_apart one two answers_one answers_two x y h k i j e =
      let begins = beginning_apart one two (lines_text (answer_lines names answers_one) ++ x) (lines_text (answer_lines names answers_two) ++ y) h k
      (sym (shape one answers_one x) ∙ (e ∙ shape two answers_two y)) in
      let answers = answers_apart answers_one answers_two x y i j begins.rest in
      (begins.front, answers.front, answers.rest)
    where
      shape : (union : List Query) (tuples : List (List ℕ)) (z : List ℕ) → answered_text names union tuples ++ z ≡ finished_text names union ++ (lines_text (answer_lines names tuples) ++ z)
      shape union tuples z = ap (λ l. l ++ z) (answered_shape union tuples) ∙ append_assoc (finished_text names union) (lines_text (answer_lines names tuples)) z

  pub answered_tells : (one two : List Query) (answers_one answers_two : List (List ℕ)) → ArePrintable names one → ArePrintable names two → ArePrintableTuples names answers_one →
      ArePrintableTuples names answers_two → answered_text names one answers_one ≡ answered_text names two answers_two →
      (map numbered_query one ≡ map numbered_query two) × (answers_one ≡ answers_two)
  answered_tells one two answers_one answers_two h k i j e =
      let tells = answered_apart one two answers_one answers_two [] [] h k i j (ap (λ l. l ++ []) e) in
      (tells.0, tells.1)
