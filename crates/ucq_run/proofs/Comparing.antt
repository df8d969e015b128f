-- What a store tells of the queries, and the lines that say it.
use Rattle.std.proofs.Common.{◌≡◌, ◌≢◌, ◌∙◌, ◌⊎◌, ℕ, zero, suc, ◌<◌, ◌≤◌, ◌+◌, ◌++◌, Bool, List, [], ◌∷◌, true, false, not, nat_eq, filter, get_or, length, length-take, take, refl, sym, ap, subst, arith}
use Rattle.std.proofs.lemmas.Bool.Decides.{nat_tests}
use Rattle.std.proofs.lemmas.List.{append-nil, get_or_default, take_more}
use Rattle.std.proofs.lemmas.List.Elements.{Contains-get_or, filter-append}
use Rattle.std.specs.List.{enumerate_from}
use Rattle.std.specs.Global.{Vec}
use Rattle.std.specs.Option.{is_some}
use Rattle.std.specs.Prelude.{Some, Result, Ok, Err, IfOk, slice_get}
use Rattle.ucq_terms.specs.Syntax.{Atom, Query}
use Rattle.ucq_terms.specs.Homomorphism.{Covers}
use Rattle.ucq_terms.proofs.Lists.{Any-from_contains, first_element}
use Rattle.ucq_antichain.specs.declared.Row.{Row}
use Rattle.ucq_antichain.specs.Rows.{no_row, row_at}
use Rattle.ucq_store.specs.Store.{Store, IsCut, IsFinished}
use Rattle.ucq_store.specs.Laws.{CutListing, EnoughBudget}
use Rattle.ucq_eval.specs.Laws.{AnswersAreChaseAnswers}
use Rattle.ucq_reader.specs.declared.input.Asked.{Asked}
use Rattle.ucq_print.specs.declared.compared.Told.{Told}
use Rattle.ucq_print.specs.Compared.{minimal_line, within_line}
use Rattle.ucq_print.specs.Texts.{cut_lines, lines_text}
use Rattle.ucq_within.specs.declared.Within.{Within}
use Rattle.ucq_within.specs.declared.Within.TheVariants.{Yes, No, Open}
use Rattle.ucq_within.specs.Containment.{IsFirstCovering, NoRowCovers, TellsWithin}
use Rattle.ucq_within.specs.Minimal.{IsMinimised}
use Rattle.ucq_within.proofs.Spared.{left_is_part}
use Rattle.ucq_run.specs.declared.compared.Compared.{Compared}
use Rattle.ucq_run.specs.declared.compared.Comparison.{Comparison}
use Rattle.ucq_run.specs.declared.request.Shared.{Shared}
use Rattle.ucq_run.specs.declared.solving.Solved.{Solved}
use Rattle.ucq_run.specs.inner.Comparing.{IsComparedBy, TellsBy, told_of}
use Rattle.ucq_run.specs.inner.Request.{AsksAbout, question_in}
use Rattle.ucq_run.specs.inner.Solved.{solved_text}
use Rattle.ucq_run.specs.Finished.{Question}
use Rattle.ucq_run.specs.Compared.{AreComparedLines, AreComparisons, IsComparedText, IsMinimalOf, NoneCovers, SomeCovers, TellsCut, TellsFinished, compared_lines, others}
use Rattle.ucq_run.specs.Cuts.{rows_of}
use Rattle.ucq_run.proofs.Printing.{IsToPrint, cut_is_told, finished_is_told, is_finished_of}

-- ---- rows

-- a row covers the query, or none does
some_covers : (s : Store) (q : Query) (row : ℕ) → IsFirstCovering s q row → SomeCovers s.rows q
some_covers s q row first =
    Any-from_contains (λ (r : Row). Covers r.query q) s.rows (row_at s.rows row) (Contains-get_or s.rows row no_row first.row_of) first.covers

pub none_covers : (s : Store) (q : Query) → NoRowCovers s q → NoneCovers s.rows q
none_covers s q none = λ row d l c. none row l (subst (λ (r : Row). Covers r.query q) (sym (get_or_default s.rows row no_row d l)) c)

-- ---- what is told

-- a finished store isn't cut
not_both : (s : Store) → IsFinished s → ¬ IsCut s
not_both s finished cut = let bad : false ≡ true = sym (ap is_some finished.uncut) ∙ cut in cc

-- what it tells is told of a finished section, and of a cut one
finished_tells : (s : Store) (q : Query) (w : Within) → IsFinished s → TellsWithin s q w → TellsFinished s.problem q (told_of w)
finished_tells s q (Yes row) finished tells = tells.1
finished_tells s q No finished tells = tells.2
finished_tells s q Open finished tells = not_both s finished tells.0

cut_tells : (s : Store) (q : Query) (w : Within) → IsCut s → TellsWithin s q w → TellsCut s.rows s.problem q (told_of w)
cut_tells s q (Yes row) cut tells = (some_covers s q row tells.0, tells.1)
cut_tells s q No cut tells = not_both s tells.0 cut
cut_tells s q Open cut tells = none_covers s q tells.1

-- what is told, of each query in its place
more_told : (Tells More : Query → Told → Type 0) → ((q : Query) (told : Told) → Tells q told → More q told) → (asked : List (ℕ × Asked)) (all : List Comparison) →
    AreComparisons Tells asked all → AreComparisons More asked all
more_told Tells More more [] [] are = tt
more_told Tells More more [] (c ∷ all) are = absurd are
more_told Tells More more (o ∷ asked) [] are = absurd are
more_told Tells More more (o ∷ asked) (c ∷ all) are = ((are.0.0, more o.1.query c.told are.0.1), more_told Tells More more asked all are.1)

-- ---- the other queries, up to a place

-- one comparison more
told_more : (Tells : Query → Told → Type 0) (asked : List (ℕ × Asked)) (all : List Comparison) (o : ℕ × Asked) (c : Comparison) → AreComparisons Tells asked all → c.query ≡ o.0 → Tells o.1.query c.told →
    AreComparisons Tells (asked ++ o ∷ []) (all ++ c ∷ [])
told_more Tells [] [] o c are is tells = ((is, tells), tt)
told_more Tells [] (d ∷ all) o c are is tells = absurd are
told_more Tells (a ∷ asked) [] o c are is tells = absurd are
told_more Tells (a ∷ asked) (d ∷ all) o c are is tells = (are.0, told_more Tells asked all o c are.1 is tells)

-- with their numbers, one query more
numbered_more : (n : ℕ) (xs : List Asked) (x : Asked) → enumerate_from n (xs ++ x ∷ []) ≡ enumerate_from n xs ++ (n + length xs, x) ∷ []
numbered_more n [] x = ap (λ (k : ℕ). (k, x) ∷ []) (omega arith)
numbered_more n (y ∷ ys) x =
    ap (λ (rest : List (ℕ × Asked)). (n, y) ∷ rest)
    (numbered_more (n + 1) ys x ∙ ap (λ (k : ℕ). enumerate_from (n + 1) ys ++ (k, x) ∷ []) (omega arith))

-- those up to the next place
others_more : (number place : ℕ) (queries : List Asked) (one : Asked) → place < length queries →
    others number (take (place + 1) queries) ≡ others number (take place queries) ++ filter (λ (o : ℕ × Asked). not (nat_eq o.0 number)) ((place, get_or queries place one) ∷ [])
others_more number place queries one inside =
    let is_other : ℕ × Asked → Bool = λ (o : ℕ × Asked). not (nat_eq o.0 number) in
    let size : 0 + length (take place queries) ≡ place = omega (arith, length-take place queries) in
    ap (others number) (take_more queries place one inside)
    ∙ ap (filter is_other) (numbered_more 0 (take place queries) (get_or queries place one))
    ∙ ap (λ (k : ℕ). filter is_other (enumerate_from 0 (take place queries) ++ (k, get_or queries place one) ∷ [])) size
    ∙ filter-append is_other (enumerate_from 0 (take place queries)) ((place, get_or queries place one) ∷ [])

-- which is another one
pub place_told : (Tells : Query → Told → Type 0) (number place : ℕ) (queries : List Asked) (one : Asked) (all : List Comparison) (c : Comparison) → place < length queries → place ≢ number →
    AreComparisons Tells (others number (take place queries)) all → c.query ≡ place → Tells (get_or queries place one).query c.told →
    AreComparisons Tells (others number (take (place + 1) queries)) (all ++ c ∷ [])
place_told Tells number place queries one all c inside differs are is tells =
    let test : nat_eq place number ≡ false = grind (arith, nat_tests) in
    rw (others_more number place queries one inside) (rw test (told_more Tells (others number (take place queries)) all (place, get_or queries place one) c are is tells))

-- or that of the number
pub place_passed : (Tells : Query → Told → Type 0) (number place : ℕ) (queries : List Asked) (all : List Comparison) → place < length queries → place ≡ number →
    AreComparisons Tells (others number (take place queries)) all → AreComparisons Tells (others number (take (place + 1) queries)) all
place_passed Tells number place queries all inside same are =
    let test : nat_eq place number ≡ true = grind (arith, nat_tests) in
    let (one, _) = first_element queries (omega arith) in
    rw (others_more number place queries one inside) (rw test (rw append-nil are))

-- ---- the minimal query

-- the query without needless atoms is minimal where the store isn't cut
minimal_of : (s : Store) (cut : Bool) (q : Query) → IsFinished s ⊎ IsCut s → is_some s.cut ≡ cut → IsMinimised s q → IsMinimalOf s.problem cut q
minimal_of s cut q ended is minimised =
    let (answers, atoms) = left_is_part s _ s.problem.query q minimised.leaves in
    record {
      answers = answers;
      atoms = atoms;
      equal = minimised.equal;
      minimal = λ uncut. minimised.minimal (is_finished_of s ended (is ∙ uncut));
    }

-- ---- the lines

-- each comparison has its line, and behind them comes that of the minimal query
pub comparison_line : (names : List (List ℕ)) (number : ℕ) (all : List Comparison) (minimal : Query) (place : ℕ) (c : Comparison) → place < length all → c ≡ get_or all place c →
    slice_get (compared_lines names number all minimal) place ≡ Some (within_line c.query number c.told)
comparison_line names number [] minimal place c inside is = absurd (omega (arith, inside))
comparison_line names number (d ∷ all) minimal zero c inside is = ap (λ (e : Comparison). Some (within_line e.query number e.told)) (sym is)
comparison_line names number (d ∷ all) minimal (suc place) c inside is = comparison_line names number all minimal place c (omega (arith, inside)) is

pub last_line : (names : List (List ℕ)) (number : ℕ) (all : List Comparison) (minimal : Query) (place : ℕ) → length all ≤ place → place < length (compared_lines names number all minimal) →
    slice_get (compared_lines names number all minimal) place ≡ Some (minimal_line names minimal)
last_line names number [] minimal zero past inside = refl
last_line names number [] minimal (suc place) past inside = absurd (omega (arith, inside))
last_line names number (d ∷ all) minimal zero past inside = absurd (omega (arith, past))
last_line names number (d ∷ all) minimal (suc place) past inside = last_line names number all minimal place (omega (arith, past)) (omega (arith, inside))

-- a line that was made stands at its place
pub line_stands : {E : Type 0} (lines : List (List ℕ)) (place : ℕ) (text : List ℕ) (made : Result (Vec ℕ) E) → slice_get lines place ≡ Some text → IfOk made (λ line. line.items ≡ text) →
    IfOk made (λ line. slice_get lines place ≡ Some line.items)
line_stands lines place text (Ok line) here is = here ∙ ap (λ (l : List ℕ). Some l) (sym is)
line_stands lines place text (Err e) here is = tt

-- the lines, by what the store tells of each query
lines_told : (Tells : Query → Told → Type 0) (a : Shared) (s : Store) (facts : List Atom) (number : ℕ) (queries : List Asked) (c : Compared) (cut : Bool) →
    ((q : Query) (w : Within) → TellsWithin s q w → Tells q (told_of w)) → IsFinished s ⊎ IsCut s → is_some s.cut ≡ cut → IsComparedBy s number queries c →
    AreComparedLines Tells (question_in a s.problem facts) number queries cut (lines_text (compared_lines a.names number c.told.items c.minimal))
lines_told Tells a s facts number queries c cut tells ended is by = record {
  comparisons = c.told.items;
  are =
      more_told (TellsBy s) Tells (λ q told h. subst (λ (t : Told). Tells q t) (sym h.2) (tells q h.0 h.1)) (others number queries) c.told.items by.told;
  query = c.minimal;
  minimal = minimal_of s cut c.minimal ended is by.minimal;
  printed = refl;
}

-- the text of what was solved, and that of the lines behind it
pub compared_is_told : AnswersAreChaseAnswers → CutListing → EnoughBudget → (a : Shared) (s : Solved) (facts : List Atom) (number : ℕ) (queries : List Asked) (c : Compared) (cut : Bool) →
    IsToPrint a s → AsksAbout a facts → is_some s.store.cut ≡ cut → IsComparedBy s.store number queries c →
    IsComparedText (question_in a s.store.problem facts) number queries cut (solved_text a s) (lines_text (compared_lines a.names number c.told.items c.minimal))
compared_is_told law listing enough a s facts number queries c true p about is by =
    let q : Question = question_in a s.store.problem facts in
    let text : List ℕ = lines_text (cut_lines a.names s.store) in
    let (says, rows) = cut_is_told listing enough q s.store refl p.solved.budget p.lawful p.held is in
    let tells : (asked : Query) (w : Within) → TellsWithin s.store asked w → TellsCut (rows_of q.names q.problem q.budget text says.cut) q.problem asked (told_of w) =
    λ asked w told. subst (λ (listed : List Row). TellsCut listed q.problem asked (told_of w)) (sym rows) (cut_tells s.store asked w is told) in
    rw is (says, lines_told (TellsCut (rows_of q.names q.problem q.budget text says.cut) q.problem) a s.store facts number queries c true tells p.solved.ended is by)
compared_is_told law listing enough a s facts number queries c false p about is by =
    let finished = is_finished_of s.store p.solved.ended is in
    rw is (
      finished_is_told law a s facts p about finished,
      lines_told (TellsFinished s.store.problem) a s.store facts number queries c false (λ asked w told. finished_tells s.store asked w finished told) p.solved.ended is by,
    )
