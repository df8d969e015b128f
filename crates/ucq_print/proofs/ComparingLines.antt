-- The lines that compare queries and rules stand apart from headers and from answers.
use Rattle.std.proofs.Common.{◌≢◌, ℕ, List, ◌∷◌, ◌++◌, drop, refl, sym, append_assoc, arith}
use Rattle.std.specs.Prelude.{codes, decimal}
use Rattle.std.proofs.lemmas.List.{append_cancel_left}
use Rattle.ucq_terms.specs.Syntax.{Query}
use Rattle.ucq_print.specs.declared.compared.Judged.{Judged}
use Rattle.ucq_print.specs.declared.compared.Judged.TheVariants as judged
use Rattle.ucq_print.specs.declared.compared.Told.{Told}
use Rattle.ucq_print.specs.declared.compared.Told.TheVariants as told
use Rattle.ucq_print.specs.Compared.{judged_text, minimal_line, rule_line, told_text, within_line}
use Rattle.ucq_print.specs.Texts.{answer_lines, line_feed, lines_text, query_text}
use Rattle.ucq_print.specs.Laws.{AreReadableNames, IsLine, StandsApart}
use Rattle.ucq_print.proofs.Spelled.{heads_differ}
use Rattle.ucq_print.proofs.LineFeeds.{IsSingle, is_told, single_both, single_number, single_run}
use Rattle.ucq_print.proofs.Unions.{query_is_single}
use Rattle.ucq_print.proofs.Headers.{no_header_remark}

-- a remark that goes on otherwise than a header and the lines of answers
remark_apart : (d : ℕ) (after : List ℕ) → d ≢ 113 → d ≢ 97 → IsLine (codes "% " ++ d ∷ after) → StandsApart (codes "% " ++ d ∷ after)
remark_apart d after query answers is = record {
  is = is;
  none = no_header_remark d after query;
  apart = λ rest other names tuples e.
      heads_differ d 97 (after ++ rest) (drop 3 (lines_text (answer_lines names tuples) ++ other)) answers
      (append_cancel_left (codes "% ") (d ∷ (after ++ rest)) (drop 2 (lines_text (answer_lines names tuples) ++ other)) e);
}

single_told : (answer : Told) → IsSingle (told_text answer)
single_told told.Yes = single_run is_told (codes "yes") refl refl
single_told told.No = single_run is_told (codes "no") refl refl
single_told told.Open = single_run is_told (codes "open") refl refl

single_judged : (answer : Judged) → IsSingle (judged_text answer)
single_judged judged.Follows = single_run is_told (codes "follows") refl refl
single_judged judged.Needed = single_run is_told (codes "needed") refl refl
single_judged judged.Open = single_run is_told (codes "open") refl refl
single_judged judged.Skipped = single_run is_told (codes "skipped") refl refl

-- a number, and then a space
spaced : (before : List ℕ) (n : ℕ) → IsSingle before → IsSingle (before ++ decimal n ++ codes " ")
spaced before n h = single_both (before ++ decimal n) (codes " ") (single_both before (decimal n) h (single_number n)) (single_run is_told (codes " ") refl refl)

pub within_stands_apart : (query of : ℕ) (answer : Told) → StandsApart (within_line query of answer)
within_stands_apart query of answer =
    let numbers : IsSingle ((codes "% within " ++ decimal query ++ codes " ") ++ decimal of ++ codes " ") =
    spaced (codes "% within " ++ decimal query ++ codes " ") of (spaced (codes "% within ") query (single_run is_told (codes "% within ") refl refl)) in
    remark_apart 119 (drop 3 (within_line query of answer)) (λ f. omega arith) (λ f. omega arith)
    (record {
      inner = codes "% within " ++ decimal query ++ codes " " ++ decimal of ++ codes " " ++ told_text answer;
      is = refl;
      single = (single_both (codes "% within " ++ decimal query ++ codes " " ++ decimal of ++ codes " ") (told_text answer) numbers (single_told answer)).free;
    })

pub minimal_stands_apart : (names : List (List ℕ)) → AreReadableNames names → (q : Query) → StandsApart (minimal_line names q)
minimal_stands_apart names readable q =
    remark_apart 109 (drop 3 (minimal_line names q)) (λ f. omega arith) (λ f. omega arith)
    (record {
      inner = codes "% minimal " ++ query_text names q;
      is = sym (append_assoc (codes "% minimal ") (query_text names q) line_feed);
      single = (single_both (codes "% minimal ") (query_text names q) (single_run is_told (codes "% minimal ") refl refl) (query_is_single names readable q)).free;
    })

pub rule_stands_apart : (number : ℕ) (answer : Judged) → StandsApart (rule_line number answer)
rule_stands_apart number answer =
    remark_apart 114 (drop 3 (rule_line number answer)) (λ f. omega arith) (λ f. omega arith)
    (record {
      inner = codes "% rule " ++ decimal number ++ codes " " ++ judged_text answer;
      is = refl;
      single = (single_both (codes "% rule " ++ decimal number ++ codes " ") (judged_text answer)
          (spaced (codes "% rule ") number (single_run is_told (codes "% rule ") refl refl)) (single_judged answer)).free;
    })
