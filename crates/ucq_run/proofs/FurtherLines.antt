-- The lines of sections, and those that may stand behind them: comparisons, and what is said of rules.
use Rattle.std.proofs.Common.{◌≡◌, ◌≢◌, ◌∙◌, ℕ, suc, ◌+◌, ◌<◌, ◌≤◌, ◌^◌, Bool, true, false, List, [], ◌∷◌, ◌++◌, length, map, get_or, take, drop, All, inl, inr, refl, sym, ap, ap₂, append_assoc, length-append, length-take, length-drop, arith}
use Rattle.std.proofs.lemmas.List.{append-nil}
use Rattle.std.proofs.lemmas.List.Concat.{flat_map-append}
use Rattle.std.proofs.lemmas.List.Elements.{All-append, All-cons, All-map, All-nil}
use Rattle.std.specs.List.{enumerate_from, flat_map, remove}
use Rattle.ucq_terms.specs.Syntax.{Problem, Query, Rule}
use Rattle.ucq_reader.specs.declared.input.Asked.{Asked}
use Rattle.ucq_print.specs.Laws.{AreReadableNames, AreSectionLines, BeginsASection, ComparingLinesStandApart, Headed, headed_lines, HeadersAreNoAnswers, IsLine, StandsApart, TextsAreSections}
use Rattle.ucq_print.specs.Texts.{answer_lines, lines_text, rows_cut_lines, wide_cut_lines}
use Rattle.ucq_print.specs.Compared.{minimal_line, rule_line, within_line}
use Rattle.ucq_print.specs.declared.compared.Judged.TheVariants as judged
use Rattle.ucq_print.specs.declared.compared.Told.{Told}
use Rattle.ucq_run.specs.declared.compared.Comparison.{Comparison}
use Rattle.ucq_run.specs.Compared.{AreComparedLines, IsComparedText, IsJudgedText, RuleAsked, TellsCut, TellsFinished, compared_lines, head_question, others_in}
use Rattle.ucq_run.specs.Cuts.{IsCutText, rows_of}
use Rattle.ucq_run.specs.Finished.{Question}
use Rattle.ucq_run.specs.Parts.{section, compared, PartText, IsSectionText, IsTextOf, AreTextsOf, join, judged_of}

-- a list without one of its elements
length-fewer : {A : Type 0} (xs : List A) (i : ℕ) → length (remove xs i) ≤ length xs
length-fewer xs i = omega (arith, length-append (take i xs) (drop (suc i) xs), length-take i xs, length-drop (suc i) xs)

-- ---- lines

-- the text of a section about files is one of lines, none of which begins as a header does
pub record HasLines (text : List ℕ) : Type 0 where
  pub lines : List (List ℕ)
  pub are : AreSectionLines lines
  pub is : text ≡ lines_text lines

pub both_lines : (xs ys : List (List ℕ)) → AreSectionLines xs → AreSectionLines ys → AreSectionLines (xs ++ ys)
both_lines xs ys h k = record {
  lines = All-append IsLine xs ys h.lines k.lines;
  none = All-append (λ (line : List ℕ). ¬ BeginsASection line) xs ys h.none k.none;
}

-- the text begins with no lines of answers
abbrev pub BeginsNoAnswers : List ℕ → Type 0
BeginsNoAnswers text = (names tuples : List (List ℕ)) (rest : List ℕ) → text ≢ lines_text (answer_lines names tuples) ++ rest

-- so where the first line, if there is one, begins none whatever follows
abbrev pub BeginApart : List (List ℕ) → Type 0
BeginApart [] = Unit {0}
BeginApart (line ∷ lines) = (rest : List ℕ) → BeginsNoAnswers (line ++ rest)

pub no_answers : (lines : List (List ℕ)) → BeginApart lines → BeginsNoAnswers (lines_text lines)
no_answers [] h names tuples rest = λ e. cc
no_answers (line ∷ lines) h names tuples rest = h (lines_text lines) names tuples rest

pub both_apart : (xs ys : List (List ℕ)) → BeginApart xs → BeginApart ys → BeginApart (xs ++ ys)
both_apart [] ys h k = k
both_apart (x ∷ xs) ys h k = h

pub headers_apart : HeadersAreNoAnswers → (ss : List Headed) → BeginApart (flat_map headed_lines ss)
headers_apart apart [] = tt
headers_apart apart (s ∷ ss) = λ rest names tuples other. apart s.number s.label rest other names tuples

-- lines that may stand behind a section's own
pub record AreFurther (lines : List (List ℕ)) : Type 0 where
  pub are : AreSectionLines lines
  pub apart : BeginApart lines

pub record HasFurther (text : List ℕ) : Type 0 where
  pub lines : List (List ℕ)
  pub further : AreFurther lines
  pub is : text ≡ lines_text lines

pub nothing_further : AreFurther []
nothing_further = record { are = record { lines = All-nil IsLine; none = All-nil (λ (line : List ℕ). ¬ BeginsASection line) }; apart = tt }

pub both_further : (xs ys : List (List ℕ)) → AreFurther xs → AreFurther ys → AreFurther (xs ++ ys)
both_further xs ys h k = record { are = both_lines xs ys h.are k.are; apart = both_apart xs ys h.apart k.apart }

line_further : (line : List ℕ) (lines : List (List ℕ)) → StandsApart line → AreSectionLines lines → AreFurther (line ∷ lines)
line_further line lines h k = record {
  are = record {
    lines = All-cons IsLine line lines h.is k.lines;
    none = All-cons (λ (l : List ℕ). ¬ BeginsASection l) line lines h.none k.none;
  };
  apart = λ rest names tuples other. h.apart rest other names tuples;
}

lines_further : (lines : List (List ℕ)) → All StandsApart lines → AreFurther lines
lines_further [] h = nothing_further
lines_further (line ∷ lines) h =
    line_further line lines (h 0 line (omega arith)) (lines_further lines (λ k d l. h (suc k) d (omega (arith, l)))).are

-- a section's text, and further lines
behind_own : (own : List ℕ) (lines further more : List (List ℕ)) → own ≡ lines_text lines → (own ++ lines_text further) ++ lines_text more ≡ lines_text (lines ++ (further ++ more))
behind_own own lines further more is =
    append_assoc own (lines_text further) (lines_text more) ∙
    (ap₂ (λ (x y : List ℕ). x ++ y) is (sym (flat_map-append (λ (l : List ℕ). l) further more)) ∙ sym (flat_map-append (λ (l : List ℕ). l) lines (further ++ more)))

pub behind_header_text : (text header line own : List ℕ) (lines further more : List (List ℕ)) → text ≡ header ++ (own ++ lines_text further) → header ≡ line → own ≡ lines_text lines →
    text ++ lines_text more ≡ lines_text (line ∷ (lines ++ (further ++ more)))
behind_header_text text header line own lines further more is e own_is =
    ap (λ (l : List ℕ). l ++ lines_text more) is ∙
    (append_assoc header (own ++ lines_text further) (lines_text more) ∙ ap₂ (λ (x y : List ℕ). x ++ y) e (behind_own own lines further more own_is))

-- ---- texts of parts

-- the text of a section: behind its header its own text, and further lines
pub record IsOwnText (header : List ℕ) (q : Question) (t : PartText) : Type 0 where
  pub own : List ℕ
  pub section : IsSectionText q t.cut own
  pub further : List (List ℕ)
  pub are : AreFurther further
  pub is : t.text ≡ header ++ (own ++ lines_text further)

pub own_of_section : (header : List ℕ) (q : Question) (t : PartText) → IsTextOf (section header q) t → IsOwnText header q t
own_of_section header q t (text, is, joined) = record {
  own = text;
  section = is;
  further = [];
  are = nothing_further;
  is = joined ∙ ap (λ (l : List ℕ). header ++ l) (sym (append-nil text));
}

pub cut_has_lines : TextsAreSections → (names : List (List ℕ)) (problem : Problem) (budget : ℕ) (text : List ℕ) → AreReadableNames names → budget ≤ 65536 → length problem.rules ≤ 4096 →
    IsCutText names problem budget text → HasLines text
cut_has_lines sections names problem budget text readable small few (inl c) = record {
  lines = rows_cut_lines names budget c.rows c.left;
  are = (sections names readable).2 budget c.rows c.left (omega (arith, small)) c.printable c.printable_left;
  is = c.printed;
}
cut_has_lines sections names problem budget text readable small few (inr c) =
    let row : c.row < 2 ^ 64 = let inside = c.wide.row_of in let within = c.within in omega (arith, small, inside, within) in
    let rule : c.rule < 2 ^ 64 = let inside = c.rule_of in omega (arith, few, inside) in
    record {
      lines = wide_cut_lines names c.row c.rule c.rows;
      are = (sections names readable).3 c.row c.rule c.rows row rule c.printable;
      is = c.printed;
    }

module _ (comparing : ComparingLinesStandApart) where
  comparisons_further : (Tells : Query → Told → Type 0) (q : Question) (number : ℕ) (queries : List Asked) (cut : Bool) (text : List ℕ) → AreReadableNames q.names →
      AreComparedLines Tells q number queries cut text → HasFurther text
  comparisons_further Tells q number queries cut text readable c =
      let line : Comparison → List ℕ = λ (c : Comparison). within_line c.query number c.told in
      let last : List ℕ = minimal_line q.names c.query in
      record {
        lines = compared_lines q.names number c.comparisons c.query;
        further = lines_further (compared_lines q.names number c.comparisons c.query)
            (All-append StandsApart (map line c.comparisons) (last ∷ [])
            (All-map StandsApart line c.comparisons (λ k d l. comparing.0 (get_or c.comparisons k d).query number (get_or c.comparisons k d).told))
            (All-cons StandsApart last [] (comparing.1 q.names c.query readable) (All-nil StandsApart)));
        is = c.printed;
      }

  compared_further : (q : Question) (number : ℕ) (queries : List Asked) (cut : Bool) (text lines : List ℕ) → AreReadableNames q.names → IsComparedText q number queries cut text lines →
      IsSectionText q cut text × HasFurther lines
  compared_further q number queries false text lines readable (is, c) = (is, comparisons_further (TellsFinished q.problem) q number queries false lines readable c)
  compared_further q number queries true text lines readable (is, c) =
      (is, comparisons_further (TellsCut (rows_of q.names q.problem q.budget text is.cut) q.problem) q number queries true lines readable c)

  pub own_of_compared : (header : List ℕ) (q : Question) (number : ℕ) (queries : List Asked) (t : PartText) → AreReadableNames q.names → IsTextOf (compared header q number queries) t →
      IsOwnText header q t
  own_of_compared header q number queries t readable (text, lines, is, joined) =
      let (own, more) = compared_further q number queries t.cut text lines readable is in
      record {
        own = text;
        section = own;
        further = more.lines;
        are = more.further;
        is = joined ∙ ap (λ (l : List ℕ). header ++ (text ++ l)) more.is;
      }

  judged_further : TextsAreSections → (r : RuleAsked) (cut : Bool) (text : List ℕ) → AreReadableNames r.names → r.budget ≤ 65536 → length r.rules ≤ 4096 → IsJudgedText r cut text →
      HasFurther text
  judged_further sections r false text readable small few j = record {
    lines = rule_line r.number j.told ∷ [];
    further = line_further (rule_line r.number j.told) [] (comparing.2 r.number j.told) nothing_further.are;
    is = j.printed ∙ sym (append-nil (rule_line r.number j.told));
  }
  judged_further sections r true text readable small few o =
      let fewer : length (others_in r) ≤ 4096 = omega (arith, few, length-fewer r.rules r.number) in
      let l : HasLines o.cut_text = cut_has_lines sections r.names (head_question r).problem r.budget o.cut_text readable small fewer o.cut.cut in
      record {
        lines = rule_line r.number judged.Open ∷ l.lines;
        further = line_further (rule_line r.number judged.Open) l.lines (comparing.2 r.number judged.Open) l.are;
        is = o.printed ∙ ap (λ (x : List ℕ). rule_line r.number judged.Open ++ x) l.is;
      }

  pub rules_further : TextsAreSections → (names : List (List ℕ)) (rules : List Rule) (budget n : ℕ) (rs : List Rule) (texts : List PartText) → AreReadableNames names → budget ≤ 65536 →
      length rules ≤ 4096 → AreTextsOf (map (judged_of names rules budget) (enumerate_from n rs)) texts → HasFurther (join texts)
  rules_further sections names rules budget n [] [] readable small few h = record { lines = []; further = nothing_further; is = refl }
  rules_further sections names rules budget n [] (t ∷ texts) readable small few h = absurd h
  rules_further sections names rules budget n (r ∷ rs) [] readable small few h = absurd h
  rules_further sections names rules budget n (r ∷ rs) (t ∷ texts) readable small few h =
      let first : HasFurther t.text =
      judged_further sections (record { names = names; rules = rules; number = n; budget = budget }) t.cut t.text readable small few h.0 in
      let rest : HasFurther (join texts) = rules_further sections names rules budget (n + 1) rs texts readable small few h.1 in
      record {
        lines = first.lines ++ rest.lines;
        further = both_further first.lines rest.lines first.further rest.further;
        is = ap₂ (λ (x y : List ℕ). x ++ y) first.is rest.is ∙ sym (flat_map-append (λ (l : List ℕ). l) first.lines rest.lines);
      }
