-- What a run with containment says of its queries and its rules.
use Rattle.std.specs.Prelude.{◌≡◌, ◌<◌, ◌≤◌, ℕ, Bool, true, false, not, nat_eq, List, [], ◌∷◌, ◌++◌, length, map, filter, All, Any}
use Rattle.std.specs.List.{AllZip, enumerate_from, remove}
use Rattle.ucq_terms.specs.Syntax.{Query, Rule, Problem, IsSubset}
use Rattle.ucq_terms.specs.Homomorphism.{Covers}
use Rattle.ucq_terms.specs.Rewriting.{rule_at}
use Rattle.ucq_antichain.specs.declared.Row.{Row}
use Rattle.ucq_reader.specs.declared.input.Asked.{Asked}
use Rattle.ucq_within.specs.Containment.{IsContained, AreEqualUnder}
use Rattle.ucq_within.specs.Minimal.{IsProperPart}
use Rattle.ucq_within.specs.Needless.{Follows, asked_of, frontier_of}
use Rattle.ucq_print.specs.declared.compared.Told.{Told}
use Rattle.ucq_print.specs.declared.compared.Told.TheVariants.{Yes, No, Open}
use Rattle.ucq_print.specs.declared.compared.Judged.{Judged}
use Rattle.ucq_print.specs.declared.compared.Judged.TheVariants as judged
use Rattle.ucq_print.specs.Texts.{lines_text}
use Rattle.ucq_print.specs.Compared.{within_line, minimal_line, rule_line}
use Rattle.ucq_run.specs.declared.compared.Comparison.{Comparison}
use Rattle.ucq_run.specs.declared.form.Form.TheVariants.{Queries}
use Rattle.ucq_run.specs.Finished.{Question, IsFinishedText}
use Rattle.ucq_run.specs.Cuts.{IsCutTextOf, rows_of}

-- ---- queries

-- the queries but that of the number, each with its own
abbrev pub others : ℕ → List Asked → List (ℕ × Asked)
others number queries = filter (λ (o : ℕ × Asked). not (nat_eq o.0 number)) (enumerate_from 0 queries)

-- no row covers the query; some row does
abbrev pub NoneCovers : List Row → Query → Type 0
NoneCovers rows q = All (λ (row : Row). ¬ Covers row.query q) rows

abbrev pub SomeCovers : List Row → Query → Type 0
SomeCovers rows q = Any (λ (row : Row). Covers row.query q) rows

-- what a finished section tells of a query: whether it is contained in the section's
abbrev pub TellsFinished : Problem → Query → Told → Type 0
TellsFinished p q Yes = IsContained p.rules q p.query
TellsFinished p q No = ¬ IsContained p.rules q p.query
TellsFinished p q Open = ⊥

-- what a cut one tells: that it is, where a row covers it, and nothing where none does
abbrev pub TellsCut : List Row → Problem → Query → Told → Type 0
TellsCut rows p q Yes = SomeCovers rows q × IsContained p.rules q p.query
TellsCut rows p q No = ⊥
TellsCut rows p q Open = NoneCovers rows q

-- one comparison for each of the other queries, in order, which tells so
abbrev pub AreComparisons : (Query → Told → Type 0) → List (ℕ × Asked) → List Comparison → Type 0
AreComparisons Tells asked comparisons = AllZip (λ (o : ℕ × Asked) (c : Comparison). (c.query ≡ o.0) × Tells o.1.query c.told) asked comparisons

-- Some of the atoms of the problem's query. Under the rules they have its answers, and where the section isn't cut no proper part has.
pub record IsMinimalOf (p : Problem) (cut : Bool) (q : Query) : Type 0 where
  pub answers : q.answers ≡ p.query.answers
  pub atoms : IsSubset q.atoms p.query.atoms
  pub equal : AreEqualUnder p.rules q p.query
  pub minimal : cut ≡ false → (part : Query) → IsProperPart q part → ¬ AreEqualUnder p.rules part p.query

-- a line for each comparison with the query of the number, and that of the minimal query
abbrev pub compared_lines : List (List ℕ) → ℕ → List Comparison → Query → List (List ℕ)
compared_lines names number comparisons minimal = map (λ (c : Comparison). within_line c.query number c.told) comparisons ++ minimal_line names minimal ∷ []

-- the lines behind the section of the query of the number, by what is told
pub record AreComparedLines (Tells : Query → Told → Type 0) (q : Question) (number : ℕ) (queries : List Asked) (cut : Bool) (text : List ℕ) : Type 0 where
  pub comparisons : List Comparison
  pub are : AreComparisons Tells (others number queries) comparisons
  pub query : Query
  pub minimal : IsMinimalOf q.problem cut query
  pub printed : text ≡ lines_text (compared_lines q.names number comparisons query)

-- the text of a section, finished or cut, and that of the lines behind it
abbrev pub IsComparedText : Question → ℕ → List Asked → Bool → List ℕ → List ℕ → Type 0
IsComparedText q number queries false text lines = IsFinishedText q text × AreComparedLines (TellsFinished q.problem) q number queries false lines
IsComparedText q number queries true text lines =
    (c : IsCutTextOf q text) × AreComparedLines (TellsCut (rows_of q.names q.problem q.budget text c.cut) q.problem) q number queries true lines

-- ---- rules

-- a rule by its number among these rules, whose names are these, at a budget
pub record RuleAsked : Type 0 where
  pub names : List (List ℕ)
  pub rules : List Rule
  pub number : ℕ
  pub budget : ℕ

abbrev pub rule_in : RuleAsked → Rule
rule_in r = rule_at r.rules r.number

abbrev pub others_in : RuleAsked → List Rule
others_in r = remove r.rules r.number

-- the rule's frontier is as small as a query's answer list
abbrev pub HasSmallFrontier : Rule → Type 0
HasSmallFrontier rule = length (frontier_of rule) ≤ 16

-- the query of the rule's head, under the others
abbrev pub head_question : RuleAsked → Question
head_question r = record {
  form = Queries;
  names = r.names;
  problem = record { rules = others_in r; query = asked_of (rule_in r) (rule_in r).heads };
  facts = [];
  budget = r.budget;
}

-- what is judged where nothing is cut: whether the rule follows from the others, or that its frontier is too wide to ask
abbrev pub IsJudged : RuleAsked → Judged → Type 0
IsJudged r judged.Follows = HasSmallFrontier (rule_in r) × Follows (rule_in r) (others_in r)
IsJudged r judged.Needed = HasSmallFrontier (rule_in r) × ¬ Follows (rule_in r) (others_in r)
IsJudged r judged.Open = ⊥
IsJudged r judged.Skipped = 16 < length (frontier_of (rule_in r))

-- the line of what is judged
pub record IsJudgedLine (r : RuleAsked) (text : List ℕ) : Type 0 where
  pub told : Judged
  pub judged : IsJudged r told
  pub printed : text ≡ rule_line r.number told

-- the line that tells nothing, and the text of the cut of the head's query, no row of which covers the body's
pub record IsOpenText (r : RuleAsked) (text : List ℕ) : Type 0 where
  pub small : HasSmallFrontier (rule_in r)
  pub cut_text : List ℕ
  pub cut : IsCutTextOf (head_question r) cut_text
  pub none : NoneCovers (rows_of r.names (head_question r).problem r.budget cut_text cut.cut) (asked_of (rule_in r) (rule_in r).body)
  pub printed : text ≡ rule_line r.number judged.Open ++ cut_text

abbrev pub IsJudgedText : RuleAsked → Bool → List ℕ → Type 0
IsJudgedText r false text = IsJudgedLine r text
IsJudgedText r true text = IsOpenText r text
