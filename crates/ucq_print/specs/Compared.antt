-- The lines that compare queries under rules, and rules with each other.
use Rattle.std.specs.Prelude.{ℕ, List, ◌++◌, codes, decimal}
use Rattle.ucq_terms.specs.Syntax.{Query}
use Rattle.ucq_print.specs.Texts.{line_feed, query_line}
use Rattle.ucq_print.specs.declared.compared.Told.{Told}
use Rattle.ucq_print.specs.declared.compared.Told.TheVariants as told
use Rattle.ucq_print.specs.declared.compared.Judged.{Judged}
use Rattle.ucq_print.specs.declared.compared.Judged.TheVariants as judged

abbrev pub told_text : Told → List ℕ
told_text told.Yes = codes "yes"
told_text told.No = codes "no"
told_text told.Open = codes "open"

-- whether the query of the first number is contained in that of the second
abbrev pub within_line : ℕ → ℕ → Told → List ℕ
within_line query of answer = codes "% within " ++ decimal query ++ codes " " ++ decimal of ++ codes " " ++ told_text answer ++ line_feed

-- the query without needless atoms
abbrev pub minimal_line : List (List ℕ) → Query → List ℕ
minimal_line names query = codes "% minimal " ++ query_line names query

abbrev pub judged_text : Judged → List ℕ
judged_text judged.Follows = codes "follows"
judged_text judged.Needed = codes "needed"
judged_text judged.Open = codes "open"
judged_text judged.Skipped = codes "skipped"

-- whether the other rules imply that of the number
abbrev pub rule_line : ℕ → Judged → List ℕ
rule_line number answer = codes "% rule " ++ decimal number ++ codes " " ++ judged_text answer ++ line_feed
