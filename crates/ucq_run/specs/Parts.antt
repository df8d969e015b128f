-- The parts of what a run prints, each with its text.
use Rattle.std.specs.Prelude.{◌≡◌, ℕ, Bool, true, false, List, [], ◌∷◌, ◌++◌, map, All, Any}
use Rattle.std.specs.List.{AllZip, enumerate_from, flat_map}
use Rattle.ucq_terms.specs.Syntax.{Query, Rule}
use Rattle.ucq_store.specs.Laws.{IsEnough}
use Rattle.ucq_reader.specs.declared.input.Asked.{Asked}
use Rattle.ucq_reader.specs.Input.{InputValue}
use Rattle.ucq_print.specs.Texts.{section_line}
use Rattle.ucq_words.specs.declared.values.Mode.{Mode}
use Rattle.ucq_words.specs.declared.values.Mode.TheVariants.{Plain, Within}
use Rattle.ucq_words.specs.Settings.{SettingsValue}
use Rattle.ucq_run.specs.Finished.{Question, question_of, IsFinishedText}
use Rattle.ucq_run.specs.Cuts.{IsCutTextOf}
use Rattle.ucq_run.specs.Compared.{RuleAsked, IsComparedText, IsJudgedText, HasSmallFrontier, rule_in, head_question}

-- A part: the section of a query, behind its header; such a section with the lines that compare the query of that number with the
-- others; or what is said of a rule.
pub data Part : Type 0 where
  section : List ℕ → Question → Part
  compared : List ℕ → Question → ℕ → List Asked → Part
  judged : RuleAsked → Part

-- the header of a query's section: nothing where it is the one query
abbrev pub header_of : List Asked → ℕ → Asked → List ℕ
header_of (one ∷ []) number asked = []
header_of queries number asked = section_line number asked.label

-- the section of a query with its number, among all queries
abbrev pub section_of : List Asked → (Query → Question) → ℕ × Asked → Part
section_of queries question q = section (header_of queries q.0 q.1) (question q.1.query)

-- the same, compared with the others
abbrev pub compared_of : List Asked → (Query → Question) → ℕ × Asked → Part
compared_of queries question q = compared (header_of queries q.0 q.1) (question q.1.query) q.0 queries

-- what is said of a rule with its number, among all rules
abbrev pub judged_of : List (List ℕ) → List Rule → ℕ → ℕ × Rule → Part
judged_of names rules budget r = judged (record { names = names; rules = rules; number = r.0; budget = budget })

-- the parts of queries and rules in a mode, in the order in which they are printed: a section for each query; with containment each
-- section is compared, and then comes what is said of each rule
abbrev pub parts_in : Mode → List Asked → List Rule → (Query → Question) → List (List ℕ) → ℕ → List Part
parts_in Plain queries rules question names budget = map (section_of queries question) (enumerate_from 0 queries)
parts_in Within queries rules question names budget = map (compared_of queries question) (enumerate_from 0 queries) ++ map (judged_of names rules budget) (enumerate_from 0 rules)

-- the parts of an input under its settings
abbrev pub parts_of : SettingsValue → InputValue → List Part
parts_of settings input = parts_in settings.mode input.queries input.rules (question_of settings input) input.names settings.budget

-- a text, and whether it is that of a cut
pub record PartText : Type 0 where
  pub text : List ℕ
  pub cut : Bool

-- the finished text of a section, or that of its cut
abbrev pub IsSectionText : Question → Bool → List ℕ → Type 0
IsSectionText q false text = IsFinishedText q text
IsSectionText q true text = IsCutTextOf q text

-- the part's text: its header, and then that; with the lines of what is compared; or what is said of the rule
abbrev pub IsTextOf : Part → PartText → Type 0
IsTextOf (section header q) written = (text : List ℕ) × IsSectionText q written.cut text × (written.text ≡ header ++ text)
IsTextOf (compared header q number queries) written = (text lines : List ℕ) × IsComparedText q number queries written.cut text lines × (written.text ≡ header ++ (text ++ lines))
IsTextOf (judged r) written = IsJudgedText r written.cut written.text

-- one text for each part, in their order
abbrev pub AreTextsOf : List Part → List PartText → Type 0
AreTextsOf parts texts = AllZip IsTextOf parts texts

-- the texts one after another
abbrev pub join : List PartText → List ℕ
join texts = flat_map (λ (t : PartText). t.text) texts

abbrev pub NoneIsCut : List PartText → Type 0
NoneIsCut texts = All (λ (t : PartText). t.cut ≡ false) texts

abbrev pub SomeIsCut : List PartText → Type 0
SomeIsCut texts = Any (λ (t : PartText). t.cut ≡ true) texts

-- the budget is enough for the part: for the problem that is solved, where one is
abbrev pub HasEnoughFor : Part → Type 0
HasEnoughFor (section header q) = IsEnough q.problem q.budget
HasEnoughFor (compared header q number queries) = IsEnough q.problem q.budget
HasEnoughFor (judged r) = HasSmallFrontier (rule_in r) → IsEnough (head_question r).problem r.budget
