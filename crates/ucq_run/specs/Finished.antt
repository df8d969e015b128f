-- What a run is asked, and the finished text of a part.
use Rattle.std.specs.Prelude.{◌≡◌, ◌↔◌, ℕ, List, length, All, Contains}
use Rattle.std.specs.List.Sorted.{IsStrictlySortedBy}
use Rattle.ucq_terms.specs.Syntax.{Atom, HasEachOnce, IsSameSet, Problem, Query}
use Rattle.ucq_terms.specs.Chase.{IsChaseAnswer}
use Rattle.ucq_terms.specs.Union.{IsExact}
use Rattle.ucq_reader.specs.Input.{InputValue}
use Rattle.ucq_eval.specs.Answers.{constants}
use Rattle.ucq_eval.specs.Tuples.{tuple_cmp}
use Rattle.ucq_print.specs.Laws.{ArePrintable, ArePrintableTuples}
use Rattle.ucq_print.specs.Texts.{answered_text, atom_count, finished_text, summary_text}
use Rattle.ucq_words.specs.Settings.{SettingsValue}
use Rattle.ucq_run.specs.declared.form.Form.{Form}
use Rattle.ucq_run.specs.declared.form.Form.TheVariants.{Queries, Answers, Counts}
use Rattle.ucq_run.specs.Inputs.{form_of, problem_of}

-- What is printed: a problem's union with these names, in that form, over these facts, or a cut at that budget.
pub record Question : Type 0 where
  pub form : Form
  pub names : List (List ℕ)
  pub problem : Problem
  pub facts : List Atom
  pub budget : ℕ

-- what settings ask of an input about one of its queries
abbrev pub question_of : SettingsValue → InputValue → Query → Question
question_of settings input query = record { form = form_of settings; names = input.names; problem = problem_of input query; facts = input.facts; budget = settings.budget }

-- the facts are just these atoms
pub record AreFactsOf (atoms facts : List Atom) : Type 0 where
  pub same : IsSameSet facts atoms

-- Just the tuples of constants that some finite chase of the facts answers, each once, in byte order of their texts.
pub record AreChaseAnswers (names : List (List ℕ)) (problem : Problem) (facts : List Atom) (tuples : List (List ℕ)) : Type 0 where
  pub each : (tuple : List ℕ) → Contains tuples tuple ↔ IsChaseAnswer problem facts (constants tuple)
  pub order : IsStrictlySortedBy (tuple_cmp names) tuples

-- The union's queries, with the answers where they are asked for, each constant of which has a name; or how many queries,
-- atoms and answers there are. No atom is counted twice.
abbrev pub IsPrintedIn : Form → Question → List Query → List ℕ → Type 0
IsPrintedIn Queries q union text = text ≡ finished_text q.names union
IsPrintedIn Answers q union text =
    (tuples : List (List ℕ)) × AreChaseAnswers q.names q.problem q.facts tuples × ArePrintableTuples q.names tuples × (text ≡ answered_text q.names union tuples)
IsPrintedIn Counts q union text =
    All (λ (member : Query). HasEachOnce member.atoms) union ×
    ((tuples : List (List ℕ)) × AreChaseAnswers q.names q.problem q.facts tuples × (text ≡ summary_text (length union) (atom_count union) (length tuples)))

-- the finished text of an exact union of the problem, each of whose predicates and constants has a name
pub record IsFinishedText (q : Question) (text : List ℕ) : Type 0 where
  pub union : List Query
  pub exact : IsExact q.problem union
  pub printable : ArePrintable q.names union
  pub printed : IsPrintedIn q.form q union text
