-- What came of the rewriting of what is asked.
use Rattle.std.specs.Prelude.{◌≡◌, ◌≢◌, ◌⊎◌, ℕ, List, length, if◌then◌else◌}
use Rattle.std.specs.Option.{is_some}
use Rattle.ucq_terms.specs.Syntax.{Problem, Query}
use Rattle.ucq_antichain.specs.Rows.{live_queries}
use Rattle.ucq_store.specs.Store.{Store, IsCut, IsFinished}
use Rattle.ucq_eval.specs.Answers.{AnswersValue, AreAnswers}
use Rattle.ucq_run.specs.declared.request.Shared.{Shared}
use Rattle.ucq_print.specs.Texts.{answered_text, atom_count, cut_lines, finished_text, lines_text, summary_text}
use Rattle.ucq_run.specs.declared.form.Form.{Form}
use Rattle.ucq_run.specs.declared.form.Form.TheVariants.{Queries, Answers, Counts}
use Rattle.ucq_run.specs.declared.solving.Solved.{Solved}

-- where the store is finished, and answers are asked for, these are those of its live queries over the facts
pub record HasAnswers (a : Shared) (s : Store) (found : AnswersValue) : Type 0 where
  pub names : found.names ≡ a.names
  pub answers : IsFinished s → a.form ≢ Queries → AreAnswers a.names (live_queries s.rows) a.facts found.tuples

-- the text of a union with these answers, in this form
abbrev pub form_text : Form → List (List ℕ) → List Query → List (List ℕ) → List ℕ
form_text Queries names union tuples = finished_text names union
form_text Answers names union tuples = answered_text names union tuples
form_text Counts names union tuples = summary_text (length union) (atom_count union) (length tuples)

-- the text of what was solved: of the cut, where the store is cut, or of its live queries
abbrev pub solved_text : Shared → Solved → List ℕ
solved_text a s = if is_some s.store.cut then lines_text (cut_lines a.names s.store) else form_text a.form a.names (live_queries s.store.rows) s.answers.tuples

-- the store of the problem and the budget is finished or cut, with its answers
pub record IsSolved (a : Shared) (p : Problem) (s : Solved) : Type 0 where
  pub ended : IsFinished s.store ⊎ IsCut s.store
  pub problem : s.store.problem ≡ p
  pub budget : s.store.budget ≡ a.budget
  pub has : HasAnswers a s.store s.answers
