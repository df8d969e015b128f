-- What was solved, for the question that is asked.
use Rattle.std.proofs.Common.{◌≡◌, ◌≢◌, ◌<◌, ◌^◌, ℕ, List, length, subst}
use Rattle.ucq_terms.specs.Syntax.{Atom, Problem, Query}
use Rattle.ucq_terms.specs.Union.{IsExact}
use Rattle.ucq_antichain.specs.Rows.{live_queries}
use Rattle.ucq_store.specs.Store.{Store, IsFinished}
use Rattle.ucq_eval.specs.Answers.{AnswersValue, AreAnswers}
use Rattle.ucq_eval.specs.Laws.{AnswersAreChaseAnswers}
use Rattle.ucq_print.specs.Laws.{ArePrintable, ArePrintableTuples}
use Rattle.ucq_run.specs.declared.request.Shared.{Shared}
use Rattle.ucq_run.specs.declared.form.Form.TheVariants.{Queries}
use Rattle.ucq_run.specs.inner.Request.{AsksAbout}
use Rattle.ucq_run.specs.Finished.{AreChaseAnswers}
use Rattle.ucq_run.specs.inner.Solved.{HasAnswers}
use Rattle.ucq_run.proofs.AnswerNames.{printed_answers}
use Rattle.ucq_run.proofs.OverFacts.{answers_of_chase}

-- the answers of a store's live queries
pub has_answers : (a : Shared) (s : Store) (found : AnswersValue) (union : List Query) → union ≡ live_queries s.rows → found.names ≡ a.names →
    AreAnswers a.names union a.facts found.tuples → HasAnswers a s found
has_answers a s found union live names answers = record {
  names = names;
  answers = λ finished asks. subst (λ (qs : List Query). AreAnswers a.names qs a.facts found.tuples) live answers;
}

-- and none, where they aren't asked for, or the store is cut
pub has_none : (a : Shared) (s : Store) (found : AnswersValue) → (IsFinished s → a.form ≡ Queries) → found.names ≡ a.names → HasAnswers a s found
has_none a s found none names = record {
  names = names;
  answers = λ finished asks. absurd (asks (none finished));
}

-- the answers that were found over the index are those of the chase over the facts
pub solved_answers : AnswersAreChaseAnswers → (a : Shared) (p : Problem) (facts : List Atom) (union : List Query) (tuples : List (List ℕ)) → AsksAbout a facts → IsExact p union →
    ArePrintable a.names union → length tuples < 2 ^ 64 → a.form ≢ Queries → AreAnswers a.names union a.facts tuples →
    AreChaseAnswers a.names p facts tuples × ArePrintableTuples a.names tuples
solved_answers law a p facts union tuples about exact printable few asks answers =
    printed_answers a.names p union facts tuples exact printable about.held few
    (answers_of_chase law a.names p union a.facts facts tuples (about.indexed asks) exact answers)
