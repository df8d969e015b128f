use Rattle.std.proofs.Common.{subst, sym}
use Rattle.ucq_eval.specs.Answers.{AnswersValue, AreAnswers}
use Rattle.ucq_eval.proofs.Members.{in_order_are_answers}
use Rattle.ucq_eval.proofs.split.answers_with_texts_split.Goals as goal

pub returns-clause-answers : goal.returns-clause-answers
returns-clause-answers g c =
    subst (λ (a : AnswersValue). AreAnswers c.args.names.now c.args.union.now c.args.facts.now a.tuples) (sym c.of.ensures)
    (in_order_are_answers c.args.names.now c.args.union.now c.args.facts.now _ _ c.in_ok-found.ensures c.in_ok-all.ensures.order)
