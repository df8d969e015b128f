-- One more term is numbered as the order of all of them numbers it.
use Rattle.std.proofs.Common.{arith, refl}
use Rattle.ucq_terms.proofs.Orders.{terms_step}
use Rattle.ucq_terms.proofs.variables.number_terms.Goals as goal

pub loop-term-preserved : goal.loop-term-preserved
loop-term-preserved c =
    let step =
    terms_step c.args.order.now.keys c.loop-term.order.keys _ c.args.terms.now c.loop-term.terms c.loop-term.term-index _ _ _ (omega arith)
    c.loop-term.invariant.order c.loop-term.invariant.terms refl c.in_ok-number_term.ensures.order c.in_ok-number_term.ensures.term in
    record {
      order = step.0;
      terms = step.1;
      few = omega (arith, c.in_ok-number_term.ensures.few);
    }
