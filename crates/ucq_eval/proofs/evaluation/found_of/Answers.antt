use Rattle.ucq_eval.proofs.Members.{member_at_place}
use Rattle.ucq_eval.proofs.evaluation.found_of.Goals as goal

pub loop-place-preserved : goal.loop-place-preserved
loop-place-preserved c = member_at_place c.args.union.now c.loop-place.place c.query.result.now c.args.facts.now _ _ c.query.ensures c.loop-place.invariant c.in_ok-collect.ensures
