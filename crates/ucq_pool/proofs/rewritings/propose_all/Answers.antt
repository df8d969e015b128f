use Rattle.std.proofs.Common.{[], ◌∷◌, ◌++◌, subst, sym}
use Rattle.ucq_pool.specs.Rewritings.{AreProposed}
use Rattle.ucq_pool.proofs.Found.{one_proposed}
use Rattle.ucq_pool.proofs.rewritings.propose_all.Goals as goal

pub loop-core-preserved : goal.loop-core-preserved
loop-core-preserved g c = record {
  clear = c.in_ok-candidate.ensures.clear;
  proposed = subst (AreProposed c.reserve.new.self.items (c.loop-core.yielded ++ c.in-Some.core ∷ [])) (sym c.in_ok-push.ensures.items)
      (one_proposed c.reserve.new.self.items c.loop-core.candidates.items c.loop-core.yielded c.in_ok-candidate.candidate c.in-Some.core
      c.loop-core.invariant.proposed c.in_ok-candidate.ensures.core);
}
