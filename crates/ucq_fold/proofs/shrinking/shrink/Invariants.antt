use Rattle.ucq_fold.proofs.Shrunk.{IsShrunk}
use Rattle.ucq_fold.proofs.shrinking.shrink.Given as goal

abbrev pub invariant-loop-place : goal.invariant-loop-place
invariant-loop-place l = IsShrunk l.initial.query l.query l.place
