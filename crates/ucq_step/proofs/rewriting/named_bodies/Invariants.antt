use Rattle.std.proofs.Common.{◌≡◌}
use Rattle.ucq_step.specs.inner.Building.{copies_named}
use Rattle.ucq_step.proofs.rewriting.named_bodies.Given as goal

abbrev pub invariant-loop-copy : goal.invariant-loop-copy
invariant-loop-copy l = l.atoms.items ≡ copies_named l.joined l.body l.copy
