use Rattle.std.proofs.Common.{◌≡◌, map, take}
use Rattle.ucq_step.specs.inner.Building.{side_name}
use Rattle.ucq_step.proofs.rewriting.named_terms.Given as goal

abbrev pub invariant-loop-term : goal.invariant-loop-term
invariant-loop-term l = l.named.items ≡ map (side_name l.joined l.side) (take l.term-index l.terms)
