use Rattle.std.proofs.Common.{map, take}
use Rattle.ucq_bans.specs.inner.Parts.{AreMinimalBefore}
use Rattle.ucq_bans.proofs.minimal.minimal.Given as goal

abbrev pub invariant-loop-set : goal.invariant-loop-set
invariant-loop-set l = AreMinimalBefore (map (λ t. t.items) l.sets) (map (λ t. t.items) (take l.set-index l.sets)) l.minimal.items
