use Rattle.std.proofs.Common.{map}
use Rattle.ucq_bans.specs.inner.Images.{AreImagesBefore}
use Rattle.ucq_bans.proofs.images.images.Given as goal

abbrev pub invariant-loop-row : goal.invariant-loop-row
invariant-loop-row l = AreImagesBefore l.store l.row l.facts (map (λ t. t.items) l.found.keys)
