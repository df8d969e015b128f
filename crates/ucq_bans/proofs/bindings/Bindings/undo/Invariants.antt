use Rattle.std.proofs.Common.{◌≡◌, length}
use Rattle.ucq_hom.specs.Bindings.{Bound, Grown}
use Rattle.ucq_bans.proofs.bindings.Bindings.undo.Given as goal

abbrev pub invariant-loop-self : goal.invariant-loop-self
invariant-loop-self l = (before : Bound) → Grown before l.initial.self → l.mark ≡ length before.trail → Grown before l.self

abbrev pub decreases-loop-self : goal.decreases-loop-self
decreases-loop-self l = length l.self.trail
