use Rattle.std.proofs.Common.{◌≡◌}
use Rattle.ucq_hom.proofs.images.have_images.Given as goal

abbrev pub invariant-loop-atom : goal.invariant-loop-atom
invariant-loop-atom l = l.bindings ≡ l.initial.bindings
