use Rattle.std.proofs.Common.{◌≡◌, ◌<◌, ℕ, get_or, nat_eq, false}
use Rattle.ucq_classes.proofs.constants.place_of.Given as goal

abbrev pub invariant-loop-k : goal.invariant-loop-k
invariant-loop-k l = (k : ℕ) → k < l.k → nat_eq l.constant (get_or l.constants k 0) ≡ false
