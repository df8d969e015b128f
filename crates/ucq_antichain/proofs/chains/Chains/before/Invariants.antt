use Rattle.std.proofs.Common.{◌<◌, length}
use Rattle.ucq_antichain.proofs.chains.Chains.before.Given as goal

abbrev pub invariant-loop-at : goal.invariant-loop-at
invariant-loop-at l = record {
  within : l.at < length l.self.next;
  before : l.before < length l.self.next;
  above : 0 < l.before → l.link < l.before;
}

abbrev pub decreases-loop-at : goal.decreases-loop-at
decreases-loop-at l = l.at
