use Rattle.std.proofs.Common.{◌≡◌, length, take}
use Rattle.ucq_bans.specs.inner.Search.{SendsBy}
use Rattle.ucq_bans.proofs.search.+is_sent.Given as goal

abbrev pub decreases-is_sent : goal.decreases-is_sent
decreases-is_sent l = length l.order.now

abbrev pub invariant-loop-target : goal.invariant-loop-target
invariant-loop-target l = record {
  bindings : l.bindings ≡ l.initial.bindings;
  none : ¬ SendsBy l.initial.bindings l.atom (take l.target-index l.target-items) l.atoms l.rest l.facts;
}
