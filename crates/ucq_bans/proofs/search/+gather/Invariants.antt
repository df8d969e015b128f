use Rattle.std.proofs.Common.{◌≡◌, length, take, map}
use Rattle.ucq_bans.specs.inner.Search.{IsGrownBy, GivesSetBy}
use Rattle.ucq_bans.proofs.search.+gather.Given as goal

abbrev pub decreases-gather : goal.decreases-gather
decreases-gather l = length l.order.now

abbrev pub invariant-loop-target : goal.invariant-loop-target
invariant-loop-target l = record {
  bindings : l.bindings ≡ l.initial.bindings;
  chosen : l.chosen.items ≡ l.initial.chosen.items;
  found : IsGrownBy (GivesSetBy l.initial.bindings l.atom (take l.target-index l.target-items) l.atoms l.rest l.facts l.initial.chosen.items)
      (map (λ t. t.items) l.initial.found.keys) (map (λ t. t.items) l.found.keys);
}
