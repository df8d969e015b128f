use Rattle.std.proofs.Common.{length, ◌≡◌, ◌≤◌, ◌+◌}
use Rattle.ucq_run.specs.Finished.{AreFactsOf}
use Rattle.ucq_run.proofs.over_facts.facts_of.Given as goal

abbrev pub invariant-loop-atom : goal.invariant-loop-atom
invariant-loop-atom l = record {
  same : AreFactsOf l.yielded l.facts;
  few : length l.facts ≤ length l.yielded;
  left : length l.yielded + length l.atom-iterator.rest.items ≡ length l.initial.atom-iterator.rest.items;
}
