use Rattle.std.proofs.Common.{◌≡◌, ◌+◌, ◌*◌, ◌++◌, length, map}
use Rattle.ucq_eval.specs.inner.Join.{IsGrownBy, GivesBy, HasSamePlaces}
use Rattle.ucq_eval.proofs.join.+join.Given as goal

abbrev pub decreases-explore : goal.decreases-explore
decreases-explore l = 3 * length l.places.now + 2

abbrev pub decreases-branch : goal.decreases-branch
decreases-branch l = 3 * length l.places.now + 1

abbrev pub decreases-visit : goal.decreases-visit
decreases-visit l = 3 * length l.rest.now + 3

abbrev pub invariant-branch-loop-target : goal.invariant-branch-loop-target
invariant-branch-loop-target l = record {
  bindings : l.bindings ≡ l.initial.bindings;
  places : HasSamePlaces l.initial.rest l.rest;
  left : map (λ x. x.now) l.yielded ++ l.target-iterator ≡ l.initial.target-iterator;
  found : IsGrownBy (GivesBy l.initial.bindings l.query l.place (map (λ x. x.now) l.yielded) l.initial.rest l.facts)
      (map (λ t. t.items) l.initial.found.keys) (map (λ t. t.items) l.found.keys);
}
