use Rattle.std.proofs.Common.{◌≡◌, ◌+◌, ◌*◌}
use Rattle.ucq_unify.specs.inner.Search.{HasBranched}
use Rattle.ucq_unify.proofs.Choices.{free_places}
use Rattle.ucq_unify.proofs.search.+search.Given as goal

abbrev pub decreases-search : goal.decreases-search
decreases-search l = 3 * free_places l.choice.now + 2

abbrev pub decreases-branch : goal.decreases-branch
decreases-branch l = 3 * free_places l.choice.now + 1

abbrev pub decreases-try_head : goal.decreases-try_head
decreases-try_head l = 3 * free_places l.choice.now

abbrev pub invariant-branch-loop-head : goal.invariant-branch-loop-head
invariant-branch-loop-head l = record {
  numbers : l.classes.numbers ≡ l.initial.classes.numbers;
  choice : l.choice ≡ l.initial.choice;
  found : HasBranched l.sides.query.now l.sides.rule.now l.root l.initial.choice l.place l.head l.initial.found.items l.found.items;
}
