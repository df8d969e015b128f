use Rattle.std.proofs.Common.{◌≡◌}
use Rattle.ucq_unify.specs.inner.Search.{HasRooted}
use Rattle.ucq_unify.proofs.search.search_roots.Given as goal

abbrev pub invariant-loop-root : goal.invariant-loop-root
invariant-loop-root l = record {
  numbers : l.classes.numbers ≡ l.initial.classes.numbers;
  choice : l.choice ≡ l.initial.choice;
  found : HasRooted l.sides.query.now l.sides.rule.now l.root l.found.items;
}
