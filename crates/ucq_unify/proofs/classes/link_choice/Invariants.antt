use Rattle.std.proofs.Common.{◌≡◌, take}
use Rattle.ucq_terms.specs.Unifier.{links}
use Rattle.ucq_classes.specs.Classes.{IsClassed}
use Rattle.ucq_unify.specs.inner.Growing.{pairs_of}
use Rattle.ucq_unify.proofs.classes.link_choice.Given as goal

abbrev pub invariant-loop-place : goal.invariant-loop-place
invariant-loop-place l = record {
  numbers : l.classes.numbers ≡ l.fn.classes.numbers;
  linked : IsClassed (links l.sides.query.now 0 l.sides.rule.now (pairs_of (take l.place l.choice))) l.classes;
}
