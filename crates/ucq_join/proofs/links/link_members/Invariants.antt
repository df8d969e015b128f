use Rattle.std.proofs.Common.{◌≡◌, take}
use Rattle.ucq_classes.specs.Classes.{IsClassed}
use Rattle.ucq_join.specs.Walk.{links_at}
use Rattle.ucq_join.proofs.links.link_members.Given as goal

abbrev pub invariant-loop-copy : goal.invariant-loop-copy
invariant-loop-copy l = record {
  numbers : l.classes.numbers ≡ l.fn.classes.numbers;
  linked : IsClassed (links_at l.query l.rule l.pieces (take l.copy l.members)) l.classes;
}
