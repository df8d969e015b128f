use Rattle.std.proofs.Common.{◌≡◌, ◌++◌, List, take}
use Rattle.ucq_terms.specs.Unifier.{Node, links}
use Rattle.ucq_classes.specs.Classes.{IsClassed}
use Rattle.ucq_join.proofs.links.link_piece.Given as goal

abbrev pub invariant-loop-i : goal.invariant-loop-i
invariant-loop-i l = record {
  numbers : l.classes.numbers ≡ l.initial.classes.numbers;
  linked :
      (before : List (Node × Node)) → IsClassed before l.initial.classes → IsClassed (before ++ links l.query l.copy l.rule (take l.i l.pairs)) l.classes;
}
