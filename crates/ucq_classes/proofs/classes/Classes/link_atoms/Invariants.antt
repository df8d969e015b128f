use Rattle.std.proofs.Common.{◌≡◌, ◌++◌, List, take, map, zip}
use Rattle.ucq_terms.specs.Unifier.{Node, query_node, copy_node}
use Rattle.ucq_classes.specs.Classes.{IsClassed}
use Rattle.ucq_classes.proofs.classes.Classes.link_atoms.Given as goal

abbrev pub invariant-loop-i : goal.invariant-loop-i
invariant-loop-i l = record {
  numbers : l.self.numbers ≡ l.initial.self.numbers;
  linked :
      (links : List (Node × Node)) → IsClassed links l.initial.self →
      IsClassed (links ++ zip (map query_node (take l.i l.terms)) (map (copy_node l.copy) (take l.i l.others))) l.self;
}
