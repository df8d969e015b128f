use Rattle.std.proofs.Common.{◌≡◌}
use Rattle.ucq_terms.specs.Numbering.{each_once}
use Rattle.ucq_terms.proofs.atom_lists.each_once.Given as goal

abbrev pub invariant-loop-atom : goal.invariant-loop-atom
invariant-loop-atom l = l.kept.items ≡ each_once l.yielded
