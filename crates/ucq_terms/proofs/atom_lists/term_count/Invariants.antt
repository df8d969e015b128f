use Rattle.std.proofs.Common.{◌*◌, ◌≤◌}
use Rattle.ucq_terms.proofs.atom_lists.term_count.Given as goal

abbrev pub invariant-loop-atom : goal.invariant-loop-atom
invariant-loop-atom l = l.count ≤ 16 * l.atom-index
