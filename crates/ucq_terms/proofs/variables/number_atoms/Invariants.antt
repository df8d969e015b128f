use Rattle.std.proofs.Common.{◌≡◌, ◌+◌, ◌*◌, ◌≤◌, drop, length}
use Rattle.ucq_terms.specs.Numbering.{order_with, numbered_atom, terms_of}
use Rattle.ucq_terms.proofs.Mapped.{mapped}
use Rattle.ucq_terms.proofs.variables.number_atoms.Given as goal

abbrev pub invariant-loop-atom : goal.invariant-loop-atom
invariant-loop-atom l = record {
  order : order_with l.order.keys (terms_of (drop l.atom-index l.initial.atoms)) ≡ order_with l.initial.order.keys (terms_of l.initial.atoms);
  atoms : l.atoms ≡ mapped (numbered_atom (order_with l.initial.order.keys (terms_of l.initial.atoms))) l.atom-index l.initial.atoms;
  few : length l.order.keys ≤ length l.initial.order.keys + 16 * l.atom-index;
}
