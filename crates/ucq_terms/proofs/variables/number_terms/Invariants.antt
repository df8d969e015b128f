use Rattle.std.proofs.Common.{◌≡◌, ◌+◌, ◌≤◌, drop, length}
use Rattle.ucq_terms.specs.Numbering.{order_with, numbered_term}
use Rattle.ucq_terms.proofs.Mapped.{mapped}
use Rattle.ucq_terms.proofs.variables.number_terms.Given as goal

abbrev pub invariant-loop-term : goal.invariant-loop-term
invariant-loop-term l = record {
  order : order_with l.order.keys (drop l.term-index l.initial.terms) ≡ order_with l.initial.order.keys l.initial.terms;
  terms : l.terms ≡ mapped (numbered_term (order_with l.initial.order.keys l.initial.terms)) l.term-index l.initial.terms;
  few : length l.order.keys ≤ length l.initial.order.keys + l.term-index;
}
