use Rattle.std.proofs.Common.{◌≡◌, length}
use Rattle.ucq_join.specs.inner.Copies.{HasCopyWidth}
use Rattle.ucq_join.proofs.copies.set_copies.Given as goal

abbrev pub invariant-loop-copy : goal.invariant-loop-copy
invariant-loop-copy l = record {
  rest : l.numbering ≡ record l.fn.numbering { widths = l.numbering.widths };
  count : length l.numbering.widths ≡ l._copy;
  width : HasCopyWidth l.numbering l.width;
}
