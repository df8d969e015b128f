use Rattle.std.proofs.Common.{◌≡◌, ◌*◌, ◌+◌, ◌≤◌, ◌-◌}
use Rattle.std.specs.Prelude.{min}
use Rattle.ucq_hom.specs.Space.{IsClear}
use Rattle.ucq_antichain.specs.inner.Walks.{IsIndexOf, IsPrunedFrom}
use Rattle.ucq_antichain.proofs.prune_word.Given as goal

abbrev pub invariant-loop-bit : goal.invariant-loop-bit
invariant-loop-bit l = record {
  clear : IsClear l.space;
  low : l.bit ≤ 128;
  index : IsIndexOf l.index l.rows;
  groups : l.index.groups ≡ l.initial.index.groups;
  pruned : IsPrunedFrom l.query l.initial.rows l.rows (64 * l.word) (64 * l.word + min l.bit 64) l.pruned;
}

abbrev pub decreases-loop-bit : goal.decreases-loop-bit
decreases-loop-bit l = 128 - l.bit
