use Rattle.std.proofs.Common.{◌≡◌, ◌*◌}
use Rattle.ucq_hom.specs.Space.{IsClear}
use Rattle.ucq_antichain.specs.inner.Walks.{IsIndexOf, IsPrunedFrom}
use Rattle.ucq_antichain.proofs.prune.Given as goal

abbrev pub invariant-loop-group : goal.invariant-loop-group
invariant-loop-group l = record {
  clear : IsClear l.space;
  index : IsIndexOf l.index l.rows;
  groups : l.index.groups ≡ l.initial.index.groups;
  pruned : IsPrunedFrom l.query l.initial.rows l.rows 0 (4096 * l.group) l.pruned;
}
