use Rattle.std.proofs.Common.{◌≤◌, length}
use Rattle.ucq_hom.specs.Space.{IsClear}
use Rattle.ucq_log.proofs.Log.newest_cover.Given as goal

abbrev pub invariant-loop-place : goal.invariant-loop-place
invariant-loop-place l = record {
  clear : IsClear l.space;
  left : l.left ≤ length l.own;
}
