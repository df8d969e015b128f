use Rattle.std.proofs.Common.{◌≤◌, length}
use Rattle.ucq_terms.specs.Syntax.{Query}
use Rattle.ucq_hom.specs.Space.{IsClear}
use Rattle.ucq_within.specs.Minimal.{LeavesOut}
use Rattle.ucq_within.proofs.minimal.minimise.Given as goal

abbrev pub invariant-loop-place : goal.invariant-loop-place
invariant-loop-place l = record {
  clear : IsClear l.space;
  within : l.place ≤ length l.query.atoms;
  leaves : (left : Query) → LeavesOut l.of l.place l.query left → LeavesOut l.of (length l.of.problem.query.atoms) l.of.problem.query left;
}

abbrev pub decreases-loop-place : goal.decreases-loop-place
decreases-loop-place l = l.place
