use Rattle.std.proofs.Common.{subst, sym}
use Rattle.ucq_unify.specs.Pieces.{AreSinglePieces}
use Rattle.ucq_step.proofs.Walking.{ArePieces-single}
use Rattle.ucq_rows_steps.proofs.aggregates.walked.Goals as goal

pub walk-requires : goal.walk-requires
walk-requires c =
    ArePieces-single c.in_ok-query.query c.in_ok-rule.rule c.as_slice.result.now
    (subst (AreSinglePieces c.in_ok-query.query c.in_ok-rule.rule) (sym c.as_slice.ensures.value) c.in_ok-pieces.ensures)
