use Rattle.ucq_hom.specs.Space.{IsClear}
use Rattle.ucq_pool.specs.inner.Shared.{IsAtWork}
use Rattle.ucq_pool.proofs.worker.Worker.work.Given as goal

abbrev pub invariant-loop : goal.invariant-loop
invariant-loop g l =
    ((goal.iterator-loop g).can_next l.iterator' × (goal.iterator-loop g).is_finite l.iterator')
    × IsClear l.self.space
    × IsAtWork l.round.board.now l.seat
