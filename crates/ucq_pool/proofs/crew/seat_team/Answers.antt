use Rattle.std.proofs.Common.{◌≡◌, ◌+◌, ◌-◌, ap, ◌∙◌, vec_len, arith}
use Rattle.ucq_board.specs.declared.rule.View.{View}
use Rattle.ucq_board.specs.Values.{BoardValue}
use Rattle.ucq_pool.proofs.crew.seat_team.Goals as goal

pub invariant_of-job : goal.invariant_of-job
invariant_of-job g c = record {
  at_work = record {
    given = c.split-seat.ensures.board.1 ∙ ap (λ (b : BoardValue). b.table) c.requires.task;
    single = ap (λ (v : View). v.spare) c.split-seat.ensures.right;
  };
}

pub loop-preserved : goal.loop-preserved
loop-preserved g c =
    let left : c.split-seat.new.seat.view.spare ≡ c.loop.first.view.spare - 1 = ap (λ (v : View). v.spare) c.split-seat.ensures.left in
    let more : vec_len c.push.new.self ≡ vec_len c.loop.jobs + 1 = c.in_ok-push.ensures.len in
    record {
      few = omega (arith, more, c.loop.invariant.few);
      count = omega (arith, more, left, c.loop.invariant.few, c.loop.invariant.count, c.loop-test.true, c.spare-team.ensures.spare);
      first = c.split-seat.ensures.board.0;
    }

pub split-seat-requires-clause-spare : goal.split-seat-requires-clause-spare
split-seat-requires-clause-spare g c = omega (arith, c.loop.invariant.few, c.loop.invariant.count, c.loop-test.true, c.spare-team.ensures.spare)
