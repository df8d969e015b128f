use Rattle.std.proofs.Common.{◌≡◌, ◌+◌, ◌-◌, length, arith}
use Rattle.ucq_outside.specs.Taken.{change_of}
use Rattle.ucq_run.proofs.InTurn.{prints_first, prints_later}
use Rattle.ucq_run.proofs.sections.print_part_by_crew.Goals as goal

pub returns-then-number-count-clause-prints : goal.returns-then-number-count-clause-prints
returns-then-number-count-clause-prints g c = λ part facts at about.
    let out =
    change_of (g.K.Sink.taken c.args.out.now) (g.K.Sink.taken c.print_query_by_crew.new.out) (g.K.Sink.faults c.args.out.now)
    (g.K.Sink.faults c.print_query_by_crew.new.out) in
    prints_first c.args.shared.now c.args.rules.items c.args.queries.now facts c.args.number part out c.print_query_by_crew.result.0 c.if-number-count.true at
    (λ asked is. c.print_query_by_crew.ensures.prints asked facts is about)

pub returns-else-number-count-clause-prints : goal.returns-else-number-count-clause-prints
returns-else-number-count-clause-prints g c = λ part facts at about.
    let out =
    change_of (g.K.Sink.taken c.args.out.now) (g.K.Sink.taken c.print_rule_by_crew.new.out) (g.K.Sink.faults c.args.out.now)
    (g.K.Sink.faults c.print_rule_by_crew.new.out) in
    let place = c.args.number - length c.args.queries.now in
    let behind = c.if-number-count.false in
    let sum : length c.args.queries.now + place ≡ c.args.number = omega (arith, behind) in
    prints_later c.args.shared.now c.args.rules.items c.args.queries.now facts c.args.number place part out c.print_rule_by_crew.result.0 sum c.requires.number at
    c.print_rule_by_crew.ensures.prints
