use Rattle.ucq_pool.proofs.Rested.{at_rest, uncut_here}
use Rattle.ucq_pool.proofs.crew.open_again.Goals as goal

pub go_on-requires-clause-rest : goal.go_on-requires-clause-rest
go_on-requires-clause-rest c =
    at_rest c.args.store c.reopen.new.self c.reopen.ensures c.cut.ensures.lawful.lawful
    (uncut_here c.reopen.new.self c.cut.result (λ cut. cut.now) c.cut.ensures.cut c.if-is_none.ensures)
    c.requires.small
    c.requires.claims
