use Rattle.ucq_pool.proofs.Advanced.{claim_advances, cut_tells, none_advances}
use Rattle.ucq_pool.proofs.solo.advance.Goals as goal

pub returns-in_ok-explore-in-Some-clause-advances : goal.returns-in_ok-explore-in-Some-clause-advances
returns-in_ok-explore-in-Some-clause-advances c =
    let claim = c.in-Some.ensures.does in
    let now = claim_advances c.args.store.now c.claim.new.self c.explore.new.store c.in-Some.claim.row c.requires.rest claim.2 claim.4 c.in_ok-explore-in-Some.ensures.explored in
    cut_tells c.args.store.now c.explore.new.store c.cut.result (λ cut. cut.now) c.is_none.result now.ends c.cut.ensures.cut c.is_none.ensures

pub returns-in_ok-explore-in-Some-clause-task : goal.returns-in_ok-explore-in-Some-clause-task
returns-in_ok-explore-in-Some-clause-task c =
    let claim = c.in-Some.ensures.does in
    (claim_advances c.args.store.now c.claim.new.self c.explore.new.store c.in-Some.claim.row c.requires.rest claim.2 claim.4 c.in_ok-explore-in-Some.ensures.explored).task

pub returns-in-None-clause-advances : goal.returns-in-None-clause-advances
returns-in-None-clause-advances c =
    none_advances c.args.store.now c.claim.new.self c.next_level.new.self c.next_level.result c.requires.rest c.in-None.ensures.does c.next_level.ensures
