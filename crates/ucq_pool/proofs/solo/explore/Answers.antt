use Rattle.std.proofs.Common.{sym, ◌∙◌}
use Rattle.ucq_pool.proofs.Explored.{explored}
use Rattle.ucq_pool.proofs.solo.explore.Goals as goal

pub returns-clause-explored : goal.returns-clause-explored
returns-clause-explored c =
    let on = c.in_ok-report.ensures.report in
    explored c.args.store.now c.publish_own.new.self c.args.claim _ _ c.publish_own.result c.requires.uncut
    (record { row_of = c.requires.row; query = sym (on.query_of ∙ (c.in_ok-query.ensures ∙ c.query_of.ensures)); problem = c.requires.problem ∙ sym on.problem_of })
    c.requires.claimed c.publish_own.ensures.does
