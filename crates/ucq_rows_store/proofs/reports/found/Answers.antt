use Rattle.std.proofs.Common.{◌≡◌, subst, List, get_or}
use Rattle.ucq_terms.specs.Syntax.{Rule}
use Rattle.ucq_rows_store.proofs.OneRule.{one_found}
use Rattle.ucq_rows_store.proofs.reports.found.Goals as goal

pub returns : goal.returns
returns g c =
    let rules = c.args.problem.now.rules in
    let is : c.index-rules-0.result ≡ get_or rules 0 c.index-rules-0.result = subst (λ (rs : List Rule). c.index-rules-0.result ≡ get_or rs 0 c.index-rules-0.result) c.rules.ensures.rules c.index-rules-0.is in
    one_found rules c.requires c.index-rules-0.result is c.args.query.now _ _ c.cores_of-cores.ensures c.all_candidates.ensures
