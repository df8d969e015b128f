use Rattle.std.proofs.Common.{subst, ◌∙◌}
use Rattle.std.proofs.lemmas.List.{get_or_default}
use Rattle.ucq_terms.specs.Syntax.{Rule}
use Rattle.ucq_terms.specs.Rewriting.{rule_at}
use Rattle.ucq_tally.specs.inner.Sums.{IsSaturated}
use Rattle.ucq_tally.specs.inner.Counts.{HasRewritings}
use Rattle.ucq_tally.proofs.Saturated.{IsSaturated-more}
use Rattle.ucq_tally.proofs.counting.rewritings_with_all.Goals as goal

pub loop-place-preserved : goal.loop-place-preserved
loop-place-preserved c =
    let q = c.args.query.now in
    let rules = c.args.rules.now in
    let place = c.loop-place.place in
    let given = c.index-rules-place.result in
    let same = c.index-rules-place.is ∙ get_or_default rules place given _ c.loop-place-test.true in
    IsSaturated-more (λ place count. HasRewritings q (rule_at rules place) count) place c.loop-place.sum
    c.in_ok-rewritings.field-0 c.saturating_add-sum.result c.loop-place.invariant
    (subst (λ (rule : Rule). IsSaturated (HasRewritings q rule) c.in_ok-rewritings.field-0) same c.in_ok-rewritings.ensures)
    c.saturating_add-sum.ensures
