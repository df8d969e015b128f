use Rattle.std.proofs.Common.{subst, sym, length}
use Rattle.ucq_terms.specs.Syntax.{Rule}
use Rattle.ucq_pool.specs.inner.ByHead.{AreListedBefore}
use Rattle.ucq_pool.proofs.Listed.{one_below, rule_read}
use Rattle.ucq_pool.proofs.indexed.listed_heads.Goals as goal

pub loop-number-preserved : goal.loop-number-preserved
loop-number-preserved c =
    let rules = c.args.rules.now in
    let read = rule_read rules c.loop-number.number c.index-rules-number.result c.loop-number-test.true c.index-rules-number.is in
    one_below rules c.loop-number.number c.loop-number.lists c.list_heads.new.lists c.loop-number.invariant
    (subst (λ (r : Rule). AreListedBefore r.heads (length r.heads) c.loop-number.number c.loop-number.lists c.list_heads.new.lists) (sym read) c.in_ok-list_heads.ensures)
