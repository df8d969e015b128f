-- The numbered parts make a rule.
use Rattle.std.proofs.Common.{ap, ◌∙◌, sym, arith, length}
use Rattle.std.proofs.lemmas.List.{with_items_is}
use Rattle.std.specs.Vec.{with_items}
use Rattle.ucq_terms.specs.Rule.{IsNumberedRule}
use Rattle.ucq_terms.proofs.NumberedRules.{IsNumberedRule-same, IsKeptRule-from}
use Rattle.ucq_terms.proofs.rules.Rule.new.Goals as goal

made : (c : goal.In_ok-number) →
    IsNumberedRule (record { heads = c.args.heads.items; body = c.args.body.items })
    (record { heads = (with_items c.args.heads c.number.new.heads).items; body = (with_items c.args.body c.number.new.body).items })
made c =
    let heads = c.as_mut_slice.ensures.value in
    let body = c.as_mut_slice-2.ensures.value in
    IsNumberedRule-same _ _ _ _ _ _ _ _ heads body
    (with_items_is c.args.heads c.number.new.heads (c.number.auto.heads ∙ (ap length heads ∙ sym c.args.heads.ok.0)))
    (with_items_is c.args.body c.number.new.body (c.number.auto.body ∙ (ap length body ∙ sym c.args.body.ok.0)))
    c.in_ok-number.ensures

pub invariant_of-result : goal.invariant_of-result
invariant_of-result c =
    IsKeptRule-from (record { heads = c.args.heads.items; body = c.args.body.items }) _ (made c) (omega (arith, c.requires.some_heads, c.args.heads.ok.0))
    (omega (arith, c.requires.few_heads, c.args.heads.ok.0)) (omega (arith, c.requires.some_body, c.args.body.ok.0)) (omega (arith, c.requires.few_body, c.args.body.ok.0))

pub returns : goal.returns
returns c = (made c).same
