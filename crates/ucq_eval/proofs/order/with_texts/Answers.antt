use Rattle.std.proofs.Common.{◌∷◌, subst, sym}
use Rattle.std.proofs.lemmas.Map.Iter.{rest_more}
use Rattle.ucq_eval.specs.Order.{ArePrintedBut}
use Rattle.ucq_eval.proofs.Printing.{one_more_printed}
use Rattle.ucq_eval.proofs.order.with_texts.Goals as goal

pub loop-numbers-preserved : goal.loop-numbers-preserved
loop-numbers-preserved c =
    let whole = c.into_iter-numbers-iterator.result in
    let rest = subst (λ rest. ArePrintedBut c.args.names.now whole rest c.loop-numbers.all.items) (rest_more (λ k. k) _ _ c.next.result _ c.in-Some.is c.next.ensures.steps) c.loop-numbers.invariant in
    let made = c.in_ok-with_text.ensures in
    let left : ArePrintedBut c.args.names.now whole (c.in_ok-with_text.field-0.names ∷ c.next.new.self) c.loop-numbers.all.items = rw made.names_are rest in
    let more = one_more_printed c.args.names.now whole c.next.new.self c.loop-numbers.all.items c.in_ok-with_text.field-0 left made.text_is in
    subst (λ all. ArePrintedBut c.args.names.now whole c.next.new.self all) (sym c.in_ok-push.ensures.items) more
