use Rattle.ucq_eval.specs.Order.{ArePrintedBut}
use Rattle.ucq_eval.proofs.order.with_texts.Given as goal

abbrev pub invariant-loop-numbers : goal.invariant-loop-numbers
invariant-loop-numbers l = ArePrintedBut l.names l.initial.numbers-iterator l.numbers-iterator l.all.items
