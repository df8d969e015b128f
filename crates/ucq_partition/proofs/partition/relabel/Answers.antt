use Rattle.std.proofs.Common.{get_or, nat_eq, cond, ℕ, arith}
use Rattle.std.proofs.lemmas.List.{get_or_default}
use Rattle.std.proofs.lemmas.List.Edits.{map_over_more}
use Rattle.ucq_partition.proofs.partition.relabel.Goals as goal

pub loop-label-preserved : goal.loop-label-preserved
loop-label-preserved c =
    let f : ℕ → ℕ = λ l. cond (nat_eq l c.args.from) c.args.to l in
    let x = get_or c.loop-label.labels c.loop-label.label-index 0 in
    let step = map_over_more f c.args.labels.now c.loop-label.labels c.loop-label.label-index x (omega arith) c.loop-label.invariant
    (get_or_default c.loop-label.labels c.loop-label.label-index 0 x (omega arith)) in
    rw c.replaced.ensures step
