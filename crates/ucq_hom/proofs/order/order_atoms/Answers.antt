use Rattle.std.proofs.Common.{arith}
use Rattle.ucq_hom.specs.Search.{IsOrder}
use Rattle.ucq_hom.proofs.Ordered.{ArePlaces-at, IsOrder-numbered, IsOrder-swapped}
use Rattle.ucq_hom.proofs.order.order_atoms.Goals as goal

pub loop-i-init : goal.loop-i-init
loop-i-init c = IsOrder-numbered c.args.atoms.now c.number.new.order (omega arith) c.number.ensures

pub bounds-atoms-order : goal.bounds-atoms-order
bounds-atoms-order c =
    let o : IsOrder c.args.atoms.now c.swap.new.self = IsOrder-swapped c.args.atoms.now c.loop-i.order c.swap.new.self c.loop-i.i c.most_bound-best.result
    (omega arith) (omega arith) c.swap.ensures.len c.swap.ensures.by_index c.loop-i.invariant in
    ArePlaces-at c.args.atoms.now c.swap.new.self c.loop-i.i (omega (arith, c.swap.ensures.len)) o.places

pub loop-i-preserved : goal.loop-i-preserved
loop-i-preserved c = IsOrder-swapped c.args.atoms.now c.loop-i.order c.swap.new.self c.loop-i.i c.most_bound-best.result (omega arith) (omega arith)
    c.swap.ensures.len c.swap.ensures.by_index c.loop-i.invariant
