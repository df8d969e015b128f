use Rattle.ucq_hom.proofs.Ordered.{ArePlaces-at}
use Rattle.ucq_fold.proofs.normal.next_place.Goals as goal

pub bounds-atoms-order : goal.bounds-atoms-order
bounds-atoms-order c = ArePlaces-at c.args.atoms.now c.args.order.now c.loop-i.i c.loop-i-test.true c.requires.places

pub bounds-atoms-order-in-loop-i : goal.bounds-atoms-order-in-loop-i
bounds-atoms-order-in-loop-i c = ArePlaces-at c.args.atoms.now c.args.order.now c.loop-i.best c.loop-i.invariant c.requires.places
