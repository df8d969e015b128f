use Rattle.ucq_hom.proofs.Ordered.{ArePlaces-at}
use Rattle.ucq_hom.proofs.order.most_bound.Goals as goal

pub bounds-atoms-place : goal.bounds-atoms-place
bounds-atoms-place c = ArePlaces-at c.args.atoms.now c.args.order.now c.loop-i.i c.loop-i-test.true c.requires.places
