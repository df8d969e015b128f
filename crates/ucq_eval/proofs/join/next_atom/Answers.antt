use Rattle.ucq_hom.proofs.Ordered.{ArePlaces-at}
use Rattle.ucq_eval.proofs.Branches.{chosen}
use Rattle.ucq_eval.proofs.join.next_atom.Goals as goal
use Rattle.ucq_eval.proofs.join.next_atom.Goals.{then-len-gt1+then-len, then-len-gt1+else-len, else-len-gt1}

pub bounds-atoms-places : goal.bounds-atoms-places
bounds-atoms-places c = ArePlaces-at c.args.atoms.now c.args.places.now 0 c.requires.some c.requires.places

pub loop-i-init : goal.loop-i-init
loop-i-init c =
    chosen c.args.bindings.now c.args.facts.now c.args.atoms.now c.args.places.now 0 c.index-atoms-places.result c.targets-fewest.result c.requires.some
    c.requires.places c.index-atoms-places.is c.targets-fewest.ensures

pub bounds-atoms-places-then-len-gt1 : goal.bounds-atoms-places-then-len-gt1
bounds-atoms-places-then-len-gt1 c = ArePlaces-at c.args.atoms.now c.args.places.now c.loop-i.i c.loop-i-test.true c.requires.places

pub loop-i-preserved : goal.loop-i-preserved
loop-i-preserved c = elim c.if-len-gt1.branch [
  | then-len-gt1+then-len w ↦ rw (w.best-is, w.fewest-is) (chosen c.args.bindings.now c.args.facts.now c.args.atoms.now c.args.places.now c.loop-i.i
      w.index-atoms-places-then-len-gt1.result w.targets-found.result c.loop-i-test.true c.requires.places w.index-atoms-places-then-len-gt1.is w.targets-found.ensures)
  | then-len-gt1+else-len w ↦ rw (w.best-is, w.fewest-is) c.loop-i.invariant
  | else-len-gt1 w ↦ rw (w.best-is, w.fewest-is) c.loop-i.invariant
]
