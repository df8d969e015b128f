use Rattle.std.proofs.Common.{List, length, sym, subst, ◌<◌, arith}
use Rattle.ucq_terms.specs.Syntax.{Atom}
use Rattle.ucq_hom.specs.Search.{IsOrder}
use Rattle.ucq_hom.proofs.Ordered.{ArePlaces-at, IsOrder-numbered, IsOrder-swapped}
use Rattle.std.specs.List.{slice_index_or}
use Rattle.ucq_fold.proofs.normal.arrange.Goals as goal

pub loop-i-init : goal.loop-i-init
loop-i-init c = let r = c.requires in let s = c.number.auto.order in IsOrder-numbered c.args.query.now.atoms c.number.new.order (omega arith) c.number.ensures

pub bounds-atoms-order : goal.bounds-atoms-order
bounds-atoms-order c =
    let o : IsOrder c.args.query.now.atoms c.swap.new.self = IsOrder-swapped c.args.query.now.atoms c.loop-i.order c.swap.new.self c.loop-i.i c.next_place-best.result
    (omega arith) (omega arith) c.swap.ensures.len c.swap.ensures.by_index c.loop-i.invariant in
    subst (λ (x : List Atom). slice_index_or c.swap.new.self c.loop-i.i 0 < length x) (sym c.atoms-atoms.ensures.atoms)
    (ArePlaces-at c.args.query.now.atoms c.swap.new.self c.loop-i.i (omega (arith, c.swap.ensures.len)) o.places)

pub loop-i-preserved : goal.loop-i-preserved
loop-i-preserved c = IsOrder-swapped c.args.query.now.atoms c.loop-i.order c.swap.new.self c.loop-i.i c.next_place-best.result (omega arith) (omega arith)
    c.swap.ensures.len c.swap.ensures.by_index c.loop-i.invariant
