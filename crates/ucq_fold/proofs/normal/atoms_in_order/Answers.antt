use Rattle.std.proofs.Common.{◌≡◌, List, [], ◌∷◌, ◌++◌, map, take, get_or, sym, ap, ap₂, ◌∙◌}
use Rattle.std.proofs.lemmas.List.{take_more, map-append, get_or_default}
use Rattle.ucq_terms.specs.Syntax.{Atom}
use Rattle.ucq_terms.specs.Unifier.{atom_at}
use Rattle.ucq_hom.proofs.Ordered.{ArePlaces-at}
use Rattle.ucq_fold.proofs.normal.atoms_in_order.Goals as goal

pub bounds-atoms-place : goal.bounds-atoms-place
bounds-atoms-place c = ArePlaces-at c.args.atoms.now c.args.order.now c.loop-place.place-index c.loop-place-test.true c.requires

pub loop-place-preserved : goal.loop-place-preserved
loop-place-preserved c =
    let atoms = c.args.atoms.now in
    let order = c.args.order.now in
    let i = c.loop-place.place-index in
    let place = get_or order i 0 in
    let bound = ArePlaces-at atoms order i c.loop-place-test.true c.requires in
    let one : c.in_ok-clone.field-0 ≡ atom_at atoms place =
    c.in_ok-clone.ensures.cases ∙ (c.index-atoms-place.is ∙ get_or_default atoms place c.index-atoms-place.result _ bound) in
    c.in_ok-push.ensures.items ∙
    (ap₂ (λ (xs : List Atom) (x : Atom). xs ++ x ∷ []) c.loop-place.invariant one ∙
    (sym (map-append (atom_at atoms) (take i order) (place ∷ [])) ∙ sym (ap (map (atom_at atoms)) (take_more order i 0 c.loop-place-test.true))))
