use Rattle.std.proofs.Common.{Contains, sym, subst}
use Rattle.ucq_terms.proofs.Images.{IsSubset-image}
use Rattle.ucq_terms.proofs.Subsets.{OccursIn-from_atom}
use Rattle.ucq_terms.specs.declared.Term.TheVariants.{Variable}
use Rattle.ucq_hom.specs.Bindings.{Bound, Extends}
use Rattle.ucq_hom.proofs.images.have_images.Goals as goal

pub has_image-requires : goal.has_image-requires
has_image-requires c =
    let here : Contains c.args.atoms.now c.atom-item.result = (c.loop-atom.atom-index, c.loop-atom-test.true, sym c.atom-item.is) in
    record { low = λ v i. c.requires.low v (OccursIn-from_atom c.args.atoms.now (Variable v) c.atom-item.result here i) }

pub returns-then-not-has_image-clause-none : goal.returns-then-not-has_image-clause-none
returns-then-not-has_image-clause-none c = λ _ h e s.
    let here : Contains c.args.atoms.now c.atom-item.result = (c.loop-atom.atom-index, c.loop-atom-test.true, sym c.atom-item.is) in
    c.has_image.ensures.none c.if-not-has_image.true h (subst (λ (b : Bound). Extends h b) (sym c.loop-atom.invariant) e)
    (IsSubset-image h c.args.atoms.now c.args.targets.now s c.atom-item.result here)
