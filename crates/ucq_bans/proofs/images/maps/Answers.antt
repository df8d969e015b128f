use Rattle.std.proofs.Common.{List, sym, subst}
use Rattle.ucq_terms.specs.Syntax.{Atom}
use Rattle.ucq_hom.specs.Search.{HasLowAtoms}
use Rattle.ucq_hom.proofs.Homs.{HasLowAtoms-atoms}
use Rattle.ucq_bans.specs.inner.Images.{MapsAtoms}
use Rattle.ucq_bans.proofs.Sent.{MapsAtoms-sent, SomeSends-maps}
use Rattle.ucq_bans.proofs.images.maps.Goals as goal

pub is_sent-requires-clause-low : goal.is_sent-requires-clause-low
is_sent-requires-clause-low c = subst HasLowAtoms (sym c.atoms-atoms.ensures.atoms) (HasLowAtoms-atoms c.args.query.now c.atoms-atoms.ensures.stored)

pub returns : goal.returns
returns c =
    let b = c.clear.new.self in
    let atoms = c.atoms-atoms.result.now in
    let order = c.order_for.new.order in
    let facts = c.args.facts.now in (
      λ yes. subst (λ (xs : List Atom). MapsAtoms xs facts) c.atoms-atoms.ensures.atoms (MapsAtoms-sent b atoms order facts c.order_for.ensures (c.is_sent.ensures.sent.0 yes)),
      λ m. c.is_sent.ensures.sent.1 (SomeSends-maps b atoms order facts c.clear.ensures c.order_for.ensures (subst (λ (xs : List Atom). MapsAtoms xs facts) (sym c.atoms-atoms.ensures.atoms) m)),
    )
