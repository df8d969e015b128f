use Rattle.std.proofs.Common.{◌≡◌, List, length, get_or, sym, ap, ◌∙◌, Contains, subst, arith}
use Rattle.std.proofs.lemmas.List.Elements.{Contains-get_or}
use Rattle.ucq_terms.specs.declared.Term.TheVariants.{Variable}
use Rattle.ucq_terms.specs.Syntax.{Atom}
use Rattle.ucq_terms.proofs.Subsets.{OccursIn-from_atom}
use Rattle.ucq_step.specs.inner.Building.{side_name, pairs_at}
use Rattle.ucq_step.specs.declared.rewriting.Side.TheVariants.{OfQuery}
use Rattle.ucq_step.proofs.Building.{rest_more}
use Rattle.ucq_step.proofs.rewriting.push_rest.Goals as goal

pub push_unmatched-requires-clause-low : goal.push_unmatched-requires-clause-low
push_unmatched-requires-clause-low c = λ v i.
    let a = c.atom-item.result in
    let items = c.atoms-atom-items.result.now in
    let here : Contains items a = subst (λ (b : Atom). Contains items b) (sym c.atom-item.is) (Contains-get_or items c.loop-place.place a c.loop-place-test.true) in
    let there : Contains c.args.query.now.atoms a = subst (λ (xs : List Atom). Contains xs a) c.atoms-atom-items.ensures.atoms here in
    c.requires.low v (OccursIn-from_atom c.args.query.now.atoms (Variable v) a there i)

pub loop-place-preserved : goal.loop-place-preserved
loop-place-preserved c =
    let items = c.atoms-atom-items.result.now in
    let a = c.atom-item.result in
    let same : items ≡ c.args.query.now.atoms = c.atoms-atom-items.ensures.atoms in
    let size = ap length same in
    let here : a ≡ get_or c.args.query.now.atoms c.loop-place.place a = c.atom-item.is ∙ ap (λ (xs : List Atom). get_or xs c.loop-place.place a) same in
    rest_more (side_name c.args.joined.now OfQuery) (pairs_at c.args.pieces.now c.args.joined.now.members) c.args.query.now.atoms c.loop-place.place a
    c.args.atoms.now.items c.loop-place.atoms.items c.push_unmatched.new.atoms.items (omega (arith, size, c.loop-place-test.true)) here
    c.loop-place.invariant c.in_ok-push_unmatched.ensures
