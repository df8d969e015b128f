use Rattle.std.proofs.Common.{◌≡◌, ◌<◌, ℕ, List, length, Contains, true, false, sym, ap, ◌∙◌, subst, arith, below_more}
use Rattle.std.proofs.Common.{not}
use Rattle.std.specs.Option.{is_some}
use Rattle.ucq_terms.specs.declared.Term.{Term}
use Rattle.ucq_terms.specs.declared.Term.TheVariants.{Variable}
use Rattle.ucq_terms.specs.Syntax.{Atom}
use Rattle.ucq_terms.proofs.Subsets.{OccursIn-from_atom}
use Rattle.ucq_unify.specs.inner.Classes.{CallsFor, IsCalledAt}
use Rattle.ucq_classes.proofs.Numbers.{read_atom}
use Rattle.ucq_unify.proofs.classes.first_called.Goals.{else-is_none-via-then-is_none+else-calls_for, else-is_none-via-else-is_none}
use Rattle.ucq_unify.proofs.classes.first_called.Goals as goal

pub calls_for-requires-clause-below : goal.calls_for-requires-clause-below
calls_for-requires-clause-below c = λ v i.
    let e : c.atoms-atoms.result.now ≡ c.args.sides.now.query.now.atoms = c.atoms-atoms.ensures.atoms in
    let l : c.loop-place.place < length c.atoms-atoms.result.now = omega (arith, ap length e, c.requires.length) in
    let a : Contains c.atoms-atoms.result.now c.index-atoms-place.result = (c.loop-place.place, l, sym c.index-atoms-place.is) in
    c.requires.sides.query.each (Variable v) (OccursIn-from_atom c.args.sides.now.query.now.atoms (Variable v) c.index-atoms-place.result
    (subst (λ (xs : List Atom). Contains xs c.index-atoms-place.result) e a) (subst (λ (ts : List Term). Contains ts (Variable v)) c.terms.ensures.terms i))

pub loop-place-preserved : goal.loop-place-preserved
loop-place-preserved c = λ links k.
    let t = c.args.sides.now.existential.items in
    let q = c.args.sides.now.query.now in
    let i = c.loop-place.place in
    let l : i < length q.atoms = omega (arith, c.requires.length) in
    below_more (λ (place : ℕ). IsCalledAt t links q c.args.choice.now place → ⊥) i (c.loop-place.invariant links k)
    (λ a. elim c.else-is_none.branch [
      | else-is_none-via-then-is_none+else-calls_for w ↦
          let e = read_atom q.atoms c.atoms-atoms.result.now i w.index-atoms-place.result c.atoms-atoms.ensures.atoms l w.index-atoms-place.is in
          let f : false ≡ true =
          sym w.if-calls_for.false ∙
          (w.calls_for.ensures links k).1 (subst (λ (ts : List Term). CallsFor t links ts) (sym (w.terms.ensures.terms ∙ ap (λ (b : Atom). b.terms) e)) a.calls) in
          cc
      | else-is_none-via-else-is_none w ↦ let e : false ≡ true = sym (ap is_some a.free) ∙ (c.is_none.ensures ∙ ap not w.if-is_none.false) in cc
    ])

pub returns-clause-none : goal.returns-clause-none
returns-clause-none c = λ links k e place a. c.loop-place.invariant links k place (omega (arith, a.within, c.requires.length)) a
