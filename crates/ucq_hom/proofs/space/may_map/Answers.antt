use Rattle.std.proofs.Common.{List, sym, subst}
use Rattle.ucq_terms.specs.declared.Term.{Term}
use Rattle.ucq_terms.specs.Syntax.{Atom, IsSubset, atoms_image}
use Rattle.ucq_hom.specs.Bindings.{IsMatched, IsClash}
use Rattle.ucq_hom.specs.Search.{HasLowTerms, HasLowAtoms}
use Rattle.ucq_hom.proofs.Homs.{HasLowTerms-answers, HasLowAtoms-atoms, none_by_clash, none_by_images}
use Rattle.ucq_hom.proofs.space.may_map.Goals as goal

pub match_terms-requires : goal.match_terms-requires
match_terms-requires c = subst HasLowTerms (sym c.answers.ensures.answers) (HasLowTerms-answers c.args.from.now c.answers.ensures.stored)

pub returns-then-not-match_terms-clause-none : goal.returns-then-not-match_terms-clause-none
returns-then-not-match_terms-clause-none c = λ _.
    let q = c.args.from.now in
    let to = c.args.to.now in
    none_by_clash c.clear.new.self q to.atoms to.answers c.clear.ensures
    (subst (λ (x : List Term). IsClash c.clear.new.self q.answers x) c.answers-2.ensures.answers
    (subst (λ (x : List Term). IsClash c.clear.new.self x c.answers-2.result.now) c.answers.ensures.answers (c.match_terms.ensures.clash c.if-not-match_terms.true)))

pub have_images-found-requires : goal.have_images-found-requires
have_images-found-requires c = subst HasLowAtoms (sym c.atoms.ensures.atoms) (HasLowAtoms-atoms c.args.from.now c.atoms.ensures.stored)

pub returns-clause-none : goal.returns-clause-none
returns-clause-none c = λ e.
    let q = c.args.from.now in
    let to = c.args.to.now in
    none_by_images c.clear.new.self c.match_terms.new.bindings q to.atoms to.answers c.clear.ensures
    (subst (λ (x : List Term). IsMatched c.clear.new.self c.match_terms.new.bindings q.answers x) c.answers-2.ensures.answers
    (subst (λ (x : List Term). IsMatched c.clear.new.self c.match_terms.new.bindings x c.answers-2.result.now) c.answers.ensures.answers
    (c.match_terms.ensures.matched c.if-not-match_terms.false)))
    (λ h extends s. c.have_images-found.ensures.none e h extends
    (subst (λ (ys : List Atom). IsSubset (atoms_image h c.atoms.result.now) ys) (sym c.atoms-2.ensures.atoms)
    (subst (λ (xs : List Atom). IsSubset (atoms_image h xs) to.atoms) (sym c.atoms.ensures.atoms) s)))
