use Rattle.std.proofs.Common.{List, [], ◌∷◌, not, sym, ap, ◌∙◌, subst}
use Rattle.std.specs.List.{remove}
use Rattle.ucq_terms.specs.declared.Term.{Term}
use Rattle.ucq_terms.specs.Syntax.{Atom}
use Rattle.ucq_hom.specs.Bindings.{IsMatched, IsClash}
use Rattle.ucq_hom.specs.Search.{HasLowTerms, HasLowAtoms, ArePlaces, IsBlocked}
use Rattle.std.specs.Option.{IsSome}
use Rattle.ucq_hom.proofs.Matched.{the_value}
use Rattle.ucq_hom.proofs.Homs.{HasLowTerms-answers, HasLowAtoms-atoms, ArePlaces-one, none_by_clash, none_by_block}
use Rattle.ucq_hom.proofs.space.has_other_image.Goals as goal

pub match_terms-requires : goal.match_terms-requires
match_terms-requires c = subst HasLowTerms (sym c.answers.ensures.answers) (HasLowTerms-answers c.args.query.now c.answers.ensures.stored)

pub returns-then-not-match_terms-clause-none : goal.returns-then-not-match_terms-clause-none
returns-then-not-match_terms-clause-none c = λ _.
    let q = c.args.query.now in
    none_by_clash c.clear.new.self q (remove q.atoms c.args.place) q.answers c.clear.ensures
    (subst (λ (x : List Term). IsClash c.clear.new.self q.answers x) c.answers-2.ensures.answers
    (subst (λ (x : List Term). IsClash c.clear.new.self x c.answers-2.result.now) c.answers.ensures.answers (c.match_terms.ensures.clash c.if-not-match_terms.true)))

pub extend-requires-clause-places : goal.extend-requires-clause-places
extend-requires-clause-places c = subst (λ (x : List Atom). ArePlaces x (c.args.place ∷ [])) (sym c.atoms-atoms.ensures.atoms) (ArePlaces-one c.args.query.now.atoms c.args.place c.requires.within)

pub extend-requires-clause-low : goal.extend-requires-clause-low
extend-requires-clause-low c = subst HasLowAtoms (sym c.atoms-atoms.ensures.atoms) (HasLowAtoms-atoms c.args.query.now c.atoms-atoms.ensures.stored)

pub returns-clause-none : goal.returns-clause-none
returns-clause-none c = λ e.
    let q = c.args.query.now in
    let some : IsSome c.extend.result = c.is_none-found.ensures ∙ ap not e in
    let (set, is) = the_value some in
    none_by_block c.clear.new.self c.match_terms.new.bindings c.args.levels.now set q (c.args.place ∷ []) (remove q.atoms c.args.place) q.answers c.clear.ensures
    (subst (λ (x : List Term). IsMatched c.clear.new.self c.match_terms.new.bindings q.answers x) c.answers-2.ensures.answers
    (subst (λ (x : List Term). IsMatched c.clear.new.self c.match_terms.new.bindings x c.answers-2.result.now) c.answers.ensures.answers
    (c.match_terms.ensures.matched c.if-not-match_terms.false)))
    (ArePlaces-one q.atoms c.args.place c.requires.within)
    (subst (λ (x : List Atom). IsBlocked c.match_terms.new.bindings c.args.levels.now set x (c.args.place ∷ []) (remove x c.args.place)) c.atoms-atoms.ensures.atoms
    (c.extend.ensures.blocked set is))
