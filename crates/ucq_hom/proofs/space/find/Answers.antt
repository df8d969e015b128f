use Rattle.std.proofs.Common.{List, sym, subst}
use Rattle.std.specs.List.{remove}
use Rattle.ucq_terms.specs.declared.Term.{Term}
use Rattle.ucq_terms.specs.Syntax.{Atom}
use Rattle.ucq_hom.specs.Bindings.{IsMatched, IsClash}
use Rattle.ucq_hom.specs.Search.{HasLowTerms, HasLowAtoms, IsOrder, IsMappedFurther, IsBlocked}
use Rattle.std.specs.Option.{IsSome}
use Rattle.ucq_hom.proofs.Matched.{no_value, the_value}
use Rattle.ucq_hom.proofs.Homs.{HasLowTerms-answers, HasLowAtoms-atoms, GivesHomomorphism-found, none_by_clash, none_by_block}
use Rattle.ucq_hom.proofs.space.find.Goals as goal

pub match_terms-requires : goal.match_terms-requires
match_terms-requires c = subst HasLowTerms (sym c.answers.ensures.answers) (HasLowTerms-answers c.args.from.now c.answers.ensures.stored)

pub returns-then-not-match_terms-clause-none : goal.returns-then-not-match_terms-clause-none
returns-then-not-match_terms-clause-none c = λ _.
    none_by_clash c.clear.new.self c.args.from.now (remove c.args.to.now c.args.skip) c.args.answers.now c.clear.ensures
    (subst (λ (x : List Term). IsClash c.clear.new.self x c.args.answers.now) c.answers.ensures.answers (c.match_terms.ensures.clash c.if-not-match_terms.true))

pub extend-requires-clause-low : goal.extend-requires-clause-low
extend-requires-clause-low c = subst HasLowAtoms (sym c.atoms-atoms.ensures.atoms) (HasLowAtoms-atoms c.args.from.now c.atoms-atoms.ensures.stored)

pub returns-then-is_none-clause-found : goal.returns-then-is_none-clause-found
returns-then-is_none-clause-found c = λ _.
    let q = c.args.from.now in
    let targets = remove c.args.to.now c.args.skip in
    let order = c.order_atoms.new.order in
    GivesHomomorphism-found c.clear.new.self c.match_terms.new.bindings c.extend.new.bindings q order targets c.args.answers.now c.clear.ensures
    (subst (λ (x : List Term). IsMatched c.clear.new.self c.match_terms.new.bindings x c.args.answers.now) c.answers.ensures.answers
    (c.match_terms.ensures.matched c.if-not-match_terms.false))
    (subst (λ (x : List Atom). IsOrder x order) c.atoms-atoms.ensures.atoms c.order_atoms.ensures)
    (subst (λ (x : List Atom). IsMappedFurther c.match_terms.new.bindings c.extend.new.bindings x order targets) c.atoms-atoms.ensures.atoms
    (c.extend.ensures.found (no_value c.extend.result (λ s. let a = c.is_none.ensures in let b = c.if-is_none.true in cc))))

pub returns-clause-none : goal.returns-clause-none
returns-clause-none c = λ _.
    let q = c.args.from.now in
    let targets = remove c.args.to.now c.args.skip in
    let order = c.order_atoms.new.order in
    let some : IsSome c.extend.result = let a = c.is_none.ensures in let b = c.if-is_none.false in cc in
    let (set, is) = the_value some in
    none_by_block c.clear.new.self c.match_terms.new.bindings c.note_since.new.levels set q order targets c.args.answers.now c.clear.ensures
    (subst (λ (x : List Term). IsMatched c.clear.new.self c.match_terms.new.bindings x c.args.answers.now) c.answers.ensures.answers
    (c.match_terms.ensures.matched c.if-not-match_terms.false))
    (subst (λ (x : List Atom). IsOrder x order) c.atoms-atoms.ensures.atoms c.order_atoms.ensures).places
    (subst (λ (x : List Atom). IsBlocked c.match_terms.new.bindings c.note_since.new.levels set x order targets) c.atoms-atoms.ensures.atoms
    (c.extend.ensures.blocked set is))
