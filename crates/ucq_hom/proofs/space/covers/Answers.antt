use Rattle.std.proofs.Common.{◌≡◌, List, length, ◌∙◌, subst}
use Rattle.std.specs.List.{remove}
use Rattle.ucq_terms.specs.declared.Term.{Term}
use Rattle.ucq_terms.specs.Syntax.{Atom}
use Rattle.ucq_hom.specs.Space.{GivesHomomorphism}
use Rattle.ucq_hom.proofs.Homs.{remove_past}
use Rattle.ucq_hom.proofs.space.covers.Goals as goal

pub returns-clause-found : goal.returns-clause-found
returns-clause-found c = λ t.
    let whole : remove c.atoms-atoms.result.now (length c.atoms-atoms.result.now) ≡ c.args.to.now.atoms = remove_past c.atoms-atoms.result.now ∙ c.atoms-atoms.ensures.atoms in
    subst (λ (x : List Atom). GivesHomomorphism c.find.new.bindings.images c.args.from.now x c.args.to.now.answers) whole
    (subst (λ (x : List Term). GivesHomomorphism c.find.new.bindings.images c.args.from.now (remove c.atoms-atoms.result.now (length c.atoms-atoms.result.now)) x) c.answers.ensures.answers (c.find.ensures.found t))
