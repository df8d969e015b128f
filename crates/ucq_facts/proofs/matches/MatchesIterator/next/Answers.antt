use Rattle.std.proofs.Common.{◌<◌, ℕ, List, length, ap, subst, arith}
use Rattle.std.specs.List.{All}
use Rattle.std.proofs.lemmas.List.Elements.{All-tail}
use Rattle.ucq_terms.specs.Syntax.{Atom}
use Rattle.ucq_facts.proofs.Places.{left-first}
use Rattle.ucq_facts.proofs.matches.MatchesIterator.next.Goals as goal

pub invariant_of-self : goal.invariant_of-self
invariant_of-self c =
    let f = c.self.inside in
    All-tail (λ (p : ℕ). p < length f.atoms.now) c.in_ok-place.place.now c.in_ok-place.others.now
    (subst (λ (ps : List ℕ). All (λ p. p < length f.atoms.now) ps) c.in_ok-place.ensures.cases.0 c.self.invariant)

pub returns-clause-steps : goal.returns-clause-steps
returns-clause-steps c =
    left-first c.self.inside.atoms.now c.self.inside.places.now c.args.self.now c.in_ok-place.place.now c.in_ok-place.others.now c.index-self-place.result
    c.self.invariant c.self.view_is c.in_ok-place.ensures.cases.0

pub returns-clause-goes : goal.returns-clause-goes
returns-clause-goes c =
    let e = left-first c.self.inside.atoms.now c.self.inside.places.now c.args.self.now c.in_ok-place.place.now c.in_ok-place.others.now
    c.index-self-place.result c.self.invariant c.self.view_is c.in_ok-place.ensures.cases.0 in
    record { on = λ _. (tt, tt, omega (arith, ap (λ (xs : List Atom). length xs) e)); keeps = tt; rests = λ _. tt }
