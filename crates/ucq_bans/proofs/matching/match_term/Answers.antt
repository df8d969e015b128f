use Rattle.std.proofs.Common.{◌<◌, ◌∷◌, [], length, sym, arith, subst}
use Rattle.ucq_terms.specs.declared.Term.{Term}
use Rattle.ucq_hom.specs.Bindings.{Bound, IsMatched, with_binding}
use Rattle.ucq_hom.proofs.Matched.{IsMatched-bind}
use Rattle.ucq_bans.proofs.matching.match_term.Goals as goal

pub returns-in-None-clause-matched : goal.returns-in-None-clause-matched
returns-in-None-clause-matched c = λ _.
    let b : Bound = c.args.bindings.now in
    let v = c.in-Variable.variable in
    let size = c.in-None.ensures.kept.room in
    let low = c.requires v c.in-Variable.is in
    let within : v < length b.images = omega arith in
    subst (λ (x : Bound). IsMatched b x (c.args.term ∷ []) (c.args.target ∷ [])) (sym c.bind.ensures)
    (subst (λ (t : Term). IsMatched b (with_binding b v c.args.target) (t ∷ []) (c.args.target ∷ [])) (sym c.in-Variable.is)
    (IsMatched-bind b v c.args.target within (sym c.in-None.ensures.image)))
