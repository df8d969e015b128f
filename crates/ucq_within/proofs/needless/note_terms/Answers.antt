use Rattle.std.proofs.Common.{ℕ, List, [], ◌∷◌, get_or, ap, ◌∙◌}
use Rattle.ucq_terms.specs.declared.Term.{Term}
use Rattle.ucq_terms.specs.declared.Term.TheVariants.{Constant}
use Rattle.ucq_within.specs.inner.Frontier.{with_frontier}
use Rattle.ucq_within.proofs.Collected.{next_term}
use Rattle.ucq_within.proofs.needless.note_terms.Goals as goal

pub loop-term-preserved : goal.loop-term-preserved
loop-term-preserved c =
    let body = c.args.body.now in
    let first = c.args.frontier.now.keys in
    let terms = c.args.terms.now in
    let i = c.loop-term.term-index in
    let d : Term = Constant 0 in
    c.in_ok-note_term.ensures ∙ (ap (λ (order : List ℕ). with_frontier body order (get_or terms i d ∷ [])) c.loop-term.invariant ∙ next_term body first terms i d c.loop-term-test.true)
