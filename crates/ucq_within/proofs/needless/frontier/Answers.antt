use Rattle.std.proofs.Common.{◌≡◌, List, ℕ, [], take, get_or, length, ap, ◌∙◌, subst, ◌<◌}
use Rattle.ucq_terms.specs.declared.Term.{Term}
use Rattle.ucq_terms.specs.Syntax.{Atom}
use Rattle.ucq_terms.specs.Numbering.{terms_of}
use Rattle.ucq_within.specs.inner.Frontier.{with_frontier}
use Rattle.ucq_within.proofs.Collected.{next_atom}
use Rattle.ucq_within.proofs.needless.frontier.Goals as goal

pub loop-atom-preserved : goal.loop-atom-preserved
loop-atom-preserved c =
    let body = c.args.rule.now.body in
    let heads = c.args.rule.now.heads in
    let i = c.loop-atom.atom-index in
    let a = c.atom-item.result in
    let within : i < length heads = subst (λ (xs : List Atom). i < length xs) c.heads-atom-items.ensures.heads c.loop-atom-test.true in
    let here : a ≡ get_or heads i a = c.atom-item.is ∙ ap (λ (xs : List Atom). get_or xs i a) c.heads-atom-items.ensures.heads in
    c.in_ok-note_terms.ensures ∙
    (ap (λ (b : List Atom). with_frontier b c.loop-atom.frontier.keys c.terms.result.now) c.body.ensures.body ∙
    (ap (λ (order : List ℕ). with_frontier body order c.terms.result.now) c.loop-atom.invariant ∙
    (ap (λ (ts : List Term). with_frontier body (with_frontier body [] (terms_of (take i heads))) ts) (c.terms.ensures.terms ∙ ap (λ (b : Atom). b.terms) here) ∙
    next_atom body [] heads i a within)))
