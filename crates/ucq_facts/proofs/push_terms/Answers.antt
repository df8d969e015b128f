use Rattle.std.proofs.Common.{◌≡◌, ℕ, List, length, ap, subst, arith}
use Rattle.ucq_terms.specs.declared.Term.{Term}
use Rattle.ucq_facts.specs.Index.{IsPushedBefore}
use Rattle.ucq_facts.proofs.Pushed.{IsPushedBefore-none, IsPushedBefore-next, IsPushedBefore-keeps}
use Rattle.ucq_facts.proofs.push_terms.Goals as goal

pub loop-place-init : goal.loop-place-init
loop-place-init c = IsPushedBefore-none c.args.by_term.now c.args.atom.now c.args.number

pub loop-place-preserved : goal.loop-place-preserved
loop-place-preserved c =
    IsPushedBefore-next c.args.by_term.now c.loop-place.by_term c.push.new.self c.args.atom.now c.loop-place.place c.args.number c.of.result
    c.of.ensures.at c.of.ensures.place c.loop-place.invariant c.in-Ok.ensures.pushed

pub returns-clause-pushed : goal.returns-clause-pushed
returns-clause-pushed c =
    let e = ap (λ (ts : List Term). length ts) c.terms.ensures.terms in
    let l : c.loop-place.place ≡ length c.args.atom.now.terms = omega (arith, e, c.loop-place-test.false, c.loop-place.auto.place-end) in
    subst (λ (n : ℕ). IsPushedBefore c.args.by_term.now c.args.atom.now n c.args.number c.loop-place.by_term) l c.loop-place.invariant

pub returns-in-Err-clause-err : goal.returns-in-Err-clause-err
returns-in-Err-clause-err c =
    c.pop_terms.ensures c.args.by_term.now c.args.number
    (IsPushedBefore-keeps c.args.by_term.now c.loop-place.by_term c.push.new.self c.args.atom.now c.loop-place.place c.args.number c.loop-place.invariant
    c.in-Err.ensures.err)
