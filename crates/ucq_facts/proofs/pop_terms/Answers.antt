use Rattle.std.proofs.Common.{◌≡◌, ℕ, ◌+◌, ◌-◌, subst, arith}
use Rattle.ucq_facts.specs.Index.{IsPushedBefore}
use Rattle.ucq_facts.proofs.Pushed.{IsPushedBefore-back, IsPushedBefore-kept}
use Rattle.ucq_facts.proofs.pop_terms.Goals as goal

pub returns : goal.returns
returns c = λ first number before.
    let none : c.loop-place.place ≡ 0 = omega arith in
    IsPushedBefore-kept first c.loop-place.by_term c.args.atom.now number
    (subst (λ (n : ℕ). IsPushedBefore first c.args.atom.now n number c.loop-place.by_term) none (c.loop-place.invariant.left first number before))

pub loop-place-preserved : goal.loop-place-preserved
loop-place-preserved c = record {
  below = omega (arith, c.loop-place.invariant.below);
  left = λ first number before.
      let one : c.loop-place.place ≡ c.loop-place.place - 1 + 1 = omega arith in
      IsPushedBefore-back first c.loop-place.by_term c.pop.new.self c.args.atom.now (c.loop-place.place - 1) number c.of.result c.of.ensures.at c.of.ensures.place
      (subst (λ (n : ℕ). IsPushedBefore first c.args.atom.now n number c.loop-place.by_term) one (c.loop-place.invariant.left first number before)) c.pop.ensures;
}
