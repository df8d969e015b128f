use Rattle.std.proofs.Common.{◌≤◌, ◌<◌, length, refl, ap, ◌∙◌, arith}
use Rattle.ucq_terms.specs.Syntax.{Problem}
use Rattle.ucq_pool.proofs.Found.{found_all, next_rule}
use Rattle.ucq_pool.proofs.rewritings.rewrite.Goals as goal

pub rewrite_with-requires : goal.rewrite_with-requires
rewrite_with-requires g c =
    let within : c.loop-place.place < length c.in_ok-numbers.numbers.items = omega (arith, c.len-place-end.ensures, c.loop-place-test.true) in
    let same_rules = c.rules.ensures.rules ∙ ap (λ (p : Problem). p.rules) c.problem.ensures in
    λ k. (
      (refl, tt),
      next_rule c.args.problem.now.rules c.rules.result.now c.in_ok-numbers.numbers.items c.as_slice.result.now c.loop-place.place c.args.query.now
          c.loop-place.candidates.items same_rules c.as_slice.ensures.value c.in_ok-numbers.ensures within c.loop-place.invariant.found,
    )

pub returns-clause-found : goal.returns-clause-found
returns-clause-found g c =
    let end : length c.in_ok-numbers.numbers.items ≤ c.loop-place.place = omega (arith, c.len-place-end.ensures, c.loop-place-test.false) in
    found_all c.args.problem.now.rules c.in_ok-numbers.numbers.items c.loop-place.place c.args.query.now _ c.in_ok-numbers.ensures end c.loop-place.invariant.found
