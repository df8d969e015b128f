use Rattle.std.proofs.Common.{◌≤◌, ℕ, List, length, map, sym, ap₂, ◌∙◌, subst, arith}
use Rattle.ucq_terms.specs.declared.Term.TheVariants.{Variable}
use Rattle.ucq_terms.specs.Syntax.{Atom, Query, IsSafe}
use Rattle.ucq_terms.specs.Numbering.{normal_query}
use Rattle.ucq_within.specs.Needless.{frontier_of}
use Rattle.ucq_within.proofs.Collected.{head_is_safe, body_is_safe}
use Rattle.ucq_within.proofs.needless.rule_queries.Goals as goal

pub asked_for-requires-clause-safe : goal.asked_for-requires-clause-safe
asked_for-requires-clause-safe c =
    let rule = c.args.rule.now in
    let variables = sym (c.as_slice.ensures.keys ∙ c.in_ok-frontier.ensures) in
    let atoms = sym c.heads.ensures.heads in
    subst (λ (xs : List Atom). IsSafe (record { answers = map Variable c.as_slice.result.now; atoms = xs })) atoms
    (subst (λ (vs : List ℕ). IsSafe (record { answers = map Variable vs; atoms = rule.heads })) variables (head_is_safe rule c.heads.ensures.kept.some_heads))

pub asked_for-requires-2-clause-safe : goal.asked_for-requires-2-clause-safe
asked_for-requires-2-clause-safe c =
    let rule = c.args.rule.now in
    let variables = sym (c.as_slice-2.ensures.keys ∙ c.in_ok-frontier.ensures) in
    let atoms = sym c.body.ensures.body in
    subst (λ (xs : List Atom). IsSafe (record { answers = map Variable c.as_slice-2.result.now; atoms = xs })) atoms
    (subst (λ (vs : List ℕ). IsSafe (record { answers = map Variable vs; atoms = rule.body })) variables (body_is_safe rule c.body.ensures.kept.some_body))

pub returns : goal.returns
returns c =
    let asked : List ℕ → List Atom → Query = λ vs atoms. normal_query (record { answers = map Variable vs; atoms = atoms }) in
    let few : length (frontier_of c.args.rule.now) ≤ 16 = subst (λ (vs : List ℕ). length vs ≤ 16) c.in_ok-frontier.ensures (omega (arith, c.if-len-gt16.false, c.len.ensures.len)) in (
      few,
      c.in_ok-head.ensures ∙ ap₂ asked (c.as_slice.ensures.keys ∙ c.in_ok-frontier.ensures) c.heads.ensures.heads,
      c.in_ok-body.ensures ∙ ap₂ asked (c.as_slice-2.ensures.keys ∙ c.in_ok-frontier.ensures) c.body.ensures.body,
    )
