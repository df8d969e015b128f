use Rattle.std.proofs.Common.{◌≡◌, ◌<◌, ℕ, List, length, get_or, Contains, refl, sym, subst, arith}
use Rattle.std.proofs.lemmas.List.Elements.{Contains-get_or}
use Rattle.ucq_terms.specs.declared.Term.{Term}
use Rattle.ucq_terms.specs.declared.Term.TheVariants.{Constant, Variable}
use Rattle.ucq_terms.specs.Unifier.{of_query, of_copy, AreJoined}
use Rattle.ucq_unify.proofs.Prefixes.{prefix_more, prefix_all}
use Rattle.ucq_unify.proofs.classes.meets_answer.Goals as goal

-- a variable that was read is one of the answers
among : (xs ys : List Term) (i u : ℕ) → xs ≡ ys → i < length xs → get_or xs i (Constant 0) ≡ Variable u → Contains ys (Variable u)
among xs ys i u e l f =
    subst (λ (zs : List Term). Contains zs (Variable u)) e (subst (λ (s : Term). Contains xs s) f (Contains-get_or xs i (Constant 0) l))

pub is_joined-requires-clause-term : goal.is_joined-requires-clause-term
is_joined-requires-clause-term c = λ u e.
    c.requires.answers.low u (among c.answers-term-items.result.now c.args.query.now.answers c.loop-term.term-index u c.answers-term-items.ensures.answers c.loop-term-test.true e)

pub returns-then-is_joined : goal.returns-then-is_joined
returns-then-is_joined c = λ links k.
    let (u, e, f) = c.is_joined.ensures.joined c.if-is_joined.true in
    let i = among c.answers-term-items.result.now c.args.query.now.answers c.loop-term.term-index u c.answers-term-items.ensures.answers c.loop-term-test.true e in
    (λ _. record { answer = u; held = i; joined = f links k }, λ _. refl)

pub loop-term-preserved : goal.loop-term-preserved
loop-term-preserved c = λ links k.
    prefix_more (λ (s : Term). (u : ℕ) → s ≡ Variable u → AreJoined links (of_copy 0 c.args.variable) (of_query u) → ⊥) c.answers-term-items.result.now
    c.loop-term.term-index (Constant 0) c.loop-term-test.true (c.loop-term.invariant links k)
    (λ u e j. c.is_joined.ensures.apart c.if-is_joined.false u e links k j)

pub returns : goal.returns
returns c = λ links k. (
  λ e. cc,
  λ m. absurd (prefix_all (λ (s : Term). (u : ℕ) → s ≡ Variable u → AreJoined links (of_copy 0 c.args.variable) (of_query u) → ⊥)
      c.answers-term-items.result.now c.loop-term.term-index (omega arith) (c.loop-term.invariant links k) (Variable m.answer)
      (subst (λ (zs : List Term). Contains zs (Variable m.answer)) (sym c.answers-term-items.ensures.answers) m.held) m.answer refl m.joined),
)
