use Rattle.std.proofs.Common.{◌≡◌, ℕ, Contains, true, false, refl, sym, ◌∙◌, subst, arith}
use Rattle.std.proofs.lemmas.List.Elements.{Contains-get_or}
use Rattle.ucq_terms.specs.declared.Term.{Term}
use Rattle.ucq_terms.specs.declared.Term.TheVariants.{Constant, Variable}
use Rattle.ucq_unify.specs.inner.Classes.{IsFlaggedPrivate}
use Rattle.ucq_unify.proofs.Prefixes.{prefix_more, prefix_all}
use Rattle.ucq_unify.proofs.classes.calls_for.Goals.{in-Variable+else-is_private, in_default}
use Rattle.ucq_unify.proofs.classes.calls_for.Goals as goal

pub is_private-requires-clause-below : goal.is_private-requires-clause-below
is_private-requires-clause-below c = c.requires.below c.in-Variable.variable
    (subst (λ (s : Term). Contains c.args.terms.now s) c.in-Variable.is (Contains-get_or c.args.terms.now c.loop-term.term-index (Constant 0) c.loop-term-test.true))

pub loop-term-preserved : goal.loop-term-preserved
loop-term-preserved c = λ links k.
    let t = c.args.sides.now.existential.items in
    prefix_more (λ (s : Term). (u : ℕ) → s ≡ Variable u → IsFlaggedPrivate t links u → ⊥) c.args.terms.now c.loop-term.term-index (Constant 0)
    c.loop-term-test.true (c.loop-term.invariant links k)
    (λ u e p. elim c.match-term.branch [
      | in-Variable+else-is_private w ↦
          let s = sym w.in-Variable.is ∙ e in
          let d : w.in-Variable.variable ≡ u = cc in
          let f : false ≡ true =
          sym w.if-is_private.false ∙ (w.is_private.ensures links k).1 (subst (λ (n : ℕ). IsFlaggedPrivate t links n) (sym d) p) in cc
      | in_default w ↦ let s = sym w.in_default.is ∙ e in cc
    ])

pub returns : goal.returns
returns c = λ links k. (
  λ e. cc,
  λ m. absurd (prefix_all (λ (s : Term). (u : ℕ) → s ≡ Variable u → IsFlaggedPrivate c.args.sides.now.existential.items links u → ⊥) c.args.terms.now c.loop-term.term-index
      (omega arith) (c.loop-term.invariant links k) (Variable m.variable) m.there m.variable refl m.private_variable),
)
