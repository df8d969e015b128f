use Rattle.std.proofs.Common.{◌≡◌, ◌<◌, ℕ, List, length, Contains, get_or, true, false, refl, sym, ap, ◌∙◌, subst, arith}
use Rattle.std.proofs.lemmas.List.Elements.{Contains-get_or}
use Rattle.ucq_terms.specs.Unifier.{constant, of_copy, AreJoined}
use Rattle.ucq_classes.specs.Numbers.{Numbers}
use Rattle.ucq_unify.proofs.Prefixes.{prefix_more, prefix_all}
use Rattle.ucq_unify.proofs.classes.meets_constant.Goals as goal

-- a constant that was read has a number
held : (n : Numbers) (ys : List ℕ) (k : ℕ) → ys ≡ n.constants → k < length ys → Contains n.constants (get_or ys k 0)
held n ys k e l = subst (λ (zs : List ℕ). Contains zs (get_or ys k 0)) e (Contains-get_or ys k 0 l)

pub same-requires-clause-y : goal.same-requires-clause-y
same-requires-clause-y c =
    held c.args.classes.now.numbers c.constants-constants.result.now c.loop-k.k
    (c.constants-constants.ensures.constants ∙ ap (λ (n : Numbers). n.constants) c.numbering.ensures.numbers) c.loop-k-test.true

pub returns-then-same : goal.returns-then-same
returns-then-same c = λ links k. (
  λ _. record {
    value = get_or c.constants-constants.result.now c.loop-k.k 0;
    held = held c.args.classes.now.numbers c.constants-constants.result.now c.loop-k.k
        (c.constants-constants.ensures.constants ∙ ap (λ (n : Numbers). n.constants) c.numbering.ensures.numbers) c.loop-k-test.true;
    joined = (c.same.ensures links k).0 c.if-same.true;
  },
  λ _. refl,
)

pub loop-k-preserved : goal.loop-k-preserved
loop-k-preserved c = λ links k.
    prefix_more (λ (x : ℕ). AreJoined links (of_copy 0 c.args.variable) (constant x) → ⊥) c.constants-constants.result.now c.loop-k.k 0 c.loop-k-test.true
    (c.loop-k.invariant links k) (λ j. let e : false ≡ true = sym c.if-same.false ∙ (c.same.ensures links k).1 j in cc)

pub returns : goal.returns
returns c = λ links k. (
  λ e. cc,
  λ m. absurd (prefix_all (λ (x : ℕ). AreJoined links (of_copy 0 c.args.variable) (constant x) → ⊥) c.constants-constants.result.now c.loop-k.k (omega arith)
      (c.loop-k.invariant links k) m.value
      (subst (λ (zs : List ℕ). Contains zs m.value) (sym (c.constants-constants.ensures.constants ∙ ap (λ (n : Numbers). n.constants) c.numbering.ensures.numbers)) m.held)
      m.joined),
)
