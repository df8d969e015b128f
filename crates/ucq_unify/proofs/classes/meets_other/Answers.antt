use Rattle.std.proofs.Common.{◌≡◌, ◌≢◌, ◌<◌, ℕ, length, true, false, refl, sym, ap, ◌∙◌, subst, arith, below_more}
use Rattle.ucq_terms.specs.Unifier.{of_copy, AreJoined}
use Rattle.ucq_classes.specs.Numbers.{Numbers, width_of}
use Rattle.ucq_classes.proofs.Numbers.{copy_within}
use Rattle.ucq_unify.proofs.classes.meets_other.Goals.{else-other-variable-via-then-other-variable+else-same, else-other-variable-via-else-other-variable}
use Rattle.ucq_unify.proofs.classes.meets_other.Goals as goal

pub width-other-end-requires : goal.width-other-end-requires
width-other-end-requires c =
    subst (λ (n : Numbers). 0 < length n.widths) (sym c.numbering.ensures.numbers) (copy_within c.args.classes.now.numbers 0 c.args.variable c.requires)

pub same-requires-clause-y : goal.same-requires-clause-y
same-requires-clause-y c = let wide = c.width-other-end.ensures ∙ ap (λ (n : Numbers). width_of n 0) c.numbering.ensures.numbers in omega arith

pub returns-then-same : goal.returns-then-same
returns-then-same c = λ links k.
    let wide = c.width-other-end.ensures ∙ ap (λ (n : Numbers). width_of n 0) c.numbering.ensures.numbers in
    let n = c.if-other-variable.true in (
      λ _. record { other = c.loop-other.other; below = omega arith; differs = λ e. n (sym e); joined = (c.same.ensures links k).0 c.if-same.true },
      λ _. refl,
    )

pub loop-other-preserved : goal.loop-other-preserved
loop-other-preserved c = λ links k.
    below_more (λ (w : ℕ). c.args.variable ≢ w → AreJoined links (of_copy 0 c.args.variable) (of_copy 0 w) → ⊥) c.loop-other.other (c.loop-other.invariant links k)
    (λ f j. elim c.else-other-variable.branch [
      | else-other-variable-via-then-other-variable+else-same w ↦ let e : false ≡ true = sym w.if-same.false ∙ (w.same.ensures links k).1 j in cc
      | else-other-variable-via-else-other-variable w ↦ f (sym w.if-other-variable.false)
    ])

pub returns : goal.returns
returns c = λ links k. (
  λ e. cc,
  λ m.
      let wide = c.width-other-end.ensures ∙ ap (λ (n : Numbers). width_of n 0) c.numbering.ensures.numbers in
      let b = m.below in
      absurd (c.loop-other.invariant links k m.other (omega arith) m.differs m.joined),
)
