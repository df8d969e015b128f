use Rattle.std.proofs.Common.{◌≡◌, ◌<◌, ◌∙◌, ℕ, length, get_or, true, false, sym, ap, arith, below_more}
use Rattle.std.proofs.lemmas.List.{get_or_default}
use Rattle.ucq_classes.specs.Numbers.{Numbers, width_of}
use Rattle.ucq_unify.specs.inner.Classes.{IsSpoilt}
use Rattle.ucq_unify.proofs.classes.has_spoilt.Goals.{else-index-via-then-index+else-is_spoilt, else-index-via-else-index}
use Rattle.ucq_unify.proofs.classes.has_spoilt.Goals as goal

pub loop-variable-preserved : goal.loop-variable-preserved
loop-variable-preserved c = λ links k.
    let flags = c.args.sides.now.existential.items in
    let i = c.loop-variable.variable in
    let wide = c.width-variable-end.ensures ∙ ap (λ (n : Numbers). width_of n 0) c.numbering.ensures.numbers in
    let l : i < length flags = omega (arith, c.requires.told.count) in
    below_more (λ (v : ℕ). get_or flags v false ≡ true → IsSpoilt c.args.sides.now.query.now c.args.classes.now.numbers links v → ⊥) i (c.loop-variable.invariant links k)
    (λ f s. elim c.else-index.branch [
      | else-index-via-then-index+else-is_spoilt w ↦ let e : false ≡ true = sym w.if-is_spoilt.false ∙ (w.is_spoilt.ensures links k).1 s in cc
      | else-index-via-else-index w ↦
          let e : false ≡ true = sym w.if-index.false ∙ (c.index.ensures ∙ (get_or_default flags i c.index.result.now false l ∙ f)) in cc
    ])

pub returns : goal.returns
returns c = λ links k. (
  λ e. cc,
  λ s.
      let wide = c.width-variable-end.ensures ∙ ap (λ (n : Numbers). width_of n 0) c.numbering.ensures.numbers in
      let b = s.below in
      absurd (c.loop-variable.invariant links k s.variable (omega (arith, c.requires.told.count)) s.flagged s.spoilt),
)
