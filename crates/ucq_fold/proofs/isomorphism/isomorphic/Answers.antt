use Rattle.std.proofs.Common.{◌≡◌, ◌∙◌, true, length, sym, ap, IsTrue}
use Rattle.ucq_fold.proofs.Renamings.{Covers-forth, Covers-back, length-isomorphic}
use Rattle.ucq_fold.proofs.isomorphism.isomorphic.Goals as goal
use Rattle.ucq_fold.proofs.isomorphism.isomorphic.Goals.{then-atoms, else-atoms, then-covers, else-covers}

pub returns-else-equivalent-clause-isomorphic : goal.returns-else-equivalent-clause-isomorphic
returns-else-equivalent-clause-isomorphic c = (
  λ e. let no' = c.if-equivalent.false in cc,
  λ i.
      let a = c.args.a.now in
      let b = c.args.b.now in
      let size : length c.atoms.result.now ≡ length c.atoms-2.result.now =
      ap length c.atoms.ensures.atoms ∙
      (length-isomorphic a b c.atoms.ensures.stored.once c.atoms-2.ensures.stored.once i ∙ sym (ap length c.atoms-2.ensures.atoms)) in
      let forth : c.if-atoms.value ≡ true = elim c.if-atoms.branch [
        | then-atoms w ↦ let yes' : IsTrue w.covers.result = w.covers.ensures.covers.1 (Covers-forth a b i) in w.value-is ∙ yes'
        | else-atoms w ↦ let n = w.if-atoms.false in absurd (n size)
      ] in
      elim c.if-covers.branch [
        | then-covers w ↦ let yes' : IsTrue w.covers-equivalent.result = w.covers-equivalent.ensures.covers.1 (Covers-back a b i) in w.equivalent-is ∙ yes'
        | else-covers w ↦ let n = w.if-covers.false in cc
      ],
)
