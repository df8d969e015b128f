use Rattle.std.proofs.Common.{◌≡◌, ◌∙◌, ◌++◌, ◌∷◌, [], ℕ, List, length, get_or, sym, ap, subst, inl, inr, arith}
use Rattle.std.proofs.lemmas.Bool.{cases_eq}
use Rattle.std.proofs.lemmas.List.{get_or_push, get_or_append_left}
use Rattle.ucq_partition.specs.Partition.{label_of}
use Rattle.ucq_terms.specs.declared.Term.{Term}
use Rattle.ucq_classes.specs.Numbers.{Numbers}
use Rattle.ucq_join.specs.inner.Naming.{name_by}
use Rattle.ucq_join.proofs.joined.names.Goals as goal

pub loop-number-preserved : goal.loop-number-preserved
loop-number-preserved c =
    let xs = c.loop-number.names.items in
    let v = c.args.classes.now in
    let i = c.loop-number.number in
    let before = c.loop-number.invariant in
    let long : length xs ≡ i = before.count in
    let pushed : c.push.new.self.items ≡ xs ++ c.name.result ∷ [] = c.in_ok-push.ensures.items in
    let constants : c.constants-constants.result.now ≡ v.numbers.constants = c.constants-constants.ensures.constants ∙ ap (λ (n : Numbers). n.constants) c.numbering.ensures.numbers in
    record {
      count = let n = c.in_ok-push.ensures.len in omega arith;
      each =
          λ k d l. subst (λ (ys : List Term). get_or ys k d ≡ name_by v.numbers.constants (label_of v.labels k)) (sym pushed) (elim (cases_eq k i) [
            | inl e ↦
                get_or_push xs c.name.result d k (long ∙ sym e) ∙
                (c.name.ensures ∙
                (ap (λ (ys : List ℕ). name_by ys c.label.result) constants ∙
                ap (name_by v.numbers.constants) (c.label.ensures ∙ ap (label_of v.labels) (sym e))))
            | inr ne ↦ get_or_append_left xs (c.name.result ∷ []) d k (omega arith) ∙ before.each k d (omega arith)
          ]);
    }
