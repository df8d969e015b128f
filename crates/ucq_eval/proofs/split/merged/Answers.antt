use Rattle.std.proofs.Common.{inl, inr}
use Rattle.std.proofs.lemmas.Result.{IfOk-weaker}
use Rattle.ucq_eval.proofs.split.merged.Goals as goal

-- the smaller set, which is the left one, went into the right one
pub returns-then-len : goal.returns-then-len
returns-then-len c =
    IfOk-weaker c.put_into.result _ _
    (λ all h. record {
      left = c.in_ok-left.left;
      left_was = c.in_ok-left.was;
      right = c.in_ok-right.right;
      right_was = c.in_ok-right.was;
      each = λ tuple. (
        λ i. elim ((h.each tuple).0 i) [ inl j ↦ inr j | inr j ↦ inl j ],
        λ i. elim i [ inl j ↦ (h.each tuple).1 (inr j) | inr j ↦ (h.each tuple).1 (inl j) ],
      );
    })
    c.put_into.ensures
