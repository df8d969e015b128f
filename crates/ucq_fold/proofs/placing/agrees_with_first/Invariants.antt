use Rattle.std.proofs.Common.{◌≡◌, ◌<◌, ℕ, true, zip}
use Rattle.ucq_fold.specs.inner.Agreement.{all_agree}
use Rattle.ucq_fold.specs.inner.Placing.{visited}
use Rattle.ucq_fold.proofs.placing.agrees_with_first.Given as goal

abbrev pub invariant-loop-i : goal.invariant-loop-i
invariant-loop-i l =
    (k : ℕ) → k < l.i → all_agree (zip l.atom.terms l.image.terms) (zip (visited l.a l.order k).terms (visited l.b l.images k).terms) ≡ true
