-- What was written over two calls.
use Rattle.std.proofs.Common.{◌≡◌, ◌≤◌, ◌++◌, ℕ, List, inr, refl, subst, sym}
use Rattle.std.proofs.lemmas.List.{append-nil}
use Rattle.std.specs.Prelude.{Option, Some, None, Result, Ok, Err}
use Rattle.ucq_outside.specs.Causes.{Rose}
use Rattle.ucq_outside.specs.Taken.{SinkChange, change_of, Follows, over_both, TookAll, TookPrefix}
use Rattle.ucq_outside.proofs.Taken.{all_then_all, all_then_prefix, prefix_of_more, rose_in_one}
use Rattle.ucq_run.specs.declared.writing.Unwritten.{Unwritten}
use Rattle.ucq_run.specs.declared.writing.Unwritten.TheVariants.{Failed, Memory}
use Rattle.ucq_run.specs.inner.Reading.{IsWritten}

-- a sink that was not touched took a prefix of any text
pub took_no_more : (taken : Option (List ℕ)) (faults : ℕ) (text : List ℕ) → TookPrefix (change_of taken taken faults faults) text
took_no_more None faults text = tt
took_no_more (Some bytes) faults text = (bytes, 0, refl, sym (append-nil bytes))

-- one call, and the next; no count of faults falls
pub record GoOn (first second : SinkChange) : Type 0 where
  pub follows : Follows first second
  pub later : first.faults_before ≤ first.faults_after
  pub later_still : second.faults_before ≤ second.faults_after

-- a text behind one that was taken whole
pub both_written : (first second : SinkChange) (one two : List ℕ) (answer : Result (Unit {0}) Unwritten) → GoOn first second → TookAll first one → IsWritten second two answer →
    IsWritten (over_both first second) (one ++ two) answer
both_written first second one two (Ok u) on took w = all_then_all first second one two on.follows took w
both_written first second one two (Err Failed) on took w = (
  rose_in_one first.faults_before first.faults_after second.faults_after on.later (subst (λ n. n ≤ second.faults_after) on.follows.faults on.later_still)
      (inr (subst (λ n. Rose n second.faults_after) on.follows.faults w.0)),
  all_then_prefix first second one two on.follows took w.1,
)
both_written first second one two (Err Memory) on took w = all_then_prefix first second one two on.follows took w

-- a text that wasn't written whole, with more behind it
pub unwritten_with_more : (sink : SinkChange) (one two : List ℕ) (e : Unwritten) → IsWritten sink one (Err e) → IsWritten sink (one ++ two) (Err e)
unwritten_with_more sink one two Failed w = (w.0, prefix_of_more sink one two w.1)
unwritten_with_more sink one two Memory w = prefix_of_more sink one two w

-- so a text that was left in its midst
pub left_in_midst : (first second : SinkChange) (done next rest whole : List ℕ) (e : Unwritten) → GoOn first second → TookAll first done → whole ≡ (done ++ next) ++ rest →
    IsWritten second next (Err e) → IsWritten (over_both first second) whole (Err e)
left_in_midst first second done next rest whole e on took is w =
    subst (λ text. IsWritten (over_both first second) text (Err e)) (sym is)
    (unwritten_with_more (over_both first second) (done ++ next) rest e (both_written first second done next (Err e) on took w))
