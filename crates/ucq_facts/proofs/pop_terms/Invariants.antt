use Rattle.std.proofs.Common.{ℕ, ◌≤◌}
use Rattle.ucq_facts.specs.declared.postings.Postings.{Postings}
use Rattle.ucq_facts.specs.declared.keys.Position.{Position}
use Rattle.ucq_facts.specs.Index.{IsPushedBefore}
use Rattle.ucq_facts.proofs.pop_terms.Given as goal

abbrev pub invariant-loop-place : goal.invariant-loop-place
invariant-loop-place l = record {
  below : l.place ≤ l.count;
  left : (first : Postings Position) (number : ℕ) → IsPushedBefore first l.atom l.count number l.initial.by_term → IsPushedBefore first l.atom l.place number l.by_term;
}

abbrev pub decreases-loop-place : goal.decreases-loop-place
decreases-loop-place l = l.place
