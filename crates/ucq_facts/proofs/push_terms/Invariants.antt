use Rattle.ucq_facts.specs.Index.{IsPushedBefore}
use Rattle.ucq_facts.proofs.push_terms.Given as goal

abbrev pub invariant-loop-place : goal.invariant-loop-place
invariant-loop-place l = IsPushedBefore l.initial.by_term l.atom l.place l.number l.by_term
