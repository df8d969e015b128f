use Rattle.std.proofs.Common.{◌≡◌, ◌<◌, ◌≤◌, ℕ, take, Contains}
use Rattle.ucq_terms.specs.declared.Term.{Term}
use Rattle.ucq_terms.specs.declared.Term.TheVariants.{Variable}
use Rattle.ucq_classes.proofs.bounds.raise_all.Given as goal

abbrev pub invariant-loop-term : goal.invariant-loop-term
invariant-loop-term l = record {
  keeps : l.bound ≤ l.raised;
  covers : (t : Term) → Contains (take l.term-index l.terms) t → (v : ℕ) → t ≡ Variable v → v < l.raised;
  low : l.bound ≤ 4096 → l.raised ≤ 4096;
}
