use Rattle.std.proofs.Common.{ℕ, ◌<◌, get_or}
use Rattle.ucq_terms.specs.declared.Term.{Term}
use Rattle.ucq_within.specs.Minimal.{IsHeldWithout}
use Rattle.ucq_within.proofs.minimal.is_safe_without.Given as goal

abbrev pub invariant-loop-term : goal.invariant-loop-term
invariant-loop-term l = (k : ℕ) (d : Term) → k < l.term-index → IsHeldWithout l.query.atoms l.place (get_or l.term-items k d)
