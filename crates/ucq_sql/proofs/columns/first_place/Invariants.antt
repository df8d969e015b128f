use Rattle.std.proofs.Common.{◌≡◌, ℕ, ◌<◌, false, get_or}
use Rattle.ucq_terms.specs.declared.Term.{Term}
use Rattle.ucq_terms.specs.Numbering.{term_eq}
use Rattle.ucq_sql.proofs.columns.first_place.Given as goal

abbrev pub invariant-loop-place : goal.invariant-loop-place
invariant-loop-place l = (k : ℕ) (d : Term) → k < l.place → term_eq l.term (get_or l.terms k d) ≡ false
