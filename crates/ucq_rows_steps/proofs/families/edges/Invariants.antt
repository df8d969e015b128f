use Rattle.std.proofs.Common.{◌≡◌, vec_len}
use Rattle.ucq_rows_steps.proofs.families.edges.Given as goal

abbrev pub invariant-loop-place : goal.invariant-loop-place
invariant-loop-place l = vec_len l.atoms ≡ l.place
