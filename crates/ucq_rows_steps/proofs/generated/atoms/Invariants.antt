use Rattle.std.proofs.Common.{◌≡◌, vec_len}
use Rattle.ucq_rows_steps.proofs.generated.atoms.Given as goal

abbrev pub invariant-loop-made : goal.invariant-loop-made
invariant-loop-made l = vec_len l.atoms ≡ l._made
