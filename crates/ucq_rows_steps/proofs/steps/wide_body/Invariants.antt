use Rattle.std.proofs.Common.{◌≡◌, vec_len}
use Rattle.ucq_rows_steps.proofs.steps.wide_body.Given as goal

abbrev pub invariant-loop-i : goal.invariant-loop-i
invariant-loop-i l = vec_len l.body ≡ l.i
