use Rattle.std.proofs.Common.{◌≡◌, vec_len}
use Rattle.ucq_rows_steps.proofs.queries.different.Given as goal

abbrev pub invariant-loop-name : goal.invariant-loop-name
invariant-loop-name l = vec_len l.all ≡ l.name
