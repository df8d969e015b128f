use Rattle.std.proofs.Common.{◌≡◌, vec_len}
use Rattle.ucq_worked.proofs.queries.Given as goal

abbrev pub invariant-loop-text : goal.invariant-loop-text
invariant-loop-text l = vec_len l.all ≡ l.text-index
