use Rattle.std.proofs.Common.{◌≡◌, vec_len}
use Rattle.ucq_rows_steps.proofs.pieces.pairs.Given as goal

abbrev pub invariant-loop-first : goal.invariant-loop-first
invariant-loop-first l = vec_len l.atoms ≡ l.first
