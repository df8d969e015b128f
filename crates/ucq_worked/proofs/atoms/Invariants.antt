use Rattle.std.proofs.Common.{◌≤◌, vec_len}
use Rattle.ucq_worked.proofs.atoms.Given as goal

abbrev pub invariant-loop-word : goal.invariant-loop-word
invariant-loop-word l = vec_len l.all ≤ 1000
