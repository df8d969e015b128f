use Rattle.std.proofs.Common.{ℕ, ◌<◌}
use Rattle.ucq_bans.specs.Verdicts.{RowMaps}
use Rattle.ucq_bans.proofs.judging.first_mapped.Given as goal

abbrev pub invariant-loop-row : goal.invariant-loop-row
invariant-loop-row l = (earlier : ℕ) → earlier < l.row → ¬ RowMaps l.store earlier l.facts
