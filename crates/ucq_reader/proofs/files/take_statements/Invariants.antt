use Rattle.std.proofs.Common.{length, ◌-◌}
use Rattle.ucq_reader.proofs.Taking.{IsTakenTo}
use Rattle.ucq_reader.proofs.files.take_statements.Given as goal

abbrev pub invariant-loop-place : goal.invariant-loop-place
invariant-loop-place l = IsTakenTo l.file l.text l.tokens l.place l.number l.declarations.items l.refusal l.fn.gathered l.gathered

abbrev pub decreases-loop-place : goal.decreases-loop-place
decreases-loop-place l = length l.tokens - l.place
