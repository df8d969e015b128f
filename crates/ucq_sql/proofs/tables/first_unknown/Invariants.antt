use Rattle.std.proofs.Common.{take}
use Rattle.ucq_sql.specs.Tables.{AreOfConstants}
use Rattle.ucq_sql.proofs.tables.first_unknown.Given as goal

abbrev pub invariant-loop-place : goal.invariant-loop-place
invariant-loop-place l = AreOfConstants (take l.place l.facts)
