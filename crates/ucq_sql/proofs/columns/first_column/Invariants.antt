use Rattle.std.proofs.Common.{◌≡◌, drop}
use Rattle.ucq_sql.specs.Selects.{first_column, first_column_from}
use Rattle.ucq_sql.proofs.columns.first_column.Given as goal

abbrev pub invariant-loop-alias : goal.invariant-loop-alias
invariant-loop-alias l = first_column l.atoms l.term ≡ first_column_from l.alias (drop l.alias l.atoms) l.term
