use Rattle.std.proofs.Common.{◌≤◌, ◌+◌, take}
use Rattle.ucq_sql.specs.Selects.{row_conditions}
use Rattle.ucq_sql.proofs.Growing.{AreBehind}
use Rattle.ucq_sql.proofs.selects.push_row_conditions.Given as goal

abbrev pub invariant-loop-column : goal.invariant-loop-column
invariant-loop-column l = record {
  behind : AreBehind l.names l.initial.text.items l.before (row_conditions l.atoms l.alias (take l.column l.terms)) l.text.items l.count;
  few : l.count ≤ l.before + l.column;
}
