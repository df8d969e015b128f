use Rattle.std.proofs.Common.{◌≤◌, ◌*◌, take}
use Rattle.ucq_sql.specs.Selects.{conditions_in}
use Rattle.ucq_sql.proofs.Growing.{AreBehind}
use Rattle.ucq_sql.proofs.selects.push_conditions.Given as goal

abbrev pub invariant-loop-alias : goal.invariant-loop-alias
invariant-loop-alias l = record {
  behind : AreBehind l.names l.initial.text.items 0 (conditions_in l.atoms (take l.alias l.atoms)) l.text.items l.count;
  few : l.count ≤ 16 * l.alias;
}
