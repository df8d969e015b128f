use Rattle.std.proofs.Common.{◌≡◌, ◌++◌, map, take}
use Rattle.ucq_sql.specs.Selects.{table_of}
use Rattle.ucq_sql.specs.Text.{from_text}
use Rattle.ucq_sql.specs.Laws.{AreSmall}
use Rattle.ucq_sql.proofs.selects.push_from.Given as goal

abbrev pub invariant-loop-alias : goal.invariant-loop-alias
invariant-loop-alias l = record {
  text : l.text.items ≡ l.initial.text.items ++ from_text l.names (map table_of (take l.alias l.atoms));
  small : AreSmall (take l.alias l.atoms);
}
