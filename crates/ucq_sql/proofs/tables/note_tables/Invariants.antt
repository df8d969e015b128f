use Rattle.std.proofs.Common.{◌≡◌, map, take}
use Rattle.ucq_sql.specs.Selects.{table_of, with_tables}
use Rattle.ucq_sql.proofs.tables.note_tables.Given as goal

abbrev pub invariant-loop-atom : goal.invariant-loop-atom
invariant-loop-atom l = l.tables.keys ≡ with_tables l.initial.tables.keys (map table_of (take l.atom-index l.atoms))
