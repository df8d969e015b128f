use Rattle.std.proofs.Common.{◌≡◌, ◌++◌, take}
use Rattle.ucq_sql.specs.Text.{rows_text}
use Rattle.ucq_sql.proofs.tables.push_rows.Given as goal

abbrev pub invariant-loop-place : goal.invariant-loop-place
invariant-loop-place l = l.text.items ≡ l.initial.text.items ++ rows_text l.names (take l.place l.facts)
