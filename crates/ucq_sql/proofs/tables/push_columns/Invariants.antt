use Rattle.std.proofs.Common.{◌≡◌, ◌++◌}
use Rattle.ucq_sql.specs.Text.{columns_text}
use Rattle.ucq_sql.proofs.tables.push_columns.Given as goal

abbrev pub invariant-loop-place : goal.invariant-loop-place
invariant-loop-place l = l.text.items ≡ l.initial.text.items ++ columns_text l.place
