use Rattle.std.proofs.Common.{◌≡◌, ◌++◌, take}
use Rattle.ucq_sql.specs.Text.{values_text}
use Rattle.ucq_sql.proofs.tables.push_values.Given as goal

abbrev pub invariant-loop-place : goal.invariant-loop-place
invariant-loop-place l = l.text.items ≡ l.initial.text.items ++ values_text l.names (take l.place l.terms)
