use Rattle.std.proofs.Common.{◌≡◌, ◌++◌, map, take}
use Rattle.ucq_sql.specs.Selects.{output_of}
use Rattle.ucq_sql.specs.Text.{outputs_text}
use Rattle.ucq_sql.proofs.selects.push_answers.Given as goal

abbrev pub invariant-loop-place : goal.invariant-loop-place
invariant-loop-place l = l.text.items ≡ l.initial.text.items ++ outputs_text l.names (map (output_of l.atoms) (take l.place l.answers))
