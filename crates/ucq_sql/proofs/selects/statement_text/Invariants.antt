use Rattle.std.proofs.Common.{◌≡◌, All, take}
use Rattle.ucq_sql.specs.Selects.{statement_of}
use Rattle.ucq_sql.specs.Text.{selects_text}
use Rattle.ucq_sql.specs.Laws.{PrintsHeld}
use Rattle.ucq_sql.proofs.selects.statement_text.Given as goal

abbrev pub invariant-loop-place : goal.invariant-loop-place
invariant-loop-place l = record {
  text : l.text.items ≡ selects_text l.names (statement_of (take l.place l.union));
  printed : All (PrintsHeld l.names) (take l.place l.union);
}
