use Rattle.std.proofs.Common.{rules}
use Rattle.ucq_run.proofs.Told.{goes_on}
use Rattle.ucq_run.proofs.writing.write_line.Goals as goal

pub loop-done-preserved : goal.loop-done-preserved
loop-done-preserved g c = record {
  taken = goes_on _ _ _ _ c.loop-done.done c.in_ok-done.field-0 c.loop-done.invariant.taken (c.in_ok-done.ensures.taken);
  later = search rules;
  within = search rules;
}
