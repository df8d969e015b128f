use Rattle.std.proofs.Common.{append_assoc}
use Rattle.ucq_run.proofs.reports.read_fault_line.Goals as goal

pub returns : goal.returns
returns c = let a = c.in_ok-line.ensures.ok in let b = c.into_bytes.ensures.value in rw b (simp append_assoc a)
