use Rattle.ucq_outside.proofs.Taken.{rose_in_one}
use Rattle.ucq_outside.proofs.laws.rose_in_one.Goals as goal

pub returns : goal.returns
returns c = rose_in_one
