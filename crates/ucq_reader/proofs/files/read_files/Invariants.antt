use Rattle.ucq_reader.specs.Outcome.{texts}
use Rattle.ucq_reader.proofs.InTurn.{IsReadTo}
use Rattle.ucq_reader.proofs.files.read_files.Given as goal

abbrev pub invariant-loop-file : goal.invariant-loop-file
invariant-loop-file l = IsReadTo (texts l.files) l.file l.gathered
