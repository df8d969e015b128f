use Rattle.ucq_run.proofs.Written.{took_no_more}
use Rattle.ucq_run.proofs.writing.write_made.Goals as goal

pub returns-in-Err-clause-written : goal.returns-in-Err-clause-written
returns-in-Err-clause-written g c = λ text made. took_no_more (g.K.Sink.taken c.args.sink.now) (g.K.Sink.faults c.args.sink.now) text
