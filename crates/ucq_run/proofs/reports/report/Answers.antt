use Rattle.std.proofs.Common.{inl, refl}
use Rattle.ucq_run.specs.declared.outcome.Outcome.TheVariants.{Finished, Cut, NoMemory, BadWords, ReadFault, TooLong, Refused, WriteFault}
use Rattle.ucq_run.proofs.Reported.{took_nothing, told_as_it_is, told_if_made}
use Rattle.ucq_run.proofs.reports.report.Goals as goal

pub returns-in-Finished-clause-reported : goal.returns-in-Finished-clause-reported
returns-in-Finished-clause-reported g c = told_as_it_is _ _ Finished _ c.in-Finished.is refl (inl (took_nothing (g.E.Sink.taken c.args.err.now) (g.E.Sink.faults c.args.err.now) (g.E.Sink.faults c.args.err.now)))

pub returns-in-Cut-clause-reported : goal.returns-in-Cut-clause-reported
returns-in-Cut-clause-reported g c = told_as_it_is _ _ Cut _ c.in-Cut.is refl (inl (took_nothing (g.E.Sink.taken c.args.err.now) (g.E.Sink.faults c.args.err.now) (g.E.Sink.faults c.args.err.now)))

pub returns-in-NoMemory-clause-reported : goal.returns-in-NoMemory-clause-reported
returns-in-NoMemory-clause-reported g c = told_as_it_is _ _ NoMemory _ c.in-NoMemory.is c.tell.ensures.status c.tell.ensures.line

pub returns-in-BadWords-clause-reported : goal.returns-in-BadWords-clause-reported
returns-in-BadWords-clause-reported g c = told_as_it_is _ _ BadWords _ c.in-BadWords.is c.tell-in-BadWords.ensures.status c.tell-in-BadWords.ensures.line

pub returns-in-ReadFault-clause-reported : goal.returns-in-ReadFault-clause-reported
returns-in-ReadFault-clause-reported g c = told_if_made _ _ (ReadFault c.in-ReadFault.file c.in-ReadFault.at) _ _ c.in-ReadFault.is c.read_fault_line.ensures c.tell_made.ensures.told

pub returns-in-TooLong-clause-reported : goal.returns-in-TooLong-clause-reported
returns-in-TooLong-clause-reported g c = told_if_made _ _ (TooLong c.in-TooLong.file) _ _ c.in-TooLong.is c.too_long_line.ensures c.tell_made-in-TooLong.ensures.told

pub returns-in-Refused-clause-reported : goal.returns-in-Refused-clause-reported
returns-in-Refused-clause-reported g c = told_if_made _ _ (Refused c.in-Refused.fault) _ _ c.in-Refused.is c.refused_line.ensures c.tell_made-in-Refused.ensures.told

pub returns-in-WriteFault-clause-reported : goal.returns-in-WriteFault-clause-reported
returns-in-WriteFault-clause-reported g c = told_as_it_is _ _ WriteFault _ c.in-WriteFault.is c.tell-in-WriteFault.ensures.status c.tell-in-WriteFault.ensures.line
