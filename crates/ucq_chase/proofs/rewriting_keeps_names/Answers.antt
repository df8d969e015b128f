use Rattle.ucq_chase.proofs.Names.{one_step_keeps_names, covering_keeps_names, core_keeps_names}
use Rattle.ucq_chase.proofs.rewriting_keeps_names.Goals as goal

pub returns : goal.returns
returns c = record { one_step = one_step_keeps_names; covering = covering_keeps_names; core = core_keeps_names }
