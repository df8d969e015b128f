use Rattle.ucq_run.proofs.Agreed.{made_runs_agree}
use Rattle.ucq_run.proofs.laws.made_runs_agree.Goals as goal

pub returns : goal.returns
returns c = made_runs_agree c.one_settings.ensures
