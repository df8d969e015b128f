use Rattle.ucq_antichain.proofs.Words.{and_both}
use Rattle.ucq_antichain.proofs.bits.both.Goals as goal

pub returns : goal.returns
returns c = and_both c.args.one c.args.other
