use Rattle.ucq_chase.proofs.Replay.{sound_is_carried}
use Rattle.ucq_bans.proofs.Violated.{mapped_violates}
use Rattle.ucq_bans.proofs.laws.mapped_rows_violate.Goals as goal

pub returns : goal.returns
returns c = λ s facts row lawful boolean here m. mapped_violates sound_is_carried s facts row lawful boolean here m
