use Rattle.ucq_chase.proofs.Replay.{sound_is_carried}
use Rattle.ucq_store.proofs.Finished.{finished_is_exact}
use Rattle.ucq_bans.proofs.Conflicting.{violates_where_held}
use Rattle.ucq_bans.proofs.laws.violating_sets_hold_conflicts.Goals as goal

pub returns : goal.returns
returns c = λ s facts conflicts places lawful finished boolean once are of.
    violates_where_held sound_is_carried finished_is_exact s facts lawful finished boolean once conflicts are places of
