use Rattle.ucq_store.proofs.Finished.{finished_is_exact}
use Rattle.ucq_bans.proofs.Violated.{none_violates}
use Rattle.ucq_bans.proofs.laws.no_violation_without_row.Goals as goal

pub returns : goal.returns
returns c = λ s facts lawful finished none violates. none_violates finished_is_exact s facts lawful finished none violates
