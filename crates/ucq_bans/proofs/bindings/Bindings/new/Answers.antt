use Rattle.std.proofs.Common.{refl}
use Rattle.ucq_bans.proofs.Cleared.{is_clear, IsKept-clear, IsClear-clear}
use Rattle.ucq_bans.proofs.bindings.Bindings.new.Goals as goal

pub invariant_of-result : goal.invariant_of-result
unfolding is_clear
invariant_of-result c = IsKept-clear _ _ refl refl c.new.ensures

pub returns : goal.returns
unfolding is_clear
returns c = IsClear-clear _ refl
