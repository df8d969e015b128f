-- What workers share.
use Rattle.std.specs.Prelude.{◌≡◌, ℕ, ◌⊎◌}
use Rattle.ucq_terms.specs.Syntax.{Problem}
use Rattle.ucq_store.specs.Store.{IsCut, IsFinished}
use Rattle.ucq_board.specs.Values.{BoardValue, SeatValue, IsSeatOf}
use Rattle.ucq_pool.specs.declared.crew.Stage.{Stage}
use Rattle.ucq_pool.specs.declared.crew.Stage.TheVariants.{Going, Ended}

-- the board gave the seat, which has no other to spare
pub record IsAtWork (board : BoardValue) (seat : SeatValue) : Type 0 where
  pub given : IsSeatOf board seat
  pub single : seat.view.spare ≡ 0

-- the store is of this problem and budget, and where the rewriting has ended it is finished or cut
abbrev pub IsStage : Problem → ℕ → Stage → Type 0
IsStage problem budget (Going s) = (s.problem ≡ problem) × (s.budget ≡ budget)
IsStage problem budget (Ended s) = (s.problem ≡ problem) × (s.budget ≡ budget) × (IsFinished s ⊎ IsCut s)
