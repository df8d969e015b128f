use Rattle.std.proofs.Common.{◌≡◌, ◌<◌, ◌⊎◌, ℕ, length, get_or}
use Rattle.ucq_antichain.specs.inner.Index.{IsKeyBeside}
use Rattle.ucq_antichain.proofs.index.rarest.Given as goal

abbrev pub invariant-loop-mark : goal.invariant-loop-mark
invariant-loop-mark l = (l.best ≡ 16384) ⊎ ((k : ℕ) × (k < length l.marks) × IsKeyBeside l.others (get_or l.marks k 0) l.best)
