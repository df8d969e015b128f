use Rattle.std.proofs.Common.{◌≡◌, ◌<◌, ℕ}
use Rattle.ucq_partition.specs.Partition.{label_of}
use Rattle.ucq_classes.proofs.classes.Classes.has_clash.Given as goal

abbrev pub invariant-loop-place : goal.invariant-loop-place
invariant-loop-place l = (k : ℕ) → k < l.place → label_of l.self.labels k ≡ k
