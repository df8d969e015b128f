use Rattle.std.proofs.Common.{◌≡◌, ◌++◌, take, drop}
use Rattle.ucq_partition.specs.Partition.{relabelled}
use Rattle.ucq_partition.proofs.partition.relabel.Given as goal

abbrev pub invariant-loop-label : goal.invariant-loop-label
invariant-loop-label l = l.labels ≡ relabelled (take l.label-index l.initial.labels) l.from l.to ++ drop l.label-index l.initial.labels
