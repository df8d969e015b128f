use Rattle.std.proofs.Common.{◌≡◌, take}
use Rattle.ucq_unify.specs.inner.Growing.{pairs_of}
use Rattle.ucq_unify.proofs.search.piece_of.Given as goal

abbrev pub invariant-loop-place : goal.invariant-loop-place
invariant-loop-place l = l.pairs.items ≡ pairs_of (take l.place l.choice)
