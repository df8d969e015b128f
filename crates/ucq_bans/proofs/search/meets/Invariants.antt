use Rattle.std.proofs.Common.{take}
use Rattle.ucq_bans.specs.inner.Search.{AreApart}
use Rattle.ucq_bans.proofs.search.meets.Given as goal

abbrev pub invariant-loop-place : goal.invariant-loop-place
invariant-loop-place l = AreApart l.atoms (take l.place-index l.places) l.terms
