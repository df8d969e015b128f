use Rattle.std.proofs.Common.{take}
use Rattle.ucq_hom.specs.Bindings.{IsMatched}
use Rattle.ucq_bans.proofs.matching.match_terms.Given as goal

abbrev pub invariant-loop-i : goal.invariant-loop-i
invariant-loop-i l = IsMatched l.initial.bindings l.bindings (take l.i l.terms) (take l.i l.targets)
