use Rattle.std.proofs.Common.{take}
use Rattle.ucq_hom.specs.Levels.{HasLevelsOf}
use Rattle.ucq_hom.proofs.levels.binders.Given as goal

abbrev pub invariant-loop-i : goal.invariant-loop-i
invariant-loop-i l = HasLevelsOf l.bindings l.levels l.set (take l.i l.terms)
