use Rattle.ucq_hom.specs.Levels.{IsNoted}
use Rattle.std.proofs.Common.{take}
use Rattle.ucq_hom.proofs.levels.note.Given as goal

abbrev pub invariant-loop-i : goal.invariant-loop-i
invariant-loop-i l = IsNoted l.initial.levels l.levels (take l.i l.variables) l.level
