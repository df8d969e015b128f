use Rattle.std.proofs.Common.{◌≡◌, length}
use Rattle.ucq_hom.specs.Levels.{HasLevelsOf, KeepsLevels}
use Rattle.ucq_hom.proofs.Found.{IsPast}
use Rattle.ucq_hom.proofs.search.+extend.Given as goal

abbrev pub decreases-extend : goal.decreases-extend
decreases-extend l = length l.places.now

abbrev pub invariant-loop-j : goal.invariant-loop-j
invariant-loop-j l = record {
  same : l.bindings ≡ l.initial.bindings;
  levels : KeepsLevels l.initial.bindings l.initial.levels l.levels;
  own : HasLevelsOf l.initial.bindings l.initial.levels l.blocking l.atom.terms;
  past : IsPast l.initial.bindings l.initial.levels l.blocking l.from l.atom l.rest l.to l.skip l.j;
}
