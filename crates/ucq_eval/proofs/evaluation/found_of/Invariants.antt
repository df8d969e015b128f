use Rattle.std.proofs.Common.{take}
use Rattle.std.specs.Prelude.{map}
use Rattle.ucq_eval.specs.Answers.{AreTuplesOf}
use Rattle.ucq_eval.proofs.evaluation.found_of.Given as goal

abbrev pub invariant-loop-place : goal.invariant-loop-place
invariant-loop-place l = AreTuplesOf (take l.place l.union) l.facts (map (λ t. t.items) l.found.keys)
