use Rattle.std.proofs.Common.{◌≡◌, ◌<◌, ◌≤◌, ◌++◌, ◌∷◌, [], ℕ}
use Rattle.ucq_join.specs.Walk.{IsJoin}
use Rattle.ucq_join.proofs.search.first_joining.Given as goal

abbrev pub invariant-loop-place : goal.invariant-loop-place
invariant-loop-place l = record {
  numbers : l.classes.numbers ≡ l.initial.classes.numbers;
  none : (k : ℕ) → l.start ≤ k → k < l.place → IsJoin l.query l.rule l.pieces (l.members ++ k ∷ []) → ⊥;
}
