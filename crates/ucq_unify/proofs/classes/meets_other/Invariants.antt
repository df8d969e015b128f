use Rattle.std.proofs.Common.{◌≢◌, ◌<◌, ℕ, List}
use Rattle.ucq_terms.specs.Unifier.{Node, of_copy, AreJoined}
use Rattle.ucq_classes.specs.Classes.{IsClassed}
use Rattle.ucq_unify.proofs.classes.meets_other.Given as goal

abbrev pub invariant-loop-other : goal.invariant-loop-other
invariant-loop-other l =
    (links : List (Node × Node)) → IsClassed links l.classes → (w : ℕ) → w < l.other → l.variable ≢ w → AreJoined links (of_copy 0 l.variable) (of_copy 0 w) → ⊥
