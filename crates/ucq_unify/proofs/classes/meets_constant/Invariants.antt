use Rattle.std.proofs.Common.{ℕ, List, take, Contains}
use Rattle.ucq_terms.specs.Unifier.{Node, constant, of_copy, AreJoined}
use Rattle.ucq_classes.specs.Classes.{IsClassed}
use Rattle.ucq_unify.proofs.classes.meets_constant.Given as goal

abbrev pub invariant-loop-k : goal.invariant-loop-k
invariant-loop-k l =
    (links : List (Node × Node)) → IsClassed links l.classes → (x : ℕ) → Contains (take l.k l.constants) x → AreJoined links (of_copy 0 l.variable) (constant x) → ⊥
