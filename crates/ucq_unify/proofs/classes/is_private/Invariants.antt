use Rattle.std.proofs.Common.{◌≡◌, ◌<◌, ℕ, List, true, false, get_or}
use Rattle.ucq_terms.specs.Unifier.{Node, of_query, of_copy, AreJoined}
use Rattle.ucq_classes.specs.Classes.{IsClassed}
use Rattle.ucq_unify.proofs.classes.is_private.Given as goal

abbrev pub invariant-loop-other : goal.invariant-loop-other
invariant-loop-other l =
    (links : List (Node × Node)) → IsClassed links l.classes → (w : ℕ) → w < l.other → get_or l.sides.existential.items w false ≡ true → AreJoined links (of_copy 0 w) (of_query l.variable) → ⊥
