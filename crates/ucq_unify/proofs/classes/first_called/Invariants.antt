use Rattle.std.proofs.Common.{◌<◌, ℕ, List}
use Rattle.ucq_terms.specs.Unifier.{Node}
use Rattle.ucq_classes.specs.Classes.{IsClassed}
use Rattle.ucq_unify.specs.inner.Classes.{IsCalledAt}
use Rattle.ucq_unify.proofs.classes.first_called.Given as goal

abbrev pub invariant-loop-place : goal.invariant-loop-place
invariant-loop-place l =
    (links : List (Node × Node)) → IsClassed links l.classes → (place : ℕ) → place < l.place → IsCalledAt l.sides.existential.items links l.sides.query.now l.choice place → ⊥
