use Rattle.std.proofs.Common.{◌≡◌, ◌<◌, ℕ, List, true, false, get_or}
use Rattle.ucq_terms.specs.Unifier.{Node}
use Rattle.ucq_classes.specs.Classes.{IsClassed}
use Rattle.ucq_unify.specs.inner.Classes.{IsSpoilt}
use Rattle.ucq_unify.proofs.classes.has_spoilt.Given as goal

abbrev pub invariant-loop-variable : goal.invariant-loop-variable
invariant-loop-variable l =
    (links : List (Node × Node)) → IsClassed links l.classes → (v : ℕ) → v < l.variable → get_or l.sides.existential.items v false ≡ true → IsSpoilt l.sides.query.now l.classes.numbers links v → ⊥
