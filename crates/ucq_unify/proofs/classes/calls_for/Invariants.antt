use Rattle.std.proofs.Common.{◌≡◌, ℕ, List, take, Contains}
use Rattle.ucq_terms.specs.declared.Term.{Term}
use Rattle.ucq_terms.specs.declared.Term.TheVariants.{Variable}
use Rattle.ucq_terms.specs.Unifier.{Node}
use Rattle.ucq_classes.specs.Classes.{IsClassed}
use Rattle.ucq_unify.specs.inner.Classes.{IsFlaggedPrivate}
use Rattle.ucq_unify.proofs.classes.calls_for.Given as goal

abbrev pub invariant-loop-term : goal.invariant-loop-term
invariant-loop-term l =
    (links : List (Node × Node)) → IsClassed links l.classes → (s : Term) → Contains (take l.term-index l.terms) s → (u : ℕ) → s ≡ Variable u →
    IsFlaggedPrivate l.sides.existential.items links u → ⊥
