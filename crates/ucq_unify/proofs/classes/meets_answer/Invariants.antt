use Rattle.std.proofs.Common.{◌≡◌, ℕ, List, take, Contains}
use Rattle.ucq_terms.specs.Unifier.{Node, of_query, of_copy, AreJoined}
use Rattle.ucq_classes.specs.Classes.{IsClassed}
use Rattle.ucq_terms.specs.declared.Term.{Term}
use Rattle.ucq_terms.specs.declared.Term.TheVariants.{Variable}
use Rattle.ucq_unify.proofs.classes.meets_answer.Given as goal

abbrev pub invariant-loop-term : goal.invariant-loop-term
invariant-loop-term l =
    (links : List (Node × Node)) → IsClassed links l.classes → (s : Term) → Contains (take l.term-index l.term-items) s → (u : ℕ) → s ≡ Variable u → AreJoined links (of_copy 0 l.variable) (of_query u) → ⊥
