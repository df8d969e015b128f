use Rattle.std.proofs.Common.{◌≡◌, ◌<◌, ◌-◌, ℕ, length, slice_index}
use Rattle.ucq_terms.specs.declared.Term.{Term}
use Rattle.ucq_terms.specs.Syntax.{atom_image}
use Rattle.ucq_terms.specs.Unifier.{atom_at}
use Rattle.ucq_terms.specs.Homomorphism.{IsIsomorphism}
use Rattle.ucq_fold.specs.inner.Placing.{Leads, visited}
use Rattle.ucq_fold.proofs.placing.+place_rest.Given as goal

abbrev pub decreases-place_rest : goal.decreases-place_rest
decreases-place_rest l = length l.order.now - l.at

abbrev pub invariant-loop-place : goal.invariant-loop-place
invariant-loop-place l = record {
  kept : (i : ℕ) → i < l.at → slice_index l.images i ≡ slice_index l.initial.images i;
  none : (k : ℕ) → k < l.place → (h : ℕ → Term) → IsIsomorphism h l.a l.b → Leads h l.a l.b l.order l.initial.images l.at → atom_image h (visited l.a l.order l.at) ≡ atom_at l.b.atoms k → ⊥;
}
