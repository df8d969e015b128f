use Rattle.std.proofs.Common.{◌≡◌, ◌<◌, ℕ}
use Rattle.ucq_terms.specs.declared.Term.{Term}
use Rattle.ucq_terms.specs.Syntax.{atom_image}
use Rattle.ucq_terms.specs.Unifier.{atom_at}
use Rattle.ucq_hom.specs.Bindings.{Extends}
use Rattle.ucq_hom.proofs.images.has_image.Given as goal

abbrev pub invariant-loop-target : goal.invariant-loop-target
invariant-loop-target l = record {
  same : l.bindings ≡ l.initial.bindings;
  none : (k : ℕ) → k < l.target-index → (h : ℕ → Term) → Extends h l.initial.bindings → atom_image h l.atom ≡ atom_at l.targets k → ⊥;
}
