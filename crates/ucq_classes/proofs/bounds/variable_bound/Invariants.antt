use Rattle.std.proofs.Common.{◌<◌, ◌≤◌, ℕ, take, Contains}
use Rattle.ucq_terms.specs.Syntax.{Atom}
use Rattle.ucq_terms.specs.declared.Term.TheVariants.{Variable}
use Rattle.ucq_classes.proofs.bounds.variable_bound.Given as goal

abbrev pub invariant-loop-atom : goal.invariant-loop-atom
invariant-loop-atom l = record {
  covers : (a : Atom) → Contains (take l.atom-index l.atoms) a → (v : ℕ) → Contains a.terms (Variable v) → v < l.bound;
  low : l.bound ≤ 4096;
}
