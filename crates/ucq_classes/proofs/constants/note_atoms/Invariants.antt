use Rattle.std.proofs.Common.{◌≢◌, AllPairs, ◌+◌, ◌*◌, ◌≤◌, ℕ, take, Contains, vec_len}
use Rattle.ucq_terms.specs.Syntax.{Atom}
use Rattle.ucq_terms.specs.declared.Term.TheVariants.{Constant}
use Rattle.ucq_classes.proofs.constants.note_atoms.Given as goal

abbrev pub invariant-loop-atom : goal.invariant-loop-atom
invariant-loop-atom l = record {
  kept : (c : ℕ) → Contains l.initial.constants.items c → Contains l.constants.items c;
  noted : (a : Atom) → Contains (take l.atom-index l.atoms) a → (c : ℕ) → Contains a.terms (Constant c) → Contains l.constants.items c;
  once : AllPairs (λ (c d : ℕ). c ≢ d) l.initial.constants.items → AllPairs (λ (c d : ℕ). c ≢ d) l.constants.items;
  few : vec_len l.constants ≤ vec_len l.initial.constants + 16 * l.atom-index;
}
