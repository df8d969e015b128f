use Rattle.std.proofs.Common.{◌≡◌, ◌≢◌, AllPairs, ◌+◌, ◌≤◌, ℕ, take, Contains, vec_len}
use Rattle.ucq_terms.specs.declared.Term.{Term}
use Rattle.ucq_terms.specs.declared.Term.TheVariants.{Constant}
use Rattle.ucq_classes.proofs.constants.note_terms.Given as goal

abbrev pub invariant-loop-term : goal.invariant-loop-term
invariant-loop-term l = record {
  kept : (c : ℕ) → Contains l.initial.constants.items c → Contains l.constants.items c;
  noted : (t : Term) → Contains (take l.term-index l.terms) t → (c : ℕ) → t ≡ Constant c → Contains l.constants.items c;
  once : AllPairs (λ (c d : ℕ). c ≢ d) l.initial.constants.items → AllPairs (λ (c d : ℕ). c ≢ d) l.constants.items;
  few : vec_len l.constants ≤ vec_len l.initial.constants + l.term-index;
}
