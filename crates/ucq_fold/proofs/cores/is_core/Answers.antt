use Rattle.std.proofs.Common.{◌<◌, List, length, subst, sym, refl, arith}
use Rattle.ucq_terms.specs.Syntax.{Atom}
use Rattle.ucq_fold.proofs.Shrunk.{IsCore-needed, needed_in_core}
use Rattle.ucq_fold.proofs.cores.is_core.Goals as goal

pub returns-then-find_without-clause-core : goal.returns-then-find_without-clause-core
returns-then-find_without-clause-core c = (
  λ e. cc,
  λ core.
      let q = c.args.query.now in
      let l : c.loop-place.place < length q.atoms = subst (λ (x : List Atom). c.loop-place.place < length x) c.atoms.ensures.atoms (omega arith) in
      absurd (needed_in_core q core c.atoms.ensures.stored.once c.loop-place.place l (c.find_without.ensures.maps.0 c.if-find_without.true)),
)

pub returns-clause-core : goal.returns-clause-core
returns-clause-core c = (
  λ e. IsCore-needed c.args.query.now (λ k l. c.loop-place.invariant.needed k (
      let m : k < length c.atoms.result.now = subst (λ (x : List Atom). k < length x) (sym c.atoms.ensures.atoms) l in
      omega arith)),
  λ core. refl,
)
