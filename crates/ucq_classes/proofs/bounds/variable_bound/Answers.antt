use Rattle.std.proofs.Common.{◌<◌, ℕ, Contains, sym, arith, subst, ◌∙◌, ap}
use Rattle.ucq_terms.specs.Syntax.{Atom}
use Rattle.ucq_terms.specs.declared.Term.TheVariants.{Variable}
use Rattle.ucq_terms.proofs.Subsets.{OccursIn-atom, OccursIn-from_atom}
use Rattle.ucq_classes.proofs.Prefixes.{prefix_more, prefix_all}
use Rattle.ucq_classes.proofs.bounds.variable_bound.Goals as goal

pub raise_all-bound-requires : goal.raise_all-bound-requires
raise_all-bound-requires c = λ v k. c.requires v
    (OccursIn-from_atom c.args.atoms.now (Variable v) c.atom-item.result
    (c.loop-atom.atom-index, c.loop-atom-test.true, sym c.atom-item.is)
    (subst (λ ts. Contains ts (Variable v)) c.terms.ensures.terms k))

pub loop-atom-preserved : goal.loop-atom-preserved
loop-atom-preserved c =
    let m = c.raise_all-bound.result in
    record {
      covers =
          prefix_more (λ (a : Atom). (v : ℕ) → Contains a.terms (Variable v) → v < m) c.args.atoms.now c.loop-atom.atom-index c.atom-item.result
          c.loop-atom-test.true
          (λ t k v e. let l : v < c.loop-atom.bound = c.loop-atom.invariant.covers t k v e in omega (arith, c.raise_all-bound.ensures.keeps))
          (λ v k. c.raise_all-bound.ensures.covers v
          (subst (λ ts. Contains ts (Variable v)) (sym (c.terms.ensures.terms ∙ ap (λ (a : Atom). a.terms) c.atom-item.is)) k));
      low = c.raise_all-bound.ensures.low c.loop-atom.invariant.low;
    }

pub returns-clause-covers : goal.returns-clause-covers
returns-clause-covers c = λ v o.
    let (a, i, k) = OccursIn-atom c.args.atoms.now (Variable v) o in
    prefix_all (λ (a : Atom). (v : ℕ) → Contains a.terms (Variable v) → v < c.loop-atom.bound) c.args.atoms.now c.loop-atom.atom-index (omega arith)
    c.loop-atom.invariant.covers a i v k
