use Rattle.std.proofs.Common.{ℕ, Contains, sym, arith, subst, ◌∙◌, ap}
use Rattle.ucq_terms.specs.Syntax.{Atom}
use Rattle.ucq_terms.specs.declared.Term.TheVariants.{Constant}
use Rattle.ucq_terms.proofs.Subsets.{OccursIn-atom}
use Rattle.ucq_classes.proofs.Prefixes.{prefix_more, prefix_all}
use Rattle.ucq_classes.proofs.constants.note_atoms.Goals as goal

pub loop-atom-preserved : goal.loop-atom-preserved
loop-atom-preserved c =
    let items = c.note_terms.new.constants.items in
    let xs = c.args.atoms.now in
    let i = c.loop-atom.atom-index in
    record {
      kept = λ d k. c.in_ok-note_terms.ensures.kept d (c.loop-atom.invariant.kept d k);
      noted =
          prefix_more (λ (a : Atom). (d : ℕ) → Contains a.terms (Constant d) → Contains items d) xs i c.atom-item.result c.loop-atom-test.true
          (λ a k d e. c.in_ok-note_terms.ensures.kept d (c.loop-atom.invariant.noted a k d e))
          (λ d e. c.in_ok-note_terms.ensures.noted d
          (subst (λ ts. Contains ts (Constant d)) (sym (c.terms.ensures.terms ∙ ap (λ (a : Atom). a.terms) c.atom-item.is)) e));
      once = λ o. c.in_ok-note_terms.ensures.once (c.loop-atom.invariant.once o);
      few = omega (arith, c.in_ok-note_terms.ensures.few);
    }

pub returns-clause-noted : goal.returns-clause-noted
returns-clause-noted c = λ d o.
    let (a, i, k) = OccursIn-atom c.args.atoms.now (Constant d) o in
    prefix_all (λ (a : Atom). (d : ℕ) → Contains a.terms (Constant d) → Contains c.loop-atom.constants.items d) c.args.atoms.now c.loop-atom.atom-index
    (omega arith) c.loop-atom.invariant.noted a i d k
