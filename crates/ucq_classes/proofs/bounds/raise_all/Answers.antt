use Rattle.std.proofs.Common.{◌≡◌, ◌<◌, ℕ, Contains, refl, arith, subst}
use Rattle.std.proofs.lemmas.List.Elements.{Contains-get_or}
use Rattle.ucq_terms.specs.declared.Term.{Term}
use Rattle.ucq_terms.specs.declared.Term.TheVariants.{Constant, Variable}
use Rattle.ucq_classes.proofs.Prefixes.{prefix_more, prefix_all}
use Rattle.ucq_classes.proofs.bounds.raise_all.Goals as goal

pub raise-raised-requires : goal.raise-raised-requires
raise-raised-requires c = λ v e. c.requires v
    (subst (λ (t : Term). Contains c.args.terms.now t) e (Contains-get_or c.args.terms.now c.loop-term.term-index (Constant 0) c.loop-term-test.true))

pub loop-term-preserved : goal.loop-term-preserved
loop-term-preserved c =
    let m = c.raise-raised.result in
    record {
      keeps = omega (arith, c.raise-raised.ensures.keeps);
      covers =
          prefix_more (λ (t : Term). (v : ℕ) → t ≡ Variable v → v < m) c.args.terms.now c.loop-term.term-index (Constant 0) c.loop-term-test.true
          (λ t k v e. let l : v < c.loop-term.raised = c.loop-term.invariant.covers t k v e in omega (arith, c.raise-raised.ensures.keeps))
          (λ v e. c.raise-raised.ensures.covers v e);
      low = λ l. c.raise-raised.ensures.low (c.loop-term.invariant.low l);
    }

pub returns-clause-covers : goal.returns-clause-covers
returns-clause-covers c = λ v k.
    prefix_all (λ (t : Term). (v : ℕ) → t ≡ Variable v → v < c.loop-term.raised) c.args.terms.now c.loop-term.term-index (omega arith)
    c.loop-term.invariant.covers (Variable v) k v refl
