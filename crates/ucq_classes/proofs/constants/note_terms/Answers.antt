use Rattle.std.proofs.Common.{◌≡◌, ℕ, Contains, refl, arith}
use Rattle.ucq_terms.specs.declared.Term.{Term}
use Rattle.ucq_terms.specs.declared.Term.TheVariants.{Constant}
use Rattle.ucq_classes.proofs.Prefixes.{prefix_more, prefix_all}
use Rattle.ucq_classes.proofs.constants.note_terms.Goals as goal

pub loop-term-preserved : goal.loop-term-preserved
loop-term-preserved c =
    let items = c.note_term.new.constants.items in
    let xs = c.args.terms.now in
    let i = c.loop-term.term-index in
    record {
      kept = λ d k. c.in_ok-note_term.ensures.kept d (c.loop-term.invariant.kept d k);
      noted =
          prefix_more (λ (t : Term). (d : ℕ) → t ≡ Constant d → Contains items d) xs i (Constant 0) c.loop-term-test.true
          (λ t k d e. c.in_ok-note_term.ensures.kept d (c.loop-term.invariant.noted t k d e))
          (λ d e. c.in_ok-note_term.ensures.noted d e);
      once = λ o. c.in_ok-note_term.ensures.once (c.loop-term.invariant.once o);
      few = omega (arith, c.in_ok-note_term.ensures.few);
    }

pub returns-clause-noted : goal.returns-clause-noted
returns-clause-noted c = λ d k.
    prefix_all (λ (t : Term). (d : ℕ) → t ≡ Constant d → Contains c.loop-term.constants.items d) c.args.terms.now c.loop-term.term-index (omega arith)
    c.loop-term.invariant.noted (Constant d) k d refl
