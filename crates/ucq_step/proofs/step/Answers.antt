use Rattle.std.proofs.Common.{◌≡◌, ℕ, List, nat_eq, true, sym, ◌∙◌, subst}
use Rattle.ucq_terms.specs.Syntax.{Query}
use Rattle.ucq_step.specs.Steps.{AreSteps}
use Rattle.ucq_step.proofs.Walking.{AreSteps-none}
use Rattle.ucq_step.proofs.step.Goals as goal

pub returns-then-is_empty-clause-steps : goal.returns-then-is_empty-clause-steps
returns-then-is_empty-clause-steps c =
    subst (λ (cores : List Query). AreSteps c.args.query.now c.args.rule.now cores) (sym c.new.ensures.items)
    (AreSteps-none c.args.query.now c.args.rule.now c.in_ok-pieces.pieces.items c.in_ok-pieces.ensures
    (subst (λ (n : ℕ). nat_eq n 0 ≡ true) c.in_ok-pieces.pieces.ok.0 (sym c.is_empty.ensures ∙ c.if-is_empty.true)))
