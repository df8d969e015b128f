use Rattle.std.proofs.Common.{◌<◌, List, subst, sym, arith}
use Rattle.ucq_terms.specs.declared.Term.TheVariants.{Variable}
use Rattle.ucq_terms.specs.Syntax.{Atom, OccursIn}
use Rattle.ucq_unify.specs.inner.Sides.{HasFlags}
use Rattle.ucq_unify.proofs.Flags.{HasFlags-more}
use Rattle.ucq_unify.proofs.sides.existential_flags.Goals as goal

pub variable_bound-bound-requires : goal.variable_bound-bound-requires
variable_bound-bound-requires c = λ v o.
    let l : v < 1024 = c.heads.ensures.kept.head_variables v (subst (λ (xs : List Atom). OccursIn xs (Variable v)) c.heads.ensures.heads o) in omega arith

pub loop-variable-preserved : goal.loop-variable-preserved
loop-variable-preserved c =
    HasFlags-more c.args.rule.now c.loop-variable.variable c.loop-variable.flags.items c.push.new.self.items c.is_existential.result
    c.loop-variable.invariant c.is_existential.ensures c.in_ok-push.ensures.items

pub returns : goal.returns
returns c =
    let count = c.loop-variable.invariant.count in
    record {
      told = subst (λ k. HasFlags c.args.rule.now k c.loop-variable.flags.items) (sym count) c.loop-variable.invariant;
      heads = λ v o.
          let l : v < c.variable_bound-bound.result =
          c.variable_bound-bound.ensures.covers v (subst (λ (xs : List Atom). OccursIn xs (Variable v)) (sym c.heads.ensures.heads) o) in
          omega arith;
      few = omega (arith, c.variable_bound-bound.ensures.low);
    }
