use Rattle.std.proofs.Common.{◌<◌, List, subst, sym, arith}
use Rattle.ucq_terms.specs.declared.Term.TheVariants.{Variable}
use Rattle.ucq_terms.specs.Syntax.{Atom, OccursIn}
use Rattle.ucq_join.proofs.copies.rule_width.Goals as goal

pub variable_bound-requires : goal.variable_bound-requires
variable_bound-requires c = λ v o.
    let l : v < 1024 = c.heads.ensures.kept.head_variables v (subst (λ (xs : List Atom). OccursIn xs (Variable v)) c.heads.ensures.heads o) in omega arith

pub variable_bound-requires-2 : goal.variable_bound-requires-2
variable_bound-requires-2 c = λ v o.
    let l : v < 1024 = c.body.ensures.kept.body_variables v (subst (λ (xs : List Atom). OccursIn xs (Variable v)) c.body.ensures.body o) in omega arith

pub returns : goal.returns
returns c =
    let width = c.max.ensures in
    record {
      heads = λ v o.
          let l : v < c.variable_bound.result = c.variable_bound.ensures.covers v (subst (λ (xs : List Atom). OccursIn xs (Variable v)) (sym c.heads.ensures.heads) o) in
          omega (arith, width);
      body = λ v o.
          let l : v < c.variable_bound-2.result = c.variable_bound-2.ensures.covers v (subst (λ (xs : List Atom). OccursIn xs (Variable v)) (sym c.body.ensures.body) o) in
          omega (arith, width);
      low = omega (arith, width, c.variable_bound.ensures.low, c.variable_bound-2.ensures.low);
    }
