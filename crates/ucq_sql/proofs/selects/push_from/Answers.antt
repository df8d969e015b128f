use Rattle.std.proofs.Common.{◌≤◌, length, subst, arith}
use Rattle.std.proofs.lemmas.Grind.{common_steps}
use Rattle.std.proofs.lemmas.List.Elements.{All-more}
use Rattle.ucq_terms.specs.Syntax.{Atom}
use Rattle.ucq_sql.specs.Selects.{table_of}
use Rattle.ucq_sql.specs.Text.{aliased_text}
use Rattle.ucq_sql.specs.declared.algebra.Table.{Table}
use Rattle.ucq_sql.proofs.Places.{by_place-next_image}
use Rattle.ucq_sql.proofs.selects.push_from.Goals as goal

pub loop-alias-preserved : goal.loop-alias-preserved
loop-alias-preserved c =
    let a = c.index-atoms-alias.result in
    let next = by_place-next_image (aliased_text c.args.names.now) table_of c.args.atoms.now c.loop-alias.alias a c.loop-alias-test.true in
    let few : length a.terms ≤ 16 = subst (λ (t : Table). t.arity ≤ 16) c.table_of.ensures.table c.table_of.ensures.few in
    record {
      text = grind (arith, common_steps, next);
      small = All-more (λ (b : Atom). length b.terms ≤ 16) c.args.atoms.now c.loop-alias.alias a c.loop-alias-test.true c.loop-alias.invariant.small
          (subst (λ (b : Atom). length b.terms ≤ 16) c.index-atoms-alias.is few);
    }
