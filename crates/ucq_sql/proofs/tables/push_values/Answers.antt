use Rattle.std.proofs.Common.{arith, ◌++◌}
use Rattle.std.proofs.lemmas.Grind.{common_steps}
use Rattle.ucq_terms.specs.declared.Term.TheVariants.{Constant}
use Rattle.ucq_sql.specs.Text.{comma_before, term_text}
use Rattle.ucq_sql.proofs.Places.{by_place-next}
use Rattle.ucq_sql.proofs.tables.push_values.Goals as goal

pub loop-place-preserved : goal.loop-place-preserved
loop-place-preserved c =
    grind (arith, common_steps, by_place-next (λ place term. comma_before place ++ term_text c.args.names.now term) c.args.terms.now c.loop-place.place (Constant 0) c.loop-place-test.true)
