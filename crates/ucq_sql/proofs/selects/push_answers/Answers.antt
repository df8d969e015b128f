use Rattle.std.proofs.Common.{arith, ◌++◌}
use Rattle.std.specs.Prelude.{codes}
use Rattle.std.proofs.lemmas.Grind.{common_steps}
use Rattle.ucq_terms.specs.declared.Term.TheVariants.{Constant}
use Rattle.ucq_sql.specs.Selects.{output_of}
use Rattle.ucq_sql.specs.Text.{comma_before, output_text, column_name}
use Rattle.ucq_sql.proofs.Places.{by_place-next_image}
use Rattle.ucq_sql.proofs.selects.push_answers.Goals as goal

pub loop-place-preserved : goal.loop-place-preserved
loop-place-preserved c =
    grind (arith, common_steps, by_place-next_image (λ place output. comma_before place ++ output_text c.args.names.now output ++ codes " AS " ++ column_name place) (output_of c.args.atoms.now) c.args.answers.now c.loop-place.place (Constant 0) c.loop-place-test.true)
