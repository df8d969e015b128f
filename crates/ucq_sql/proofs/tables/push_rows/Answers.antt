use Rattle.std.proofs.Common.{arith, ◌++◌}
use Rattle.std.proofs.lemmas.Grind.{common_steps}
use Rattle.ucq_sql.specs.Text.{comma_before, row_text}
use Rattle.ucq_sql.proofs.Places.{by_place-next}
use Rattle.ucq_sql.proofs.tables.push_rows.Goals as goal

pub loop-place-preserved : goal.loop-place-preserved
loop-place-preserved c =
    grind (arith, common_steps, by_place-next (λ place fact. comma_before place ++ row_text c.args.names.now fact) c.args.facts.now c.loop-place.place c.index-facts-place.result c.loop-place-test.true)
