use Rattle.std.proofs.Common.{arith}
use Rattle.std.proofs.lemmas.Grind.{common_steps}
use Rattle.ucq_sql.proofs.Places.{columns_text-next}
use Rattle.ucq_sql.proofs.tables.push_columns.Goals as goal

pub loop-place-preserved : goal.loop-place-preserved
loop-place-preserved c = grind (arith, common_steps, columns_text-next c.loop-place.place)
