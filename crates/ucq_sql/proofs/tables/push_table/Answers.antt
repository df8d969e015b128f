use Rattle.std.proofs.Common.{arith}
use Rattle.std.proofs.lemmas.Grind.{common_steps}
use Rattle.ucq_terms.specs.Names.{name_text}
use Rattle.ucq_sql.proofs.Quoting.{quoted_name}
use Rattle.ucq_sql.proofs.tables.push_table.Goals as goal

pub returns : goal.returns
returns c = grind (arith, common_steps, quoted_name (name_text c.args.names.now c.args.table.name) c.args.table.arity (omega arith))
