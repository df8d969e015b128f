use Rattle.ucq_sql.proofs.Rows.{select_means_query}
use Rattle.ucq_sql.proofs.TablesOf.{facts_have_tables}
use Rattle.ucq_sql.proofs.laws.select_means_query.Goals as goal

pub returns-clause-means : goal.returns-clause-means
returns-clause-means c = select_means_query

pub returns-clause-tables : goal.returns-clause-tables
returns-clause-tables c = facts_have_tables
