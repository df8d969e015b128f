use Rattle.ucq_sql.proofs.ReadBack.{table_names_tell_tables, values_tell_constants}
use Rattle.ucq_sql.proofs.laws.names_are_told.Goals as goal

pub returns-clause-tables : goal.returns-clause-tables
returns-clause-tables c = table_names_tell_tables

pub returns-clause-values : goal.returns-clause-values
returns-clause-values c = values_tell_constants
