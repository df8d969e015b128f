use Rattle.ucq_sql.proofs.ToldLines.{facts_lines_tell_facts, table_lines_tell_tables}
use Rattle.ucq_sql.proofs.laws.lines_are_told.Goals as goal

pub returns-clause-tables : goal.returns-clause-tables
returns-clause-tables c = table_lines_tell_tables

pub returns-clause-facts : goal.returns-clause-facts
returns-clause-facts c = facts_lines_tell_facts
