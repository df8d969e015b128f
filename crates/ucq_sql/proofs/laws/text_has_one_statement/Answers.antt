use Rattle.ucq_sql.proofs.ReadBack.{text_has_one_statement}
use Rattle.ucq_sql.proofs.Printed.{stored_are_printed}
use Rattle.ucq_sql.proofs.laws.text_has_one_statement.Goals as goal

pub returns-clause-told : goal.returns-clause-told
returns-clause-told c = text_has_one_statement

pub returns-clause-printed : goal.returns-clause-printed
returns-clause-printed c = stored_are_printed
