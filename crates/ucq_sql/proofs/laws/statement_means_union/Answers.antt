use Rattle.ucq_sql.proofs.Rows.{results_are_answers, statement_means_union, rows_are_tuples, rows_tell_tuples}
use Rattle.ucq_sql.proofs.laws.statement_means_union.Goals as goal

pub returns-clause-means : goal.returns-clause-means
returns-clause-means c = statement_means_union

pub returns-clause-rows : goal.returns-clause-rows
returns-clause-rows c = rows_are_tuples

pub returns-clause-told : goal.returns-clause-told
returns-clause-told c = rows_tell_tuples

pub returns-clause-results : goal.returns-clause-results
returns-clause-results c = results_are_answers
