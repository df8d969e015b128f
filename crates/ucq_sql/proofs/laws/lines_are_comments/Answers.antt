use Rattle.ucq_sql.proofs.Commented.{lines_are_comments}
use Rattle.ucq_sql.proofs.laws.lines_are_comments.Goals as goal

pub returns : goal.returns
returns c = lines_are_comments
