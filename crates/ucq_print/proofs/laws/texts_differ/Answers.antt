use Rattle.ucq_print.proofs.CutTexts.{cuts_differ, finished_no_rows_cut, finished_no_wide_cut}
use Rattle.ucq_print.proofs.laws.texts_differ.Goals as goal

pub returns : goal.returns
returns c = λ names union budget row rule rows others left rest other. (
  finished_no_rows_cut names union budget rows left rest other,
  finished_no_wide_cut names union row rule rows rest other,
  cuts_differ names budget row rule rows others left rest other,
)
