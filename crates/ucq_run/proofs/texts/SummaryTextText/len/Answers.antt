use Rattle.ucq_run.proofs.texts.SummaryTextText.len.Goals as goal

pub returns : goal.returns
returns c = c.summary_line_count.ensures 0 0 0
