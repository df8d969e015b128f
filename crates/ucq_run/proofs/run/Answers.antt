use Rattle.ucq_run.proofs.Answered.{printed, printed_has_cause, unprinted}
use Rattle.ucq_run.proofs.Decided.{reported_is_full_run}
use Rattle.ucq_run.proofs.run.Goals as goal

pub returns : goal.returns
returns g c =
    let asks = c.in-Ok.ensures.read in
    let prints = c.print_by_crew-outcome.ensures.prints in
    reported_is_full_run c.one_settings.ensures _ _ _ c.print_by_crew-outcome.result c.report-2.result
    (printed_has_cause _ _ _ c.print_by_crew-outcome.result (prints asks.input.facts asks.about))
    (printed _ c.in-Ok.request _ c.print_by_crew-outcome.result asks prints) c.report-2.ensures.reported

pub returns-in-Err : goal.returns-in-Err
returns-in-Err g c =
    let early = c.in-Err.ensures.read in
    reported_is_full_run c.one_settings.ensures _ _ _ c.in-Err.outcome c.report.result early.0 (unprinted _ _ _ c.in-Err.outcome early.1) c.report.ensures.reported
