use Rattle.std.proofs.Common.{refl, rules, subst, sym, ◌≡◌, ◌++◌, Err}
use Rattle.std.specs.Prelude.{codes}
use Rattle.ucq_antichain.specs.Rows.{live_queries}
use Rattle.ucq_outside.specs.Taken.{change_of}
use Rattle.ucq_print.specs.Texts.{count_line, finished_text}
use Rattle.ucq_run.specs.inner.Reading.{IsWritten}
use Rattle.ucq_run.specs.inner.Written.{row_texts}
use Rattle.ucq_run.proofs.Told.{finished_about}
use Rattle.ucq_run.proofs.Written.{GoOn, both_written, unwritten_with_more}
use Rattle.ucq_run.proofs.finished.write_union.Goals as goal

pub returns-in_err-write_head-clause-written : goal.returns-in_err-write_head-clause-written
returns-in_err-write_head-clause-written g c =
    let taken = g.K.Sink.taken in
    let faults = g.K.Sink.faults in
    let names = c.args.names.now in
    let rows = (g.R.Rows.value c.args.rows.now).rows in
    let head = codes "% finished\n" ++ count_line c.live_count.result in
    let sink = change_of (taken c.args.sink.now) (taken c.write_head.new.sink) (faults c.args.sink.now) (faults c.write_head.new.sink) in
    let e = c.in_err-write_head.field-0.0 in
    let wrote = unwritten_with_more sink head (row_texts names rows) e c.in_err-write_head.ensures.written in
    let is : c.from_residual.result ≡ Err e = search rules in
    subst (λ answer. IsWritten sink (finished_text names (live_queries rows)) answer) (sym is)
    (subst (λ text. IsWritten sink text (Err e)) (finished_about names (live_queries rows) c.live_count.result c.live_count.ensures.live) wrote)

pub returns-clause-written : goal.returns-clause-written
returns-clause-written g c =
    let taken = g.K.Sink.taken in
    let faults = g.K.Sink.faults in
    let names = c.args.names.now in
    let rows = (g.R.Rows.value c.args.rows.now).rows in
    let head = codes "% finished\n" ++ count_line c.live_count.result in
    let first = change_of (taken c.args.sink.now) (taken c.write_head.new.sink) (faults c.args.sink.now) (faults c.write_head.new.sink) in
    let second = change_of (taken c.write_head.new.sink) (taken c.write_live.new.sink) (faults c.write_head.new.sink) (faults c.write_live.new.sink) in
    let both = change_of (taken c.args.sink.now) (taken c.write_live.new.sink) (faults c.args.sink.now) (faults c.write_live.new.sink) in
    let on : GoOn first second = record { follows = record { taken = refl; faults = refl }; later = c.write_head.ensures.later; later_still = c.write_live.ensures.later } in
    let wrote = both_written first second head (row_texts names rows) c.write_live.result on c.in_ok-write_head.ensures.written c.write_live.ensures.written in
    subst (λ text. IsWritten both text c.write_live.result) (finished_about names (live_queries rows) c.live_count.result c.live_count.ensures.live) wrote
