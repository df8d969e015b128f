use Rattle.std.proofs.Common.{refl, rules, subst, sym, ◌≡◌, ◌++◌, Err}
use Rattle.ucq_antichain.specs.Rows.{live_queries}
use Rattle.ucq_print.specs.Texts.{finished_text}
use Rattle.ucq_outside.specs.Taken.{change_of}
use Rattle.ucq_run.specs.inner.Reading.{IsWritten}
use Rattle.ucq_run.proofs.Written.{GoOn, both_written, unwritten_with_more}
use Rattle.ucq_run.proofs.finished.write_finished.Goals as goal

pub returns-in_err-write_bytes-clause-written : goal.returns-in_err-write_bytes-clause-written
returns-in_err-write_bytes-clause-written g c =
    let taken = g.K.Sink.taken in
    let faults = g.K.Sink.faults in
    let sink = change_of (taken c.args.sink.now) (taken c.write_bytes.new.sink) (faults c.args.sink.now) (faults c.write_bytes.new.sink) in
    let e = c.in_err-write_bytes.field-0.0 in
    let one = c.args.header.now in
    let two = finished_text c.args.names.now (live_queries (g.R.Rows.value c.args.rows.now).rows) in
    let wrote = unwritten_with_more sink one two e c.in_err-write_bytes.ensures.written in
    let is : c.from_residual.result ≡ Err e = search rules in
    subst (λ answer. IsWritten sink (one ++ two) answer) (sym is) wrote

pub returns-clause-written : goal.returns-clause-written
returns-clause-written g c =
    let taken = g.K.Sink.taken in
    let faults = g.K.Sink.faults in
    let first = change_of (taken c.args.sink.now) (taken c.write_bytes.new.sink) (faults c.args.sink.now) (faults c.write_bytes.new.sink) in
    let second = change_of (taken c.write_bytes.new.sink) (taken c.write_union.new.sink) (faults c.write_bytes.new.sink) (faults c.write_union.new.sink) in
    let on : GoOn first second = record { follows = record { taken = refl; faults = refl }; later = c.write_bytes.ensures.later; later_still = c.write_union.ensures.later } in
    both_written first second (c.args.header.now) (finished_text c.args.names.now (live_queries (g.R.Rows.value c.args.rows.now).rows)) c.write_union.result on c.in_ok-write_bytes.ensures.written c.write_union.ensures.written
