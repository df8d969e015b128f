use Rattle.std.proofs.Common.{refl, rules, subst, sym, ◌≡◌, ◌++◌, Err}
use Rattle.std.specs.Prelude.{codes}
use Rattle.ucq_outside.specs.Taken.{change_of}
use Rattle.ucq_print.specs.Texts.{count_line}
use Rattle.ucq_run.specs.inner.Reading.{IsWritten}
use Rattle.ucq_run.proofs.Written.{GoOn, both_written, unwritten_with_more}
use Rattle.ucq_run.proofs.finished.write_head.Goals as goal

pub returns-in_err-write_made-clause-written : goal.returns-in_err-write_made-clause-written
returns-in_err-write_made-clause-written g c =
    let taken = g.K.Sink.taken in
    let faults = g.K.Sink.faults in
    let sink = change_of (taken c.args.sink.now) (taken c.write_made.new.sink) (faults c.args.sink.now) (faults c.write_made.new.sink) in
    let e = c.in_err-write_made.field-0.0 in
    let wrote = unwritten_with_more sink (codes "% finished\n") (count_line c.args.count) e (c.in_err-write_made.ensures.written (codes "% finished\n") c.finished_mark.ensures) in
    let is : c.from_residual.result ≡ Err e = search rules in
    subst (λ answer. IsWritten sink (codes "% finished\n" ++ count_line c.args.count) answer) (sym is) wrote

pub returns-clause-written : goal.returns-clause-written
returns-clause-written g c =
    let taken = g.K.Sink.taken in
    let faults = g.K.Sink.faults in
    let first = change_of (taken c.args.sink.now) (taken c.write_made.new.sink) (faults c.args.sink.now) (faults c.write_made.new.sink) in
    let second = change_of (taken c.write_made.new.sink) (taken c.write_made-2.new.sink) (faults c.write_made.new.sink) (faults c.write_made-2.new.sink) in
    let on : GoOn first second = record { follows = record { taken = refl; faults = refl }; later = c.write_made.ensures.later; later_still = c.write_made-2.ensures.later } in
    both_written first second (codes "% finished\n") (count_line c.args.count) c.write_made-2.result on
    (c.in_ok-write_made.ensures.written (codes "% finished\n") c.finished_mark.ensures)
    (c.write_made-2.ensures.written (count_line c.args.count) c.query_count_line.ensures)
