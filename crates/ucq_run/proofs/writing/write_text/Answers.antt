use Rattle.std.proofs.Common.{drop, refl, rules, subst, sym, take, ◌+◌, ◌<◌, ◌≡◌, length, Err}
use Rattle.ucq_outside.specs.Taken.{change_of, TookAll}
use Rattle.ucq_outside.proofs.Taken.{all_then_all}
use Rattle.ucq_print.specs.Texts.{lines_text}
use Rattle.ucq_run.specs.inner.Reading.{IsWritten}
use Rattle.ucq_run.proofs.Told.{line_at, line_made, lines_about, lines_more}
use Rattle.ucq_run.proofs.Written.{GoOn, left_in_midst}
use Rattle.ucq_run.proofs.writing.write_text.Goals as goal

pub loop-place-preserved : goal.loop-place-preserved
loop-place-preserved g c =
    let taken = g.K.Sink.taken in
    let faults = g.K.Sink.faults in
    let lines = g.T.Text.lines c.args.text.now in
    let place = c.loop-place.place in
    let inside : place < length lines = search rules in
    let first = change_of (taken c.args.sink.now) (taken c.loop-place.sink) (faults c.args.sink.now) (faults c.loop-place.sink) in
    let second = change_of (taken c.loop-place.sink) (taken c.write_made.new.sink) (faults c.loop-place.sink) (faults c.write_made.new.sink) in
    let both = change_of (taken c.args.sink.now) (taken c.write_made.new.sink) (faults c.args.sink.now) (faults c.write_made.new.sink) in
    let wrote = c.in_ok-write_made.ensures.written (line_at lines place) (line_made lines place c.line.result c.line.ensures) in
    record {
      taken = subst (λ text. TookAll both text) (sym (lines_more lines place inside))
          (all_then_all first second (lines_text (take place lines)) (line_at lines place) (record { taken = refl; faults = refl }) c.loop-place.invariant.taken wrote);
      later = search rules;
    }

pub returns-in_err-write_made-clause-written : goal.returns-in_err-write_made-clause-written
returns-in_err-write_made-clause-written g c =
    let taken = g.K.Sink.taken in
    let faults = g.K.Sink.faults in
    let lines = g.T.Text.lines c.args.text.now in
    let place = c.loop-place.place in
    let inside : place < length lines = search rules in
    let first = change_of (taken c.args.sink.now) (taken c.loop-place.sink) (faults c.args.sink.now) (faults c.loop-place.sink) in
    let second = change_of (taken c.loop-place.sink) (taken c.write_made.new.sink) (faults c.loop-place.sink) (faults c.write_made.new.sink) in
    let both = change_of (taken c.args.sink.now) (taken c.write_made.new.sink) (faults c.args.sink.now) (faults c.write_made.new.sink) in
    let e = c.in_err-write_made.field-0.0 in
    let wrote = c.in_err-write_made.ensures.written (line_at lines place) (line_made lines place c.line.result c.line.ensures) in
    let on : GoOn first second = record { follows = record { taken = refl; faults = refl }; later = c.loop-place.invariant.later; later_still = c.write_made.ensures.later } in
    let is : c.from_residual.result ≡ Err e = search rules in
    subst (λ answer. IsWritten both (lines_text lines) answer) (sym is)
    (left_in_midst first second (lines_text (take place lines)) (line_at lines place) (lines_text (drop (place + 1) lines)) (lines_text lines) e on c.loop-place.invariant.taken (lines_about lines place inside) wrote)
