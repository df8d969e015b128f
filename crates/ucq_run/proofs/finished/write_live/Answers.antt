use Rattle.std.proofs.Common.{arith, drop, refl, rules, subst, sym, take, ◌∙◌, ◌+◌, ◌<◌, ◌≡◌, length, Err}
use Rattle.ucq_antichain.specs.Rows.{query_at, row_at}
use Rattle.ucq_outside.specs.Taken.{change_of}
use Rattle.ucq_outside.proofs.Taken.{all_then_all}
use Rattle.ucq_print.specs.Texts.{query_line}
use Rattle.ucq_run.specs.inner.Reading.{IsWritten}
use Rattle.ucq_run.specs.inner.Written.{row_texts}
use Rattle.ucq_run.proofs.Told.{live_line_made, rows_about, rows_more, rows_same}
use Rattle.ucq_run.proofs.Written.{GoOn, left_in_midst}
use Rattle.ucq_run.proofs.finished.write_live.Goals as goal
use Rattle.ucq_run.proofs.finished.write_live.Goals.{then-is_live_at+in_ok-write_made, else-is_live_at}

pub returns-in_err-write_made-clause-written : goal.returns-in_err-write_made-clause-written
returns-in_err-write_made-clause-written g c =
    let taken = g.K.Sink.taken in
    let faults = g.K.Sink.faults in
    let names = c.args.names.now in
    let rows = (g.R.Rows.value c.args.rows.now).rows in
    let row = c.loop-row.row in
    let inside : row < length rows = search rules in
    let live = sym c.is_live_at.ensures ∙ c.if-is_live_at.true in
    let line = query_line names (query_at rows row) in
    let first = change_of (taken c.args.sink.now) (taken c.loop-row.sink) (faults c.args.sink.now) (faults c.loop-row.sink) in
    let second = change_of (taken c.loop-row.sink) (taken c.write_made.new.sink) (faults c.loop-row.sink) (faults c.write_made.new.sink) in
    let both = change_of (taken c.args.sink.now) (taken c.write_made.new.sink) (faults c.args.sink.now) (faults c.write_made.new.sink) in
    let e = c.in_err-write_made.field-0.0 in
    let wrote = c.in_err-write_made.ensures.written line (live_line_made names (row_at rows row) c.row_line.result live c.row_line.ensures) in
    let on : GoOn first second = record { follows = record { taken = refl; faults = refl }; later = c.loop-row.invariant.later; later_still = c.write_made.ensures.later } in
    let is : c.from_residual.result ≡ Err e = search rules in
    subst (λ answer. IsWritten both (row_texts names rows) answer) (sym is)
    (left_in_midst first second (row_texts names (take row rows)) line (row_texts names (drop (row + 1) rows)) (row_texts names rows) e on c.loop-row.invariant.taken (rows_about names rows row inside live) wrote)

pub loop-row-preserved : goal.loop-row-preserved
loop-row-preserved g c =
    let taken = g.K.Sink.taken in
    let faults = g.K.Sink.faults in
    let names = c.args.names.now in
    let rows = (g.R.Rows.value c.args.rows.now).rows in
    let row = c.loop-row.row in
    let inside : row < length rows = search rules in
    let first = change_of (taken c.args.sink.now) (taken c.loop-row.sink) (faults c.args.sink.now) (faults c.loop-row.sink) in
    elim c.if-is_live_at.branch [
      | then-is_live_at+in_ok-write_made w ↦
          let live = sym c.is_live_at.ensures ∙ w.if-is_live_at.true in
          let line = query_line names (query_at rows row) in
          let second = change_of (taken c.loop-row.sink) (taken w.write_made.new.sink) (faults c.loop-row.sink) (faults w.write_made.new.sink) in
          let wrote = w.in_ok-write_made.ensures.written line (live_line_made names (row_at rows row) w.row_line.result live w.row_line.ensures) in
          let all = all_then_all first second (row_texts names (take row rows)) line (record { taken = refl; faults = refl }) c.loop-row.invariant.taken wrote in
          let was = c.loop-row.invariant.later in
          let later = w.write_made.ensures.later in
          rw (w.sink-is) (record {
            taken = rw (rows_more names rows row inside live) all;
            later = omega (arith, was, later);
          })
      | else-is_live_at w ↦
          let dead = sym c.is_live_at.ensures ∙ w.if-is_live_at.false in
          rw (w.sink-is) (record {
            taken = rw (rows_same names rows row inside dead) c.loop-row.invariant.taken;
            later = c.loop-row.invariant.later;
          })
    ]
