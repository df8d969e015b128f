use Rattle.std.proofs.Common.{◌<◌, ◌∷◌, ◌∙◌, [], length, ap, sym, arith}
use Rattle.std.proofs.lemmas.List.{length-append}
use Rattle.ucq_antichain.specs.Rows.{live_queries, query_at}
use Rattle.ucq_store.proofs.Live.{dead_more, live_more}
use Rattle.std.proofs.Common.{take}
use Rattle.ucq_print.proofs.finished.live_count.Goals as goal
use Rattle.ucq_print.proofs.finished.live_count.Goals.{then-is_live_at, else-is_live_at}

pub loop-row-preserved : goal.loop-row-preserved
loop-row-preserved g c =
    let rows = (g.R.Rows.value c.args.rows.now).rows in
    let row = c.loop-row.row in
    let test = c.loop-row-test.true in
    let many = c.count-row-end.ensures.rows in
    let inside : row < length rows = omega arith in
    let was = c.loop-row.invariant.live in
    let few = c.loop-row.invariant.few in
    elim c.if-is_live_at.branch [
      | then-is_live_at w ↦
          let more = live_more rows row inside (sym c.is_live_at.ensures ∙ w.if-is_live_at.true) in
          let size = ap length more ∙ length-append (live_queries (take row rows)) (query_at rows row ∷ []) in
          let count = w.count-is in
          record { live = omega (arith, size, count, was); few = omega (arith, count, few) }
      | else-is_live_at w ↦
          let same = ap length (dead_more rows row inside (sym c.is_live_at.ensures ∙ w.if-is_live_at.false)) in
          let count = w.count-is in
          record { live = omega (arith, same, count, was); few = omega (arith, count, few) }
    ]
