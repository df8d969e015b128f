use Rattle.std.proofs.Common.{◌<◌, length, arith}
use Rattle.std.proofs.lemmas.Grind.{common_steps}
use Rattle.ucq_store.proofs.Live.{dead_more, live_more}
use Rattle.ucq_store.proofs.store.live_copies.Goals as goal
use Rattle.ucq_store.proofs.store.live_copies.Goals.{then-is_live+in_ok-copy+in_ok-push, else-is_live}

pub loop-row-preserved : goal.loop-row-preserved
loop-row-preserved c =
    let rows = c.args.antichain.now.rows in
    let inside : c.loop-row.row < length rows = omega arith in
    let more = live_more rows c.loop-row.row inside in
    let same = dead_more rows c.loop-row.row inside in
    elim c.if-is_live.branch [
      | then-is_live+in_ok-copy+in_ok-push w ↦ grind (arith, common_steps, more)
      | else-is_live w ↦ grind (arith, common_steps, same)
    ]
