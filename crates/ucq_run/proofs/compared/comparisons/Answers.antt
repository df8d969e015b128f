use Rattle.std.proofs.Common.{◌<◌, length, refl, rules}
use Rattle.ucq_run.specs.inner.Comparing.{TellsBy}
use Rattle.ucq_run.proofs.Comparing.{place_passed, place_told}
use Rattle.ucq_run.proofs.compared.comparisons.Goals as goal
use Rattle.ucq_run.proofs.compared.comparisons.Goals.{then-place-number+in_ok-push, else-place-number}

pub loop-place-preserved : goal.loop-place-preserved
loop-place-preserved c =
    let store = c.args.store.now in
    let queries = c.args.queries.now in
    let place = c.loop-place.place in
    let all = c.loop-place.all.items in
    let inside : place < length queries = search rules in
    elim c.if-place-number.branch [
      | then-place-number+in_ok-push w ↦
          rw (w.all-is) (rw (w.in_ok-push.ensures.items)
          (place_told (TellsBy store) c.args.number place queries w.index-queries-place.result all (record { query = place; told = w.told_of-told.result }) inside w.if-place-number.true
          c.loop-place.invariant refl (w.within.result, w.within.ensures.told, w.told_of-told.ensures)))
      | else-place-number w ↦ rw (w.all-is) (place_passed (TellsBy store) c.args.number place queries all inside w.if-place-number.false c.loop-place.invariant)
    ]
