use Rattle.std.proofs.Common.{[], ◌∷◌, ◌++◌, subst, sym, refl}
use Rattle.ucq_pool.specs.Rewritings.{AreProposed}
use Rattle.ucq_pool.proofs.Found.{one_proposed}
use Rattle.ucq_rows_store.proofs.reports.candidates.Goals as goal

none_proposed : AreProposed [] [] []
none_proposed = record { more = []; are = refl; hold = tt }

pub loop-core-init : goal.loop-core-init
loop-core-init c = subst (AreProposed [] []) (sym c.new-all.ensures.items) none_proposed

pub loop-core-preserved : goal.loop-core-preserved
loop-core-preserved c =
    subst (AreProposed [] (c.loop-core.yielded ++ c.in-Some.core ∷ [])) (sym c.in_ok-push.ensures.items)
    (one_proposed [] c.loop-core.all.items c.loop-core.yielded c.candidate.result c.in-Some.core c.loop-core.invariant c.candidate.ensures)
