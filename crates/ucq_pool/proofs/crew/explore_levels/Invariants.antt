use Rattle.std.proofs.Common.{◌≡◌}
use Rattle.ucq_hom.specs.Space.{IsClear}
use Rattle.ucq_pool.proofs.crew.explore_levels.Given as goal

abbrev pub invariant-loop : goal.invariant-loop
invariant-loop g l =
    ((goal.iterator-loop g).can_next l.iterator' × (goal.iterator-loop g).is_finite l.iterator')
    × IsClear l.space
    × (l.store.problem ≡ l.problem)
    × (l.store.budget ≡ l.initial.store.budget)
