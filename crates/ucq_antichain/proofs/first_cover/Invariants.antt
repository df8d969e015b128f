use Rattle.std.proofs.Common.{ℕ, ◌<◌, get_or}
use Rattle.ucq_hom.specs.Space.{IsClear}
use Rattle.ucq_antichain.specs.inner.Walks.{IsBest, NoneEarlier, NoneBeside}
use Rattle.ucq_antichain.proofs.first_cover.Given as goal

abbrev pub invariant-loop-first : goal.invariant-loop-first
invariant-loop-first l = record {
  clear : IsClear l.space;
  best : IsBest l.rows l.query l.best;
  pair_less : NoneEarlier l.rows l.query l.index.chains (get_or l.index.chains.heads 16384 0) l.best;
  each : (k : ℕ) → k < l.first-index → NoneBeside l.rows l.query l.index.chains l.marked.second (get_or l.first-items k 0) l.best;
}
