use Rattle.std.proofs.Common.{◌≡◌, ◌≤◌, ◌*◌, take}
use Rattle.std.specs.Prelude.{All}
use Rattle.ucq_antichain.specs.Rows.{live_queries}
use Rattle.ucq_terms.specs.Syntax.{HasEachOnce, Query}
use Rattle.ucq_print.specs.Texts.{atom_count}
use Rattle.ucq_run.proofs.finished.atom_count.Given as goal

abbrev pub invariant-loop-row : goal.invariant-loop-row
invariant-loop-row g l = record {
  counted : l.count ≡ atom_count (live_queries (take l.row (g.R.Rows.value l.rows).rows));
  once : All (λ (q : Query). HasEachOnce q.atoms) (live_queries (take l.row (g.R.Rows.value l.rows).rows));
  small : l.count ≤ 128 * l.row;
}
