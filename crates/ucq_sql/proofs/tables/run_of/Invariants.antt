use Rattle.std.proofs.Common.{◌≡◌, ◌≤◌, All, take}
use Rattle.ucq_sql.specs.Tables.{IsOfTable}
use Rattle.ucq_sql.proofs.tables.run_of.Given as goal

abbrev pub invariant-loop-fact : goal.invariant-loop-fact
invariant-loop-fact l = record {
  of_table : All (IsOfTable l.table) (take l.count l.facts);
  place : l.count ≡ l.fact-index;
  few : l.count ≤ l.most;
}
