use Rattle.std.proofs.Common.{◌≡◌, ◌≤◌, vec_len}
use Rattle.ucq_pool.proofs.crew.claim_open.Given as goal

abbrev pub invariant-loop : goal.invariant-loop
invariant-loop l = record {
  few : vec_len l.claims ≤ l.counter;
  problem : l.store.problem ≡ l.initial.store.problem;
  budget : l.store.budget ≡ l.initial.store.budget;
}
