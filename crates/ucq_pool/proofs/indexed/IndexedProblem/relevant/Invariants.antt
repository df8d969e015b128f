use Rattle.std.proofs.Common.{ℕ, ◌<◌, length, Contains}
use Rattle.ucq_pool.proofs.Listed.{AreFoundBefore}
use Rattle.ucq_pool.proofs.indexed.IndexedProblem.relevant.Given as goal

abbrev pub invariant-loop-atom : goal.invariant-loop-atom
invariant-loop-atom l = record {
  within : (number : ℕ) → Contains l.numbers.items number → number < length l.self-inside.problem.now.rules;
  found : AreFoundBefore l.self-inside.lists l.query l.atom-index l.numbers.items;
}
