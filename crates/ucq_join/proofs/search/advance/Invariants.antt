use Rattle.std.proofs.Common.{◌≡◌, ◌≤◌, vec_len}
use Rattle.ucq_join.proofs.Steps.{IsSearching}
use Rattle.ucq_join.proofs.search.advance.Given as goal

abbrev pub decreases-loop-place : goal.decreases-loop-place
decreases-loop-place l = vec_len l.members

abbrev pub invariant-loop-place : goal.invariant-loop-place
invariant-loop-place l = record {
  numbers : l.classes.numbers ≡ l.initial.classes.numbers;
  searching : IsSearching (record { query = l.query; rule = l.rule; pieces = l.pieces; present = l.initial.members.items }) l.members.items l.start;
  fewer : vec_len l.members ≤ vec_len l.initial.members;
}
