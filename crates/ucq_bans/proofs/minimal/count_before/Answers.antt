use Rattle.std.proofs.Common.{leb, drop, rules}
use Rattle.std.proofs.lemmas.List.Sorted.{IsPartitionPoint-from_clause, IsPartitionedBy-leb}
use Rattle.ucq_bans.specs.inner.Parts.{key_of}
use Rattle.ucq_bans.proofs.Parts.{keys_rise_of, IsCutAt-point}
use Rattle.ucq_bans.proofs.minimal.count_before.Goals as goal

pub returns-clause-cut : goal.returns-clause-cut
returns-clause-cut c =
    let rise = keys_rise_of (λ v. v.items) c.args.depth c.args.sets.now c.requires in
    let parted = IsPartitionedBy-leb (λ v. key_of (drop c.args.depth v.items)) c.args.sets.now c.args.end rise in
    IsCutAt-point (λ v. v.items) c.args.depth c.args.sets.now c.args.end c.partition_point.result
    (IsPartitionPoint-from_clause (λ v. leb (key_of (drop c.args.depth v.items)) c.args.end) c.args.sets.now c.partition_point.result
    c.partition_point.ensures.partitioned parted (λ a r q k. search rules))
