use Rattle.std.proofs.Common.{◌≡◌, ◌∙◌, ◌*◌, ◌+◌, ℕ, subst, arith}
use Rattle.ucq_antichain.specs.inner.Walks.{IsPrunedFrom}
use Rattle.ucq_antichain.proofs.Pruned.{pruned_further, all_pruned}
use Rattle.ucq_antichain.proofs.prune.Goals as goal

pub returns-clause-pruned : goal.returns-clause-pruned
returns-clause-pruned c =
    all_pruned c.args.query.now c.args.rows.now c.loop-group.rows (4096 * c.loop-group.group) c.loop-group.pruned c.loop-group.invariant.pruned
    (omega (arith, c.groups-group-end.ensures.enough, c.requires.index.size, c.loop-group-test.false))

pub loop-group-preserved : goal.loop-group-preserved
loop-group-preserved c =
    let inv = c.loop-group.invariant in
    let q = c.args.query.now in
    let from : ℕ = 4096 * c.loop-group.group in
    let after = c.prune_group-pruned.new.rows in
    let n = c.prune_group-pruned.result in
    let e : from + 4096 ≡ 4096 * (c.loop-group.group + 1) = omega arith in
    record {
      clear = c.prune_group-pruned.ensures.clear;
      index = c.prune_group-pruned.ensures.index;
      groups = c.prune_group-pruned.ensures.groups ∙ inv.groups;
      pruned =
          subst (λ (to : ℕ). IsPrunedFrom q c.args.rows.now after 0 to (c.loop-group.pruned + n)) e
          (pruned_further q c.args.rows.now c.loop-group.rows after 0 from (from + 4096) c.loop-group.pruned n (omega arith) (omega arith) inv.pruned c.prune_group-pruned.ensures.pruned);
    }
