use Rattle.std.proofs.Common.{◌≡◌, ◌∙◌, ◌+◌, subst, arith, rules}
use Rattle.std.proofs.Math.ListN.{set}
use Rattle.std.proofs.lemmas.List.{length-set}
use Rattle.ucq_antichain.proofs.Listed.{AreBelow, none_below, below_skipped, below_added, all_listed}
use Rattle.ucq_antichain.proofs.marked.list_marks.Goals as goal

pub loop-mark-init : goal.loop-mark-init
loop-mark-init c = record {
  below = below_skipped c.args.list.now 0 c.args.marks 0 c.next_bit-mark.result (none_below c.args.list.now c.args.marks) c.next_bit-mark.ensures.from c.next_bit-mark.ensures.none;
  size = search rules;
  low = c.next_bit-mark.ensures.within;
  bit = c.next_bit-mark.ensures.has;
}

pub loop-mark-preserved : goal.loop-mark-preserved
loop-mark-preserved c =
    let inv = c.loop-mark.invariant in
    let mark = c.loop-mark.mark in
    let list = c.loop-mark.list in
    let count = c.loop-mark.count in
    let next = c.next_bit-mark-in-loop-mark in
    record {
      below =
          below_skipped (set list count mark) (count + 1) c.args.marks (mark + 1) next.result
          (below_added list count c.args.marks mark inv.below inv.size c.loop-mark-test.true (inv.bit c.loop-mark-test.true)) next.ensures.from next.ensures.none;
      size = length-set list count mark ∙ inv.size;
      low = next.ensures.within;
      bit = next.ensures.has;
    }

pub returns-clause-list : goal.returns-clause-list
returns-clause-list c =
    let inv = c.loop-mark.invariant in
    let low = inv.low in
    let all : c.loop-mark.mark ≡ 128 = omega (arith, low, c.loop-mark-test.false) in
    all_listed c.loop-mark.list c.loop-mark.count c.args.marks (subst (AreBelow c.loop-mark.list c.loop-mark.count c.args.marks) all inv.below) inv.size
