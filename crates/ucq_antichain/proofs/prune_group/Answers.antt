use Rattle.std.proofs.Common.{◌≡◌, refl, ◌∙◌, ◌+◌, ◌*◌, ◌<◌, ◌≤◌, ℕ, subst, arith}
use Rattle.std.specs.Prelude.{min}
use Rattle.ucq_antichain.specs.inner.Walks.{IsPrunedFrom, NoneCovered}
use Rattle.ucq_antichain.proofs.Pruned.{none_die, none_still, pruned_on}
use Rattle.ucq_antichain.proofs.Walked.{none_in_group}
use Rattle.ucq_antichain.proofs.prune_group.Goals as goal

pub loop-bit-init : goal.loop-bit-init
loop-bit-init c =
    let q = c.args.query.now in
    let group = c.args.group in
    let start : 64 * (64 * group + 0) ≡ 64 * (64 * group) = omega arith in
    let to : ℕ = min c.next_bit-bit.result 64 in
    record {
      clear = c.requires.clear;
      low = c.next_bit-bit.ensures.within;
      index = c.requires.index;
      groups = refl;
      pruned =
          none_die q c.args.rows.now (64 * (64 * group)) (64 * (64 * group + to))
          (subst (λ (from : ℕ). NoneCovered c.args.rows.now q from (64 * (64 * group + to))) start
          (none_in_group c.args.index.now c.args.rows.now q c.args.marked.now c.requires.index c.requires.marked group c.words-among.result 0 to (omega arith) c.words-among.ensures
          (λ j l m. c.next_bit-bit.ensures.none j l (omega (arith, m)))));
    }

pub loop-bit-preserved : goal.loop-bit-preserved
loop-bit-preserved c =
    let inv = c.loop-bit.invariant in
    let q = c.args.query.now in
    let group = c.args.group in
    let bit = c.loop-bit.bit in
    let before = c.loop-bit.rows in
    let after = c.prune_word-pruned.new.rows in
    let n = c.prune_word-pruned.result in
    let next = c.next_bit-bit-in-loop-bit in
    let to : ℕ = min next.result 64 in
    let low : bit < 64 = c.loop-bit-test.true in
    let from : ℕ = 64 * (64 * group + bit) in
    let past : ℕ = 64 * (64 * group + (bit + 1)) in
    let here : 64 * (64 * group + min bit 64) ≡ from = omega (arith, low) in
    let further : from + 64 ≡ past = omega arith in
    let beyond : bit + 1 ≤ next.result = next.ensures.from in
    let none : NoneCovered c.args.rows.now q past (64 * (64 * group + to)) =
    none_in_group c.args.index.now c.args.rows.now q c.args.marked.now c.requires.index c.requires.marked group c.words-among.result (bit + 1) to (omega arith) c.words-among.ensures
    (λ j l m. next.ensures.none j l (omega (arith, m))) in
    let still =
    none_still q before after from (from + 64) n past (64 * (64 * group + to)) c.prune_word-pruned.ensures.pruned
    (none_still q c.args.rows.now before (64 * (64 * group)) (64 * (64 * group + min bit 64)) c.loop-bit.pruned past (64 * (64 * group + to)) inv.pruned none) in
    record {
      clear = c.prune_word-pruned.ensures.clear;
      low = next.ensures.within;
      index = c.prune_word-pruned.ensures.index;
      groups = c.prune_word-pruned.ensures.groups ∙ inv.groups;
      pruned =
          pruned_on q c.args.rows.now before after (64 * (64 * group)) from past (64 * (64 * group + to)) c.loop-bit.pruned n (omega arith) (omega arith) (omega (arith, low, beyond))
          (subst (λ (t : ℕ). IsPrunedFrom q c.args.rows.now before (64 * (64 * group)) t c.loop-bit.pruned) here inv.pruned)
          (subst (λ (t : ℕ). IsPrunedFrom q before after from t n) further c.prune_word-pruned.ensures.pruned)
          still;
    }
