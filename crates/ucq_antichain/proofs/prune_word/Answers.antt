use Rattle.std.proofs.Common.{◌≡◌, refl, ◌+◌, ◌*◌, ◌<◌, ◌≤◌, ◌∙◌, sym, cond, add-zero, Bool, ℕ, true, false, subst, arith}
use Rattle.std.specs.Prelude.{min}
use Rattle.ucq_antichain.specs.inner.Walks.{IsPrunedFrom, NoneCovered}
use Rattle.ucq_antichain.proofs.Pruned.{none_die, one_dies, none_still, pruned_on}
use Rattle.ucq_antichain.proofs.Walked.{none_in_word}
use Rattle.ucq_antichain.proofs.prune_word.Goals.{then-dies_at, else-dies_at}
use Rattle.ucq_antichain.proofs.prune_word.Goals as goal

counted_one : (b : Bool) (n m : ℕ) (d : Bool) → b ≡ d → m ≡ n + cond d 1 0 → m ≡ n + cond b 1 0
counted_one b n m d is e = subst (λ (x : Bool). m ≡ n + cond x 1 0) (sym is) e

pub loop-bit-init : goal.loop-bit-init
loop-bit-init c =
    let q = c.args.query.now in
    let start : 64 * c.args.word + 0 ≡ 64 * c.args.word = omega arith in
    let to : ℕ = min c.next_bit-bit.result 64 in
    record {
      clear = c.requires.clear;
      low = c.next_bit-bit.ensures.within;
      index = c.requires.index;
      groups = refl;
      pruned =
          none_die q c.args.rows.now (64 * c.args.word) (64 * c.args.word + to)
          (subst (λ (from : ℕ). NoneCovered c.args.rows.now q from (64 * c.args.word + to)) start
          (none_in_word c.args.index.now c.args.rows.now q c.args.marked.now c.requires.index c.requires.marked c.args.word c.rows-among.result 0 to (omega arith) c.rows-among.ensures
          (λ j l m. c.next_bit-bit.ensures.none j l (omega (arith, m)))));
    }

pub loop-bit-preserved : goal.loop-bit-preserved
loop-bit-preserved c =
    let inv = c.loop-bit.invariant in
    let q = c.args.query.now in
    let bit = c.loop-bit.bit in
    let place : ℕ = 64 * c.args.word + bit in
    let after = c.dies_at.new.rows in
    let next = c.next_bit-bit-in-loop-bit in
    let to : ℕ = min next.result 64 in
    let low : bit < 64 = c.loop-bit-test.true in
    let here : 64 * c.args.word + min bit 64 ≡ place = omega (arith, low) in
    let one : 64 * c.args.word + (bit + 1) ≡ place + 1 = omega arith in
    let beyond : bit + 1 ≤ next.result = next.ensures.from in
    let counted : c.if-dies_at.pruned ≡ c.loop-bit.pruned + cond c.dies_at.result 1 0 = elim c.if-dies_at.branch [
      | then-dies_at w ↦ counted_one c.dies_at.result c.loop-bit.pruned c.if-dies_at.pruned true w.if-dies_at.true w.pruned-is
      | else-dies_at w ↦ counted_one c.dies_at.result c.loop-bit.pruned c.if-dies_at.pruned false w.if-dies_at.false (w.pruned-is ∙ sym (add-zero c.loop-bit.pruned))
    ] in
    let past : ℕ = 64 * c.args.word + to in
    let none : NoneCovered c.args.rows.now q (64 * c.args.word + (bit + 1)) past =
    none_in_word c.args.index.now c.args.rows.now q c.args.marked.now c.requires.index c.requires.marked c.args.word c.rows-among.result (bit + 1) to (omega arith) c.rows-among.ensures
    (λ j l m. next.ensures.none j l (omega (arith, m))) in
    let died = one_dies q c.loop-bit.rows after place (place + 1) c.dies_at.result (omega arith) c.dies_at.ensures.dies in
    let still =
    none_still q c.loop-bit.rows after place (place + 1) (cond c.dies_at.result 1 0) (64 * c.args.word + (bit + 1)) past died
    (none_still q c.args.rows.now c.loop-bit.rows (64 * c.args.word) (64 * c.args.word + min bit 64) c.loop-bit.pruned (64 * c.args.word + (bit + 1)) past inv.pruned none) in
    record {
      clear = c.dies_at.ensures.clear;
      low = next.ensures.within;
      index = c.dies_at.ensures.index;
      groups = c.dies_at.ensures.groups ∙ inv.groups;
      pruned =
          subst (IsPrunedFrom q c.args.rows.now after (64 * c.args.word) (64 * c.args.word + to)) (sym counted)
          (pruned_on q c.args.rows.now c.loop-bit.rows after (64 * c.args.word) place (place + 1) (64 * c.args.word + to) c.loop-bit.pruned (cond c.dies_at.result 1 0) (omega arith) (omega arith)
          (omega (arith, low, beyond)) (subst (λ (t : ℕ). IsPrunedFrom q c.args.rows.now c.loop-bit.rows (64 * c.args.word) t c.loop-bit.pruned) here inv.pruned)
          died (subst (λ (from : ℕ). NoneCovered after q from past) one still));
    }
