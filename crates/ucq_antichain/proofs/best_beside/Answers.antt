use Rattle.std.proofs.Common.{◌≡◌, ◌+◌, ◌*◌, ◌<◌, ℕ, get_or, ap, ◌∙◌, arith, subst}
use Rattle.std.specs.Int.{bit_at}
use Rattle.ucq_hom.specs.Signature.{Marks}
use Rattle.ucq_antichain.specs.inner.Chains.{Chained, IsInChain}
use Rattle.ucq_antichain.specs.inner.Walks.{NoneEarlier}
use Rattle.ucq_antichain.proofs.Walked.{none_beside_any, passed_over, one_beside, all_beside}
use Rattle.ucq_antichain.proofs.best_beside.Goals as goal

-- what the chains tell of those without a row
abbrev Empty : Chained → ℕ → ℕ → ℕ → Type 0
Empty chains others filled first = (j : ℕ) → j < 128 → bit_at others j ≡ 1 → bit_at filled j ≡ 0 → (row : ℕ) → ¬ IsInChain chains (128 * first + j) row

pub loop-second-init : goal.loop-second-init
loop-second-init c =
    let others = c.others.ensures ∙ ap (λ (s : Marks). s.second) c.signature.ensures in
    let ensured = subst (λ (k : Chained). Empty k c.others.result c.filled-filled.result c.args.first) c.chains-chains.ensures.chains c.filled-filled.ensures in
    let empty = subst (λ (o : ℕ). Empty c.args.index.now.chains o c.filled-filled.result c.args.first) others ensured in
    record {
      clear = c.requires.clear;
      low = c.next_bit-second.ensures.within;
      best = c.requires.best;
      earlier = omega arith;
      none =
          passed_over c.args.rows.now c.args.query.now c.args.index.now.chains c.args.marked.now.second c.filled-filled.result c.args.first 0 c.next_bit-second.result c.args.best
          empty c.next_bit-second.ensures.none
          (none_beside_any c.args.rows.now c.args.query.now c.args.index.now.chains c.args.marked.now.second c.args.first c.args.best);
    }

pub loop-second-preserved : goal.loop-second-preserved
loop-second-preserved c =
    let inv = c.loop-second.invariant in
    let chains = c.args.index.now.chains in
    let rows = c.args.rows.now in
    let q = c.args.query.now in
    let second = c.loop-second.second in
    let next = c.next_bit-second-in-loop-second in
    let found = c.best_in_chain-found in
    let others = c.others.ensures ∙ ap (λ (s : Marks). s.second) c.signature.ensures in
    let ensured = subst (λ (k : Chained). Empty k c.others.result c.filled-filled.result c.args.first) c.chains-chains.ensures.chains c.filled-filled.ensures in
    let empty = subst (λ (o : ℕ). Empty chains o c.filled-filled.result c.args.first) others ensured in
    let head : c.head-from.result ≡ get_or chains.heads (128 * c.args.first + second) 0 =
    c.head-from.ensures.head ∙ ap (λ (k : Chained). get_or k.heads c.pair.result 0) c.chains-chains.ensures.chains ∙ ap (λ (k : ℕ). get_or chains.heads k 0) c.pair.ensures in
    record {
      clear = found.ensures.clear;
      low = next.ensures.within;
      best = found.ensures.best;
      earlier = let e = inv.earlier in let f = found.ensures.earlier in omega (arith, e, f);
      none =
          passed_over rows q chains c.args.marked.now.second c.filled-filled.result c.args.first (second + 1) next.result found.result empty next.ensures.none
          (one_beside rows q chains c.args.marked.now.second c.args.first second c.loop-second.found found.result found.ensures.earlier
          (subst (λ (k : ℕ). NoneEarlier rows q chains k found.result) head found.ensures.none) inv.none);
    }

pub returns-clause-none : goal.returns-clause-none
returns-clause-none c =
    all_beside c.args.rows.now c.args.query.now c.args.index.now.chains c.args.marked.now.second c.args.first c.loop-second.second c.loop-second.found (omega arith) c.loop-second.invariant.none
