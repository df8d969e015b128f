use Rattle.std.proofs.Common.{ℕ, inl, inr, get_or, sym, arith, subst}
use Rattle.std.proofs.lemmas.Bool.{cases_eq}
use Rattle.ucq_antichain.specs.inner.Walks.{NoneBeside}
use Rattle.ucq_antichain.proofs.Walked.{still_none, still_beside, best_is_first, none_is_first}
use Rattle.ucq_antichain.proofs.first_cover.Goals as goal

pub loop-first-preserved : goal.loop-first-preserved
loop-first-preserved c =
    let inv = c.loop-first.invariant in
    let chains = c.args.index.now.chains in
    let rows = c.args.rows.now in
    let q = c.args.query.now in
    let found = c.best_beside-best in
    record {
      clear = found.ensures.clear;
      best = found.ensures.best;
      pair_less = still_none rows q chains (get_or chains.heads 16384 0) c.loop-first.best found.result found.ensures.earlier inv.pair_less;
      each = λ k l. elim (cases_eq k c.loop-first.first-index) [
        | inl e ↦ subst (λ (i : ℕ). NoneBeside rows q chains c.args.marked.now.second (get_or c.marks-first-items.result.now i 0) found.result) (sym e) found.ensures.none
        | inr ne ↦ still_beside rows q chains c.args.marked.now.second (get_or c.marks-first-items.result.now k 0) c.loop-first.best found.result found.ensures.earlier (inv.each k (omega (arith, l, ne)))
      ];
    }

pub returns-then-best-none-clause-cover : goal.returns-then-best-none-clause-cover
returns-then-best-none-clause-cover c =
    let inv = c.loop-first.invariant in
    best_is_first c.args.index.now c.args.rows.now c.args.query.now c.args.marked.now c.marks-first-items.result.now c.loop-first.best c.requires.index c.requires.marked c.marks-first-items.ensures
    c.chains.ensures.keyed inv.pair_less
    (λ k l. inv.each k (omega (arith, l, c.loop-first-test.false, c.loop-first.auto.first-index-end))) inv.best (omega arith)

pub returns-else-best-none-clause-cover : goal.returns-else-best-none-clause-cover
returns-else-best-none-clause-cover c =
    let inv = c.loop-first.invariant in
    none_is_first c.args.index.now c.args.rows.now c.args.query.now c.args.marked.now c.marks-first-items.result.now c.loop-first.best c.requires.index c.requires.marked c.marks-first-items.ensures
    c.chains.ensures.keyed inv.pair_less
    (λ k l. inv.each k (omega (arith, l, c.loop-first-test.false, c.loop-first.auto.first-index-end))) (omega arith)
