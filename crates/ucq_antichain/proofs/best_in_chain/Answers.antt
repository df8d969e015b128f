use Rattle.std.proofs.Common.{◌≡◌, ◌-◌, ◌+◌, ◌<◌, ℕ, get_or, ap, ◌∙◌, arith}
use Rattle.ucq_antichain.specs.inner.Chains.{Chained}
use Rattle.ucq_antichain.proofs.Walked.{one_further, all_seen}
use Rattle.ucq_antichain.proofs.best_in_chain.Goals as goal

pub loop-link-preserved : goal.loop-link-preserved
loop-link-preserved c =
    let inv = c.loop-link.invariant in
    let chains = c.args.index.now.chains in
    let link = c.loop-link.link in
    let some : 0 < link = c.loop-link-test.true in
    let row : ℕ = link - 1 in
    let at : link ≡ row + 1 = omega (arith, some) in
    let after : c.after-link.result ≡ get_or chains.next link 0 = c.after-link.ensures.after ∙ ap (λ (k : Chained). get_or k.next link 0) c.chains-chains.ensures.chains in
    record {
      clear = c.better-found.ensures.clear;
      within = let w = inv.within in let l = c.after-link.ensures.falls in omega (arith, w, l);
      best = c.better-found.ensures.best;
      earlier = let e = inv.earlier in let f = c.better-found.ensures.earlier in omega (arith, e, f);
      seen =
          one_further c.args.rows.now c.args.query.now chains c.args.from link c.after-link.result c.loop-link.found c.better-found.result row inv.seen c.better-found.ensures.earlier at after
          c.better-found.ensures.here;
    }

pub returns-clause-none : goal.returns-clause-none
returns-clause-none c =
    all_seen c.args.rows.now c.args.query.now c.args.index.now.chains c.args.from c.loop-link.link c.loop-link.found c.chains-chains.ensures.keyed.ends (omega arith) c.loop-link.invariant.seen
