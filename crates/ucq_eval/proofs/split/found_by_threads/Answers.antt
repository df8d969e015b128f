use Rattle.std.proofs.Common.{◌≡◌, ◌<◌, ◌-◌, ◌∙◌, length, ap, arith, refl}
use Rattle.std.specs.List.{range_with_len}
use Rattle.rayon.specs.Numbers.{nat_range}
use Rattle.rayon.specs.Lists.{range_start, range_end, min_len_base, fold_base}
use Rattle.rayon.proofs.ToStd.{nat_range-All}
use Rattle.ucq_eval.proofs.Together.{found_by_lent}
use Rattle.ucq_eval.proofs.split.found_by_threads.Goals as goal

pub reduce-requires-clause-ready : goal.reduce-requires-clause-ready
reduce-requires-clause-ready g c κs within =
    let ends = c.into_par_iter.ensures in
    let size : c.len.result ≡ length c.args.union.now = c.len.ensures in
    let inside = nat_range-All (λ place. place < length c.args.union.now) 0 c.len.result (λ i low high. omega (arith, high, size)) in
    (tt, rw (c.map.ensures.base, c.fold.ensures.base, c.fold.ensures.op, c.with_min_len.ensures.base, ends.0, ends.1) (λ k d lt a. inside k d lt), λ u. (tt, λ y h. tt))

pub returns : goal.returns
returns g c =
    let ends = c.into_par_iter.ensures in
    let done = c.reduce.ensures in
    let chain = done.1 in
    let folds = chain.1 in
    let n = length c.args.union.now in
    let size : c.len.result - 0 ≡ n = omega (arith, c.len.ensures) in
    let whole =
    folds.1
    ∙ (λ i. nat_range (range_start (min_len_base (fold_base (c.map.ensures.base i)))) (range_end (min_len_base (fold_base (c.map.ensures.base i)))))
    ∙ (λ i. nat_range (range_start (min_len_base (c.fold.ensures.base i))) (range_end (min_len_base (c.fold.ensures.base i))))
    ∙ (λ i. nat_range (range_start (c.with_min_len.ensures.base i)) (range_end (c.with_min_len.ensures.base i)))
    ∙ (λ i. nat_range (ends.0 i) (ends.1 i)) ∙ ap (range_with_len 0) size in
    found_by_lent c.args.union.now c.args.facts.now _ _ folds.0 chain.0 done.0 c.reduce.result whole folds.2 chain.2 done.2
    (rw (c.map.ensures.base, c.fold.ensures.op) refl) (rw (c.map.ensures.base, c.fold.ensures.op) refl)
