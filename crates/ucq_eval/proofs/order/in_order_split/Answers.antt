use Rattle.std.proofs.Common.{◌≡◌, ap, arith, length, map, subst, sym, take_at}
use Rattle.std.specs.List.Sorted.{IsPermutation}
use Rattle.ucq_eval.specs.Order.{AreInOrder, HaveTexts, tuples_beside}
use Rattle.ucq_eval.proofs.Sorting.{have_texts, ordered}
use Rattle.ucq_eval.proofs.order.in_order_split.Goals as goal

pub returns-clause-order : goal.returns-clause-order
returns-clause-order g c =
    let before = c.in_ok-all.all.items in
    let after = c.par_sort_unstable.new.s in
    let lent = c.as_mut_slice.ensures.value in
    let permuted = subst (λ xs. IsPermutation xs after) lent c.par_sort_unstable.ensures.permutation in
    let long : length after ≡ c.in_ok-all.all.len = omega (arith, c.in_ok-all.all.ok, c.par_sort_unstable.ensures.len, ap length lent) in
    subst (λ xs. AreInOrder c.args.names.now (map (λ t. t.items) c.args.found.keys) (tuples_beside xs)) (sym (take_at after _ c.in_ok-all.all.len long))
    (ordered c.args.names.now _ before after c.in_ok-all.ensures c.differ.ensures permuted c.par_sort_unstable.ensures.sorted)

pub returns-clause-texts : goal.returns-clause-texts
returns-clause-texts g c =
    let before = c.in_ok-all.all.items in
    let after = c.par_sort_unstable.new.s in
    let lent = c.as_mut_slice.ensures.value in
    let permuted = subst (λ xs. IsPermutation xs after) lent c.par_sort_unstable.ensures.permutation in
    let long : length after ≡ c.in_ok-all.all.len = omega (arith, c.in_ok-all.all.ok, c.par_sort_unstable.ensures.len, ap length lent) in
    subst (λ xs. HaveTexts c.args.names.now xs) (sym (take_at after _ c.in_ok-all.all.len long))
    (have_texts c.args.names.now _ before after c.in_ok-all.ensures permuted)
