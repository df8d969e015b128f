use Rattle.std.proofs.Common.{◌≡◌, ◌≤◌, ◌+◌, sum, take, get_or, ap, arith}
use Rattle.std.proofs.lemmas.List.{take-take}
use Rattle.std.proofs.lemmas.List.Sums.{sum_by_more, sum_by-take-le}
use Rattle.ucq_classes.proofs.numbering.total.Goals as goal

pub overflow_add-total : goal.overflow_add-total
overflow_add-total c =
    let xs = c.args.numbers.now in
    let i = c.loop-i.i in
    let e : sum (take (i + 1) xs) ≡ sum (take i xs) + get_or xs i 0 = sum_by_more (λ x. x) xs i 0 (omega (arith, c.requires.count)) in
    let f : sum (take (i + 1) (take c.args.count xs)) ≡ sum (take (i + 1) xs) = ap sum (take-take (i + 1) c.args.count xs (omega arith)) in
    let g : sum (take (i + 1) (take c.args.count xs)) ≤ sum (take c.args.count xs) = sum_by-take-le (λ x. x) (take c.args.count xs) (i + 1) in
    omega (arith, c.requires.small, c.loop-i.invariant)
