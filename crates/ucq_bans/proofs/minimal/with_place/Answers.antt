use Rattle.std.proofs.Common.{List, ℕ, ◌+◌, sym, subst}
use Rattle.ucq_bans.specs.inner.Parts.{AreBeginning, AreSortedBehind, IsCutAt}
use Rattle.ucq_bans.proofs.Parts.{AreBeginning-cut, AreSortedBehind-drop, rest_is, cut_is}
use Rattle.ucq_bans.proofs.minimal.with_place.Goals as goal

pub count_before-end-requires : goal.count_before-end-requires
count_before-end-requires c =
    subst (AreSortedBehind c.args.depth) (sym (rest_is (λ v. v.items) c.count_before-start.result c.args.sets.now))
    (AreSortedBehind-drop c.args.depth c.count_before-start.result _ c.requires)

pub returns : goal.returns
returns c =
    subst (AreBeginning c.args.depth c.args.place _) (sym (cut_is (λ v. v.items) c.count_before-start.result c.count_before-end.result c.args.sets.now))
    (AreBeginning-cut c.args.depth c.args.place _ c.count_before-start.result c.count_before-end.result c.requires c.count_before-start.ensures.cut
    (subst (λ (xs : List (List ℕ)). IsCutAt c.args.depth (c.args.place + 1) xs c.count_before-end.result)
    (rest_is (λ v. v.items) c.count_before-start.result c.args.sets.now) c.count_before-end.ensures.cut))
