use Rattle.std.proofs.Common.{ℕ, List, refl, subst}
use Rattle.std.specs.List.Sorted.{IsPermutation}
use Rattle.std.proofs.lemmas.List.Filters.{dedup_is}
use Rattle.ucq_bans.proofs.Sets.{IsGrownBy-inserted, IsGrownBy-set, IsSetOf-sorted}
use Rattle.ucq_bans.proofs.search.add.Goals as goal

pub returns : goal.returns
returns c =
    let set = c.dedup.new.self.items in
    let made = IsSetOf-sorted c.args.chosen.now c.sort_unstable.new.self.items set
    (subst (λ (xs : List ℕ). IsPermutation xs c.sort_unstable.new.self.items) c.in_ok-set.ensures.items c.sort_unstable.ensures.permutation)
    c.sort_unstable.ensures.sorted (dedup_is _ c.sort_unstable.new.self.items set c.dedup.ensures.filtered) in
    IsGrownBy-set c.args.chosen.now set _ _ made
    (rw c.in_ok-_added.ensures.keys (IsGrownBy-inserted (λ t. t.items) c.args.found.now.keys c.dedup.new.self set refl))
