use Rattle.std.proofs.Common.{◌≡◌, ◌∙◌}
use Rattle.indexmap.proofs.CallerLemmas.{Drains-YieldsInOrder}
use Rattle.ucq_bans.proofs.Ordering.{sets_in_order}
use Rattle.ucq_bans.proofs.violations.in_order.Goals as goal

pub returns : goal.returns
returns c =
    let ran = c.in_ok-sets.ensures.ran in
    let given = c.into_iter.ensures.into_iter_gives in
    let to_end = ran.1.2 tt in
    let taken = Drains-YieldsInOrder _ _ c.into_iter.result ran.0 given.2 (to_end.0, (ran.1.0, ran.1.1, to_end.1)) in
    let same : c.in_ok-sets.sets.items ≡ c.args.found.keys = ran.2.0 ∙ taken ∙ given.0 in
    sets_in_order (λ v. v.items) c.args.found.keys c.in_ok-sets.sets.items c.sort_unstable.new.self.items same c.sort_unstable.ensures.permutation
    c.sort_unstable.ensures.sorted c.len-sets.ensures.unique
