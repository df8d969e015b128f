use Rattle.std.proofs.Common.{◌-◌, length, arith}
use Rattle.std.proofs.lemmas.List.Elements.{Contains-get_or}
use Rattle.ucq_join.proofs.search.start_after.Goals as goal

pub next_place-requires : goal.next_place-requires
next_place-requires c = c.requires _ (Contains-get_or c.args.members.now (length c.args.members.now - 1) 0 (omega arith))
