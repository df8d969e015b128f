use Rattle.std.proofs.Common.{◌≡◌, ◌∙◌}
use Rattle.indexmap.proofs.CallerLemmas.{Drains-YieldsInOrder}
use Rattle.ucq_eval.proofs.Tuples.{IsGrownBy-all_inserted}
use Rattle.ucq_eval.proofs.split.put_into.Goals as goal

pub returns : goal.returns
returns c =
    let ran = c.in_ok-extend.ensures.ran in
    let all : ran.1 ≡ c.args.more.keys = Drains-YieldsInOrder _ _ ran.0 ran.1 ran.2.2 ran.4 ∙ ran.2.0 in
    rw (ran.3.0, all) (IsGrownBy-all_inserted (λ t. t.items) c.args.held.keys c.args.more.keys)
