-- The places before were tested.
use Rattle.std.proofs.Common.{below_more, arith}
use Rattle.ucq_terms.proofs.Safety.{not_loose_at, IsLooseAt-within}
use Rattle.ucq_terms.proofs.queries.first_loose.Goals as goal

pub loop-place-preserved : goal.loop-place-preserved
loop-place-preserved c =
    below_more _ _ c.loop-place.invariant
    (not_loose_at (record { answers = c.args.answers.now; atoms = c.args.atoms.now }) c.loop-place.place _ c.is_loose.result c.is_loose.ensures c.if-is_loose.false)

pub returns : goal.returns
returns c =
    λ place l.
    let within = IsLooseAt-within (record { answers = c.args.answers.now; atoms = c.args.atoms.now }) place l in
    c.loop-place.invariant place (omega arith) l
