-- The rule's one variable has the number 0.
use Rattle.std.proofs.Common.{◌∙◌}
use Rattle.ucq_reader.proofs.Making.{chain_made}
use Rattle.ucq_reader.proofs.made.chain_rule.Goals as goal

pub returns-clause-rule : goal.returns-clause-rule
returns-clause-rule c =
    c.in_ok-rule.ensures ∙
    chain_made c.args.i c.atom.new.names c.atom-2.new.names c.as_bytes.result.now c.as_bytes-2.result.now c.in_ok-head.head c.in_ok-body.body c.in_ok-heads.heads.items c.in_ok-vec.field-0.items
    (c.as_bytes.ensures.value ∙ c.in_ok-lower.ensures) (c.as_bytes-2.ensures.value ∙ c.in_ok-upper.ensures) c.in_ok-body.ensures.names c.in_ok-head.ensures.name c.in_ok-head.ensures.terms
    c.in_ok-body.ensures.name c.in_ok-body.ensures.terms c.in_ok-heads.ensures.items c.in_ok-vec.ensures.items
