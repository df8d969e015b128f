-- The head has both variables, in order of their numbers.
use Rattle.std.proofs.Common.{◌∙◌}
use Rattle.ucq_reader.proofs.Making.{last_made}
use Rattle.ucq_reader.proofs.made.last_rule.Goals as goal

pub returns-clause-rule : goal.returns-clause-rule
returns-clause-rule c =
    c.in_ok-rule.ensures ∙
    last_made c.value_atoms.new.names c.atom.new.names c.as_slice.result.now c.in_ok-body.body c.in_ok-heads.heads.items c.in_ok-vec.field-0.items c.in_ok-heads.ensures.atoms c.as_slice.ensures
    c.in_ok-body.ensures.names c.in_ok-body.ensures.name c.in_ok-body.ensures.terms c.in_ok-vec.ensures.items
