-- The numbers that were given are those of the texts.
use Rattle.ucq_reader.proofs.Making.{unary_made}
use Rattle.ucq_reader.proofs.made.unary.Goals as goal

pub returns-clause-atom : goal.returns-clause-atom
returns-clause-atom c =
    unary_made c.args.names.now c.number.new.self c.number-2.new.self c.args.name.now c.args.argument.now c.in_ok-name.name c.in_ok-argument.argument c.new.result c.in_ok-terms.terms.items
    c.in_ok-name.ensures.names c.in_ok-name.ensures.number c.in_ok-argument.ensures.names c.in_ok-argument.ensures.number c.new.ensures c.in_ok-terms.ensures.items
