-- The numbers that were given are those of the texts.
use Rattle.ucq_reader.proofs.Making.{binary_made}
use Rattle.ucq_reader.proofs.made.binary.Goals as goal

pub returns-clause-atom : goal.returns-clause-atom
returns-clause-atom c =
    binary_made c.args.names.now c.number.new.self c.number-2.new.self c.number-3.new.self c.args.name.now c.args.first.now c.args.second.now c.in_ok-name.name c.in_ok-first.first
    c.in_ok-second.second c.new.result c.in_ok-terms.terms.items c.in_ok-name.ensures.names c.in_ok-name.ensures.number c.in_ok-first.ensures.names c.in_ok-first.ensures.number
    c.in_ok-second.ensures.names c.in_ok-second.ensures.number c.new.ensures c.in_ok-terms.ensures.items
