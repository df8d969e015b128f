-- The query's variables are numbered by first occurrence.
use Rattle.ucq_reader.proofs.Making.{query_safe, query_made}
use Rattle.ucq_reader.proofs.made.query.Goals as goal

pub stored_query-requires-clause-safe : goal.stored_query-requires-clause-safe
stored_query-requires-clause-safe c = query_safe c.value_atoms.new.names c.in_ok-vec.field-0.items c.in_ok-atoms.atoms.items c.in_ok-vec.ensures.items c.in_ok-atoms.ensures.atoms

pub returns-in-Ok-clause-query : goal.returns-in-Ok-clause-query
returns-in-Ok-clause-query c = query_made c.value_atoms.new.names c.in_ok-vec.field-0.items c.in_ok-atoms.atoms.items c.in-Ok.query c.in_ok-vec.ensures.items c.in_ok-atoms.ensures.atoms c.in-Ok.ensures.query
