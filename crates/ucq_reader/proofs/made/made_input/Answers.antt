-- The rules, the query and the facts, one after another.
use Rattle.std.proofs.Common.{arith}
use Rattle.ucq_reader.specs.Outcome.{input_value}
use Rattle.ucq_reader.proofs.Making.{query_done, made_numbered, one_query}
use Rattle.ucq_reader.proofs.made.made_input.Goals as goal

pub push_facts-requires-clause-none : goal.push_facts-requires-clause-none
push_facts-requires-clause-none c = query_done c.args.n c.push_rules.new.self c.ask.new.self c.in_ok-ask.ensures c.in_ok-push_rules.ensures

pub returns-clause-numbered : goal.returns-clause-numbered
returns-clause-numbered c =
    made_numbered c.args.n c.push_facts.new.self (input_value c.into_input.result) c.in_ok-push_facts.ensures
    (record { names = c.into_input.ensures.names; rules = c.into_input.ensures.rules; facts = c.into_input.ensures.facts; queries = c.into_input.ensures.queries })

pub returns-clause-one_query : goal.returns-clause-one_query
returns-clause-one_query c =
    one_query c.args.n (input_value c.into_input.result)
    (made_numbered c.args.n c.push_facts.new.self (input_value c.into_input.result) c.in_ok-push_facts.ensures
    (record { names = c.into_input.ensures.names; rules = c.into_input.ensures.rules; facts = c.into_input.ensures.facts; queries = c.into_input.ensures.queries }))

pub returns-clause-queries : goal.returns-clause-queries
returns-clause-queries c =
    let one =
    one_query c.args.n (input_value c.into_input.result)
    (made_numbered c.args.n c.push_facts.new.self (input_value c.into_input.result) c.in_ok-push_facts.ensures
    (record { names = c.into_input.ensures.names; rules = c.into_input.ensures.rules; facts = c.into_input.ensures.facts; queries = c.into_input.ensures.queries })) in
    (omega (arith, one), omega (arith, one))
