use Rattle.std.proofs.Common.{arith}
use Rattle.ucq_reader.proofs.Counting.{many_facts, many_queries, no_query, some_queries}
use Rattle.ucq_reader.proofs.files.whole_fault.Goals as goal

pub returns-then-facts-clause-whole : goal.returns-then-facts-clause-whole
returns-then-facts-clause-whole c = λ all h. many_facts all c.args.gathered.now c.rule_count-rules.result c.fact_count-facts.result h c.rule_count-rules.ensures (omega arith) c.fact_count-facts.ensures (omega arith)

pub returns-then-queries-gt-QUERIES-clause-whole : goal.returns-then-queries-gt-QUERIES-clause-whole
returns-then-queries-gt-QUERIES-clause-whole c = λ all h. many_queries all c.args.gathered.now c.rule_count-rules.result c.fact_count-facts.result h c.rule_count-rules.ensures (omega arith) c.fact_count-facts.ensures (omega arith) c.query_count-queries.result c.query_count-queries.ensures (omega arith)

pub returns-then-queries-eq0-clause-whole : goal.returns-then-queries-eq0-clause-whole
returns-then-queries-eq0-clause-whole c = λ all h. no_query all c.args.gathered.now c.rule_count-rules.result c.fact_count-facts.result h c.rule_count-rules.ensures (omega arith) c.fact_count-facts.ensures (omega arith) (omega (arith, c.query_count-queries.ensures))

pub returns-clause-whole : goal.returns-clause-whole
returns-clause-whole c = λ all h. some_queries all c.args.gathered.now c.rule_count-rules.result c.fact_count-facts.result h c.rule_count-rules.ensures (omega arith) c.fact_count-facts.ensures (omega arith) (omega (arith, c.query_count-queries.ensures)) (omega (arith, c.query_count-queries.ensures))
