-- One more statement, by what it is.
use Rattle.std.proofs.Common.{arith}
use Rattle.ucq_reader.specs.declared.syntax.SentenceForm.TheVariants.{Fact, Rule, Query, Constraint}
use Rattle.ucq_reader.proofs.Added.{on_ok, sentence_written, no_constraint, line_more}
use Rattle.ucq_reader.proofs.Added.{fact_terms, fact_count, fact_more, fact_names, fact_unknowns, rule_limits, rule_count, rule_more, rule_names, query_limits, query_count, query_more, query_names, query_room, query_asked}
use Rattle.ucq_reader.proofs.gathered.Gathered.add.Goals as goal

pub add_fact-requires : goal.add_fact-requires
add_fact-requires c =
    let is = sentence_written c.args.text.now c.args.statement.now c.in-Sentence.label c.in-Sentence.sentence (Fact c.in-Fact.atoms) c.in-Sentence.is c.in-Fact.is in
    let count = fact_count c.args.text.now c.args.declarations.now c.args.statement.now c.in-Sentence.label c.in-Fact.atoms is in
    record {
      few = fact_terms c.args.text.now c.args.declarations.now c.args.statement.now c.in-Sentence.label c.in-Fact.atoms is c.requires.accepted;
      names = omega (arith, c.requires.names, count);
      unknowns = omega (arith, c.requires.unknowns, count);
    }

pub add_rule-requires : goal.add_rule-requires
add_rule-requires c =
    let is = sentence_written c.args.text.now c.args.statement.now c.in-Sentence.label c.in-Sentence.sentence (Rule c.in-Rule.heads c.in-Rule.body) c.in-Sentence.is c.in-Rule.is in
    let limits = rule_limits c.args.text.now c.args.declarations.now c.args.statement.now c.in-Sentence.label c.in-Rule.heads c.in-Rule.body is c.requires.accepted in
    let count = rule_count c.args.text.now c.args.declarations.now c.args.statement.now c.in-Sentence.label c.in-Rule.heads c.in-Rule.body is in
    record {
      head_terms = limits.head_terms;
      body_terms = limits.body_terms;
      few_heads = limits.few_heads;
      few_body = limits.few_body;
      names = omega (arith, c.requires.names, count);
    }

pub add_query-requires : goal.add_query-requires
add_query-requires c =
    let is = sentence_written c.args.text.now c.args.statement.now c.in-Sentence.label c.in-Sentence.sentence (Query c.in-Query.answers c.in-Query.body) c.in-Sentence.is c.in-Query.is in
    let limits = query_limits c.args.text.now c.args.declarations.now c.args.statement.now c.in-Sentence.label c.in-Query.answers c.in-Query.body is c.requires.accepted in
    let count = query_count c.args.text.now c.args.declarations.now c.args.statement.now c.in-Sentence.label c.in-Query.answers c.in-Query.body is in
    record {
      body_terms = limits.body_terms;
      few_body = limits.few_body;
      few_answers = limits.few_answers;
      safe = limits.safe;
      names = omega (arith, c.requires.names, count);
      asked = query_room c.args.text.now c.args.declarations.now c.args.statement.now c.in-Sentence.label c.in-Query.answers c.in-Query.body is c.args.self.now.asked c.requires.asked;
    }

pub unreachable-requires : goal.unreachable-requires
unreachable-requires c =
    let is = sentence_written c.args.text.now c.args.statement.now c.in-Sentence.label c.in-Sentence.sentence (Constraint c.in-Constraint.field-0) c.in-Sentence.is c.in-Constraint.is in
    no_constraint c.args.text.now c.args.declarations.now c.args.statement.now c.in-Sentence.label c.in-Constraint.field-0 is c.requires.accepted

pub returns-in-Fact-clause-gathered : goal.returns-in-Fact-clause-gathered
returns-in-Fact-clause-gathered c =
    let is = sentence_written c.args.text.now c.args.statement.now c.in-Sentence.label c.in-Sentence.sentence (Fact c.in-Fact.atoms) c.in-Sentence.is c.in-Fact.is in
    on_ok c.add_fact.result _ _ (fact_more c.args.text.now c.args.declarations.now c.args.statement.now c.in-Sentence.label c.in-Fact.atoms is c.args.self.now c.add_fact.new.self) c.add_fact.ensures.added

pub returns-in-Fact-clause-names_grow : goal.returns-in-Fact-clause-names_grow
returns-in-Fact-clause-names_grow c =
    let is = sentence_written c.args.text.now c.args.statement.now c.in-Sentence.label c.in-Sentence.sentence (Fact c.in-Fact.atoms) c.in-Sentence.is c.in-Fact.is in
    on_ok c.add_fact.result _ _ (fact_names c.args.text.now c.args.declarations.now c.args.statement.now c.in-Sentence.label c.in-Fact.atoms is c.args.self.now c.add_fact.new.self) c.add_fact.ensures.added

pub returns-in-Fact-clause-unknowns_grow : goal.returns-in-Fact-clause-unknowns_grow
returns-in-Fact-clause-unknowns_grow c =
    let is = sentence_written c.args.text.now c.args.statement.now c.in-Sentence.label c.in-Sentence.sentence (Fact c.in-Fact.atoms) c.in-Sentence.is c.in-Fact.is in
    on_ok c.add_fact.result _ _ (fact_unknowns c.args.text.now c.args.declarations.now c.args.statement.now c.in-Sentence.label c.in-Fact.atoms is c.args.self.now c.add_fact.new.self) c.add_fact.ensures.added

pub returns-in-Rule-clause-gathered : goal.returns-in-Rule-clause-gathered
returns-in-Rule-clause-gathered c =
    let is = sentence_written c.args.text.now c.args.statement.now c.in-Sentence.label c.in-Sentence.sentence (Rule c.in-Rule.heads c.in-Rule.body) c.in-Sentence.is c.in-Rule.is in
    on_ok c.add_rule.result _ _ (rule_more c.args.text.now c.args.declarations.now c.args.statement.now c.in-Sentence.label c.in-Rule.heads c.in-Rule.body is c.args.self.now c.add_rule.new.self) c.add_rule.ensures.added

pub returns-in-Rule-clause-names_grow : goal.returns-in-Rule-clause-names_grow
returns-in-Rule-clause-names_grow c =
    let is = sentence_written c.args.text.now c.args.statement.now c.in-Sentence.label c.in-Sentence.sentence (Rule c.in-Rule.heads c.in-Rule.body) c.in-Sentence.is c.in-Rule.is in
    on_ok c.add_rule.result _ _ (rule_names c.args.text.now c.args.declarations.now c.args.statement.now c.in-Sentence.label c.in-Rule.heads c.in-Rule.body is c.args.self.now c.add_rule.new.self) c.add_rule.ensures.added

pub returns-in-Query-clause-gathered : goal.returns-in-Query-clause-gathered
returns-in-Query-clause-gathered c =
    let is = sentence_written c.args.text.now c.args.statement.now c.in-Sentence.label c.in-Sentence.sentence (Query c.in-Query.answers c.in-Query.body) c.in-Sentence.is c.in-Query.is in
    on_ok c.add_query.result _ _ (query_more c.args.text.now c.args.declarations.now c.args.statement.now c.in-Sentence.label c.in-Query.answers c.in-Query.body is c.args.self.now c.add_query.new.self) c.add_query.ensures.added

pub returns-in-Query-clause-names_grow : goal.returns-in-Query-clause-names_grow
returns-in-Query-clause-names_grow c =
    let is = sentence_written c.args.text.now c.args.statement.now c.in-Sentence.label c.in-Sentence.sentence (Query c.in-Query.answers c.in-Query.body) c.in-Sentence.is c.in-Query.is in
    on_ok c.add_query.result _ _ (query_names c.args.text.now c.args.declarations.now c.args.statement.now c.in-Sentence.label c.in-Query.answers c.in-Query.body is c.args.self.now c.add_query.new.self) c.add_query.ensures.added

pub returns-in-Fact-clause-asked_grow : goal.returns-in-Fact-clause-asked_grow
returns-in-Fact-clause-asked_grow c =
    on_ok c.add_fact.result _ _ (λ adds. omega (arith, adds.asked)) c.add_fact.ensures.added

pub returns-in-Rule-clause-asked_grow : goal.returns-in-Rule-clause-asked_grow
returns-in-Rule-clause-asked_grow c =
    on_ok c.add_rule.result _ _ (λ adds. omega (arith, adds.asked)) c.add_rule.ensures.added

pub returns-in-Query-clause-asked_grow : goal.returns-in-Query-clause-asked_grow
returns-in-Query-clause-asked_grow c =
    let is = sentence_written c.args.text.now c.args.statement.now c.in-Sentence.label c.in-Sentence.sentence (Query c.in-Query.answers c.in-Query.body) c.in-Sentence.is c.in-Query.is in
    on_ok c.add_query.result _ _ (query_asked c.args.text.now c.args.declarations.now c.args.statement.now c.in-Sentence.label c.in-Query.answers c.in-Query.body is c.args.self.now c.add_query.new.self) c.add_query.ensures.added

pub returns-in_default : goal.returns-in_default
returns-in_default c = record {
  gathered = line_more c.args.text.now c.args.declarations.now c.args.statement.now c.in_default.not-Sentence c.args.self.now;
  names_grow = omega arith;
  unknowns_grow = omega arith;
  asked_grow = omega arith;
  err = tt;
}
