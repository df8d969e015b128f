-- The answers that are written.
use Rattle.std.proofs.Common.{subst}
use Rattle.ucq_reader.specs.Building.{HasNumbered, AddsTerms}
use Rattle.ucq_reader.proofs.Sentences.{answers_written}
use Rattle.ucq_reader.proofs.building.Numbers.push_answers.Goals as goal

pub returns-in_ok-push_terms-in-Some-clause-numbered : goal.returns-in_ok-push_terms-in-Some-clause-numbered
returns-in_ok-push_terms-in-Some-clause-numbered c =
    subst (HasNumbered c.args.self.now c.push_terms.new.self)
    (answers_written c.args.text.now c.args.declarations.now c.args.answers.now c.in-Some.tokens c.as_slice.result.now c.in-Some.is c.as_slice.ensures.value)
    c.in_ok-push_terms-in-Some.ensures.numbered

pub returns-in_ok-push_terms-in-Some-clause-terms : goal.returns-in_ok-push_terms-in-Some-clause-terms
returns-in_ok-push_terms-in-Some-clause-terms c =
    subst (λ l. AddsTerms c.push_terms.new.self l c.args.built.now.items c.push_terms.new.built.items)
    (answers_written c.args.text.now c.args.declarations.now c.args.answers.now c.in-Some.tokens c.as_slice.result.now c.in-Some.is c.as_slice.ensures.value)
    c.in_ok-push_terms-in-Some.ensures.terms
