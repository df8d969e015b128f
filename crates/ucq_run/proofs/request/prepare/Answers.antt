use Rattle.ucq_words.specs.Settings.{settings_value}
use Rattle.ucq_reader.specs.Outcome.{input_value}
use Rattle.ucq_run.proofs.Asking.{asked_is_held, budget_within, parts_in_form, workers_within}
use Rattle.ucq_run.proofs.request.prepare.Goals as goal

pub returns-in-Ok-input_of-clause-read : goal.returns-in-Ok-input_of-clause-read
returns-in-Ok-input_of-clause-read g c =
    let settings = settings_value c.in-Ok.settings in
    let input = input_value c.in-Ok-input_of.field-0 in
    let budget = budget_within _ settings c.in-Ok.ensures in
    let workers = workers_within _ settings c.in-Ok.ensures in
    let held = asked_is_held _ settings.job input c.in-Ok-input_of.ensures.input in
    record {
      settings = settings;
      input = input;
      asked = record { stand = c.in-Ok.ensures; has = c.in-Ok-input_of.ensures.input };
      parts = parts_in_form settings input c.form_of-form.result c.form_of-form.ensures;
      about = record { indexed = c.in_ok-facts_in_form-in-Ok-input_of.ensures; held = held.facts };
      within = record {
        shared = record { some = budget.low; small = budget.high; one = workers.low; few = workers.high };
        held = record { few_rules = c.in-Ok-input_of.ensures.rules; few_queries = c.in-Ok-input_of.ensures.queries; rules = held.rules; queries = held.queries };
      };
    }
