use Rattle.ucq_run.proofs.Agreed.{printed_answers_are_exact}
use Rattle.ucq_run.proofs.laws.printed_answers_are_exact.Goals as goal

pub returns : goal.returns
returns c =
    printed_answers_are_exact c.one_settings.ensures c.sections_are_told.ensures.told c.sections_are_told.ensures.texts c.sections_are_told.ensures.apart c.sections_are_told.ensures.comparing c.texts_differ.ensures
