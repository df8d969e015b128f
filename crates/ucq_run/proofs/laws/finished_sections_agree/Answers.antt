use Rattle.ucq_run.proofs.Agreed.{finished_run_prints_unions, finished_sections_agree, printed_union_is_exact}
use Rattle.ucq_run.proofs.laws.finished_sections_agree.Goals as goal

pub returns-clause-prints : goal.returns-clause-prints
returns-clause-prints c = finished_run_prints_unions c.one_settings.ensures c.sections_are_told.ensures.told c.sections_are_told.ensures.texts c.sections_are_told.ensures.apart c.sections_are_told.ensures.comparing c.header_tells.ensures.line

pub returns-clause-exact : goal.returns-clause-exact
returns-clause-exact c = printed_union_is_exact c.one_settings.ensures c.sections_are_told.ensures.told c.sections_are_told.ensures.texts c.sections_are_told.ensures.apart c.sections_are_told.ensures.comparing c.texts_differ.ensures

pub returns-clause-agree : goal.returns-clause-agree
returns-clause-agree c = finished_sections_agree c.one_settings.ensures c.sections_are_told.ensures.told c.sections_are_told.ensures.texts c.sections_are_told.ensures.apart c.sections_are_told.ensures.comparing c.texts_differ.ensures
