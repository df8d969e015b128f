use Rattle.ucq_print.proofs.ComparingLines.{minimal_stands_apart, rule_stands_apart, within_stands_apart}
use Rattle.ucq_print.proofs.Headers.{answered_is_section, finished_is_section, no_answers, rows_cut_is_section, wide_cut_is_section}
use Rattle.ucq_print.proofs.SectionTexts.{sections_told}
use Rattle.ucq_print.proofs.laws.sections_are_told.Goals as goal

pub returns-clause-told : goal.returns-clause-told
returns-clause-told c = λ sections before number label rest h k small single e. sections_told sections before number label rest h k small single e

pub returns-clause-texts : goal.returns-clause-texts
returns-clause-texts c = λ names readable. (
  (λ union h. finished_is_section names readable union h),
  (λ union tuples h k. answered_is_section names readable union tuples h k),
  (λ budget rows left small h k. rows_cut_is_section names readable budget rows left small h k),
  (λ row rule rows small few h. wide_cut_is_section names readable row rule rows small few h),
)

pub returns-clause-apart : goal.returns-clause-apart
returns-clause-apart c = λ number label rest other names tuples. no_answers number label rest other names tuples

pub returns-clause-comparing : goal.returns-clause-comparing
returns-clause-comparing c = (
  (λ query of told. within_stands_apart query of told),
  (λ names query readable. minimal_stands_apart names readable query),
  (λ number judged. rule_stands_apart number judged),
)
