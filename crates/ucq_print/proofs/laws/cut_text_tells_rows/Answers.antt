use Rattle.ucq_print.proofs.CutTexts.{rows_cut_apart, wide_cut_apart}
use Rattle.ucq_print.proofs.laws.cut_text_tells_rows.Goals as goal

pub returns-clause-rows : goal.returns-clause-rows
returns-clause-rows c = λ names b d rs ss p q x y readable small few h k printed other e. rows_cut_apart names readable b d rs ss p q x y small few h k printed other e

pub returns-clause-wide : goal.returns-clause-wide
returns-clause-wide c = λ names i m j n rs ss x y readable small few h k none no e. wide_cut_apart names readable i m j n rs ss x y small few h k none no e
