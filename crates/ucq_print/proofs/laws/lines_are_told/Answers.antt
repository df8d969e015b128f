use Rattle.ucq_print.proofs.ToldLines.{counted_lines, lines_told, whole_lines}
use Rattle.ucq_print.proofs.laws.lines_are_told.Goals as goal

pub returns-clause-told : goal.returns-clause-told
returns-clause-told c = λ one two x y h k e. lines_told one two x y h k e

pub returns-clause-counted : goal.returns-clause-counted
returns-clause-counted c = λ one two x y h k n e. let tells = counted_lines one two x y h k n e in (tells.front, tells.rest)

pub returns-clause-whole : goal.returns-clause-whole
returns-clause-whole c = λ one two h k e. whole_lines one two h k e
