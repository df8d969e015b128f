use Rattle.ucq_print.proofs.Headers.{header_is_line, header_tells}
use Rattle.ucq_print.proofs.laws.header_tells.Goals as goal

pub returns-clause-tells : goal.returns-clause-tells
returns-clause-tells c = λ one two label other h k e. header_tells one two label other h k e

pub returns-clause-line : goal.returns-clause-line
returns-clause-line c = λ number label small h. header_is_line number label small h
