use Rattle.std.proofs.Common.{rules, append_assoc}
use Rattle.ucq_print.proofs.refusals.byte_text.Goals as goal

pub returns : goal.returns
returns c = search (rules, append_assoc)
