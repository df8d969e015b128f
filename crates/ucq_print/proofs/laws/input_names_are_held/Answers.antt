use Rattle.ucq_print.proofs.HeldNames.{made_has_texts, numbered_is_held}
use Rattle.ucq_print.proofs.InputHeld.{input_is_held}
use Rattle.ucq_reader.specs.Made.{made}
use Rattle.ucq_print.proofs.laws.input_names_are_held.Goals as goal

pub returns-clause-files : goal.returns-clause-files
returns-clause-files c = λ files input h. input_is_held files input h

pub returns-clause-made : goal.returns-clause-made
returns-clause-made c = λ number input h. numbered_is_held (made number) input (made_has_texts number) h
