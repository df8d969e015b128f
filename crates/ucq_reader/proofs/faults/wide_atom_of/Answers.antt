use Rattle.std.proofs.Common.{sym, ap, ◌∙◌, map}
use Rattle.std.specs.Option.{option_or}
use Rattle.ucq_reader.specs.Meaning.{arity, listed, first_above}
use Rattle.ucq_reader.specs.View.{atoms_view}
use Rattle.ucq_reader.proofs.Sizes.{wide_of_rule}
use Rattle.ucq_reader.proofs.faults.wide_atom_of.Goals as goal

pub returns-in-Some : goal.returns-in-Some
returns-in-Some c = λ text. sym (wide_of_rule text c.args.form.now c.in-Sentence.label c.in-Sentence.sentence c.in-Rule.head c.in-Rule.body c.in-Sentence.is c.in-Rule.is ∙ ap (λ o. option_or o (first_above 16 (map arity (listed (atoms_view text c.in-Rule.body))))) (sym (c.in-Some.ensures text)))

pub returns-in-None : goal.returns-in-None
returns-in-None c = λ text. c.wide_atom-in-None.ensures text ∙ sym (wide_of_rule text c.args.form.now c.in-Sentence.label c.in-Sentence.sentence c.in-Rule.head c.in-Rule.body c.in-Sentence.is c.in-Rule.is ∙ ap (λ o. option_or o (first_above 16 (map arity (listed (atoms_view text c.in-Rule.body))))) (sym (c.in-None.ensures text)))
