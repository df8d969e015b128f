use Rattle.std.proofs.Common.{◌∙◌, sym}
use Rattle.std.proofs.lemmas.List.{length-map}
use Rattle.std.proofs.lemmas.Result.{on_ok_weaker}
use Rattle.ucq_lexer.specs.declared.Token.{Token}
use Rattle.ucq_reader.specs.Input.{starts}
use Rattle.ucq_reader.specs.View.{declared_view, statement_view}
use Rattle.ucq_reader.proofs.Accepted.{accepted}
use Rattle.ucq_reader.proofs.Sizes.{spelled_length}
use Rattle.ucq_reader.proofs.files.take_statement.Goals as goal

pub add-requires-clause-accepted : goal.add-requires-clause-accepted
add-requires-clause-accepted c = accepted c.args.place.file c.args.place.number (starts c.args.tokens.now) (declared_view c.args.text.now c.args.declarations.now) (statement_view c.args.text.now c.args.form.now) (length-map c.args.tokens.now (λ (t : Token). t.start) ∙ sym (spelled_length c.args.text.now c.args.tokens.now c.args.form.now c.requires.spelled)) (sym c.statement_fault.ensures ∙ c.in_default.is)

pub returns-clause-taken : goal.returns-clause-taken
returns-clause-taken c = on_ok_weaker c.add.result (λ h all. h all c.args.place.file c.args.place.number (starts c.args.tokens.now)) c.add.ensures.gathered
