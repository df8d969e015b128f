use Rattle.std.proofs.Common.{arith}
use Rattle.std.proofs.lemmas.Result.{IfOk-weaker}
use Rattle.ucq_print.proofs.Lines.{text_at_place}
use Rattle.ucq_print.proofs.answers.answer_line.Goals as goal

pub returns-in_default : goal.returns-in_default
returns-in_default c =
    let a = c.args.answers.now in
    IfOk-weaker c.line_of_text.result _ _
    (λ line h. text_at_place a.names a.tuples c.args.place c.text.result.now line.items (λ e. omega (arith, c.in_default)) c.requires c.text.ensures h)
    c.line_of_text.ensures
