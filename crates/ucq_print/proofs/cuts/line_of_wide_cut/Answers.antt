use Rattle.std.proofs.lemmas.Result.{IfOk-weaker}
use Rattle.ucq_print.proofs.Lines.{row_at_wide_place}
use Rattle.ucq_print.proofs.cuts.line_of_wide_cut.Goals as goal

pub returns-else-place-eq0 : goal.returns-else-place-eq0
returns-else-place-eq0 g c =
    IfOk-weaker c.row_line.result _ _ (λ line h. row_at_wide_place c.args.names.now c.args.row c.args.rule (g.R.Rows.value c.args.rows.now).rows c.args.place line.items c.if-place-eq0.false c.requires h) c.row_line.ensures
