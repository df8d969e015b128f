use Rattle.std.proofs.Common.{◌≤◌, ◌≡◌, ◌+◌, ◌∷◌, [], length, arith}
use Rattle.std.proofs.lemmas.List.{length-map, length-append}
use Rattle.ucq_print.specs.Texts.{row_line, row_lines, left_line}
use Rattle.std.proofs.lemmas.Result.{IfOk-weaker}
use Rattle.ucq_print.proofs.Lines.{row_at_rows_place, left_at_place}
use Rattle.ucq_print.proofs.cuts.line_of_rows_cut.Goals as goal

pub returns-then-place-count : goal.returns-then-place-count
returns-then-place-count g c =
    let within : c.args.place ≤ length (g.R.Rows.value c.args.rows.now).rows = omega (arith, c.count.ensures.rows, c.if-place-count.true) in
    IfOk-weaker c.row_line.result _ _ (λ line h. row_at_rows_place c.args.names.now (g.R.Rows.value c.args.rows.now).budget (g.R.Rows.value c.args.rows.now).rows c.args.left.now c.args.place line.items c.if-place-eq0.false within h) c.row_line.ensures

pub returns-else-place-count : goal.returns-else-place-count
returns-else-place-count g c =
    let last : c.args.place ≡ length (g.R.Rows.value c.args.rows.now).rows + 1 = omega (arith, c.requires, c.count.ensures.rows, c.if-place-count.false, length-map (g.R.Rows.value c.args.rows.now).rows (row_line c.args.names.now), length-append (row_lines c.args.names.now (g.R.Rows.value c.args.rows.now).rows) (left_line c.args.names.now c.args.left.now ∷ [])) in
    IfOk-weaker c.left_line.result _ _ (λ line h. left_at_place c.args.names.now (g.R.Rows.value c.args.rows.now).budget (g.R.Rows.value c.args.rows.now).rows c.args.left.now c.args.place line.items last h) c.left_line.ensures
