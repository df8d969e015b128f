use Rattle.std.proofs.Common.{◌≡◌, ◌∙◌, ◌++◌, List, ℕ, sym, ap, true, false}
use Rattle.std.proofs.lemmas.Result.{IfOk-weaker}
use Rattle.ucq_antichain.specs.Rows.{row_at}
use Rattle.ucq_print.specs.Texts.{life_text, query_line}
use Rattle.ucq_print.proofs.cuts.row_line.Goals as goal
use Rattle.ucq_print.proofs.cuts.row_line.Goals.{then-is_live_at, else-is_live_at}

pub returns : goal.returns
returns g c =
    let row = row_at (g.R.Rows.value c.args.rows.now).rows c.args.row in
    let names = c.args.names.now in
    let life : c.if-is_live_at.life.now ≡ life_text row.live = elim c.if-is_live_at.branch [
      | then-is_live_at w ↦
          let live : row.live ≡ true = sym c.is_live_at.ensures ∙ w.if-is_live_at.true in
          let text : life_text row.live ≡ life_text true = ap life_text live in
          let is = w.life-is in
          cc
      | else-is_live_at w ↦
          let live : row.live ≡ false = sym c.is_live_at.ensures ∙ w.if-is_live_at.false in
          let text : life_text row.live ≡ life_text false = ap life_text live in
          let is = w.life-is in
          cc
    ] in
    let query : query_line names c.query_at.result.now ≡ query_line names row.query = ap (query_line names) c.query_at.ensures in
    IfOk-weaker c.query_line_after.result _ _
    (λ line h. h ∙ ap (λ (l : List ℕ). l ++ query_line names c.query_at.result.now) life ∙ ap (λ (l : List ℕ). life_text row.live ++ l) query) c.query_line_after.ensures
