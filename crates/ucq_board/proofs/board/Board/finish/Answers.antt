use Rattle.std.proofs.Common.{◌∙◌, ap, sym, subst, Contains, refl}
use Rattle.ucq_board.specs.declared.rule.View.{View}
use Rattle.ucq_board.specs.Values.{SeatValue}
use Rattle.ucq_board.proofs.Marks.{finishes}
use Rattle.ucq_board.proofs.Fits.{one_table, drawn_below, finished_seat}
use Rattle.ucq_board.proofs.board.Board.finish.Goals as goal

pub fetch_or-requires : goal.fetch_or-requires
fetch_or-requires c =
    let table = one_table _ _ _ _ _ _ _ c.seat.view_is c.self.view_is c.requires.board in
    let view = ap (λ (s : SeatValue). s.view) c.seat.view_is in
    let drawn = subst (λ (v : View). Contains v.drawn c.args.row) (sym view) c.requires.may.0 in
    let new = subst (λ (v : View). ¬ Contains v.finished c.args.row) (sym view) c.requires.may.1 in (
      table,
      drawn_below _ _ _ _ _ _ c.seat.invariant.0 (ap (λ t. t.words) table) drawn,
      finishes _ _ _ _ _ _ c.seat.invariant.0.unspent drawn new,
    )

pub invariant_of-seat : goal.invariant_of-seat
invariant_of-seat c =
    let e = c.fetch_or.ensures in
    (finished_seat c.seat.inside.inner.table_id _ _ _ _ _ c.args.row e.0 (e.2.0 c.args.row refl) c.seat.invariant.0, e.2.1 ∙ c.seat.invariant.1)
