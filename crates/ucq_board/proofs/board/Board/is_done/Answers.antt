use Rattle.std.proofs.Common.{arith, ◌∙◌, ap, subst, refl, not, eqb}
use Rattle.ucq_board.specs.declared.rule.View.{View}
use Rattle.ucq_board.specs.Values.{BoardValue, SeatValue}
use Rattle.ucq_board.specs.Calls.{DoesAskRow}
use Rattle.ucq_board.proofs.Marks.{asks_row}
use Rattle.ucq_board.proofs.Fits.{one_table, asked, asked_seat, asked_seen}
use Rattle.ucq_board.proofs.board.Board.is_done.Goals as goal

pub load-requires : goal.load-requires
load-requires c =
    let rows = ap (λ (b : BoardValue). b.rows) c.self.view_is in
    let below = c.requires.row in
    let words = c.self.invariant.words in
    let count = c.self.invariant.rows in (
      one_table _ _ _ _ _ _ _ c.seat.view_is c.self.view_is c.requires.board,
      omega arith,
      asks_row _ _ _ _ _ _ c.seat.invariant.0.unspent (omega arith),
    )

pub invariant_of-seat : goal.invariant_of-seat
invariant_of-seat c =
    let e = c.load.ensures in
    (asked_seat c.seat.inside.inner.table_id _ _ _ _ _ c.args.row _ e.0 (e.2.0 c.args.row refl) c.seat.invariant.0, e.2.1 ∙ c.seat.invariant.1)

pub returns-clause-does : goal.returns-clause-does
returns-clause-does c =
    subst
    (λ (v : View). DoesAskRow v c.args.row (not (eqb c.load.result 0)) c.load.new.seat.me.0)
    (ap (λ (s : SeatValue). s.view) c.seat.view_is)
    (asked c.seat.inside.inner.me.0 c.load.new.seat.me.0 c.args.row c.load.result (c.load.ensures.2.0 c.args.row refl))

pub returns-clause-seen : goal.returns-clause-seen
returns-clause-seen c =
    let before = c.seat.inside.inner.me.0 in
    let after = c.load.new.seat.me.0 in
    asked_seen before after c.args.row (not (eqb c.load.result 0)) (asked before after c.args.row c.load.result (c.load.ensures.2.0 c.args.row refl))
