use Rattle.std.proofs.Common.{arith, ◌≡◌, ◌+◌, ◌∙◌, ap, ℕ, min, subst}
use Rattle.std.specs.Slots.{slots_items}
use Rattle.ucq_board.specs.declared.rule.View.{View}
use Rattle.ucq_board.specs.Lists.{once_below}
use Rattle.ucq_board.specs.Rule.{cursor_in}
use Rattle.ucq_board.specs.Values.{BoardValue, SeatValue}
use Rattle.ucq_board.proofs.Ends.{IsEnd, ends, end_stopped, end_done}
use Rattle.ucq_board.proofs.board.Board.close.Goals as goal

the_end : (c : goal.After-close_with-words) → IsEnd c.self.inside.table.shared.key (slots_items c.close_with-words.result.words) c.args.seat.view
the_end c =
    let e = c.close_with-words.ensures.values in
    let key = c.self.inside.table.shared.key in
    let words = slots_items c.close_with-words.result.words in
    let seat = c.seat.view_is in
    let spare = ap (λ (s : SeatValue). s.view.spare) seat in
    let seats = ap (λ (b : BoardValue). b.seats) c.self.view_is in
    let all : c.seat.inside.inner.me.0.spare + 1 ≡ key.seats = let a = c.requires.all in let b = c.self.invariant.seats in omega arith in
    subst (λ (v : View). IsEnd key words v) (ap (λ (s : SeatValue). s.view) seat) (ends key _ _ e.2.0 words e.2.1.0 e.2.1.1 c.seat.invariant.0.unspent all e.2.2)

pub returns-clause-drawn : goal.returns-clause-drawn
returns-clause-drawn c = λ x. (the_end c).drawn x ∙ ap (λ (n : ℕ). once_below x (min (cursor_in (slots_items c.close_with-words.result.words)) n)) c.self.invariant.rows

pub returns-clause-all : goal.returns-clause-all
returns-clause-all c = λ ended.
    let past = (the_end c).all ended in
    let rows = c.self.invariant.rows in
    let same = ap (λ (b : BoardValue). b.rows) c.self.view_is in
    omega arith

pub returns-clause-stopped : goal.returns-clause-stopped
returns-clause-stopped c = end_stopped _ _ _ (the_end c)

pub returns-clause-done : goal.returns-clause-done
returns-clause-done c = λ row below.
    let rows = c.self.invariant.rows in
    let same = ap (λ (b : BoardValue). b.rows) c.self.view_is in
    end_done _ _ c.args.seat.view row c.self.inside.rows (the_end c) rows (omega arith)
