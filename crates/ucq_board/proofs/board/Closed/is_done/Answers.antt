use Rattle.std.proofs.Common.{arith, ◌+◌, ◌∙◌, ap, sym, ℕ, eqb}
use Rattle.std.specs.Slots.{slots_items}
use Rattle.ucq_board.specs.Values.{ClosedValue, is_done_in}
use Rattle.ucq_board.proofs.Ends.{mark_there}
use Rattle.ucq_board.proofs.Fits.{read_is}
use Rattle.ucq_board.proofs.board.Closed.is_done.Goals as goal

pub returns-then-row-self : goal.returns-then-row-self
returns-then-row-self c =
    let words = slots_items c.self.inside.words.words in
    let size = c.self.invariant.0.words_are in
    let row = c.if-row-self.true in
    ap (λ (n : ℕ). eqb n 1) (sym (read_is words (c.args.row + 2) c.word.result c.word.ensures))
    ∙ sym (mark_there words c.args.row (omega arith))
    ∙ ap (λ (v : ClosedValue). is_done_in v c.args.row) c.self.view_is
