-- A step that changes the words and one view keeps the rule.
use Rattle.std.proofs.Common.{◌≡◌, ◌≤◌, ◌<◌, ◌+◌, ℕ, min, List, length, arith, ◌∙◌, subst, ⊎_elim}
use Rattle.std.specs.Prelude.{slice_set}
use mathlib.Core.Option.{some}
use lib.ListN.{get_elem?}
use Rattle.atomic_table.specs.Table.{State}
use Rattle.atomic_table.proofs.Lists.{at_set}
use Rattle.ucq_board.specs.declared.rule.View.{View}
use Rattle.ucq_board.specs.declared.rule.Key.{Key}
use Rattle.ucq_board.specs.Lists.{times, once_below}
use Rattle.ucq_board.specs.Rule.{cursor_in, stop_in, mark_in, total, seats_of, ended_seats_of, calls_of, FitsView, Keeps}
use Rattle.ucq_board.proofs.Totals.{total_set}

-- no word falls back
pub record Grows (before after : List ℕ) : Type 0 where
  pub cursor : cursor_in before ≤ cursor_in after
  pub stop : stop_in before ≡ 1 → stop_in after ≡ 1
  pub marks : (row : ℕ) → mark_in before row ≡ 1 → mark_in after row ≡ 1

pub fits_later : (k : Key) (before after : List ℕ) (v : View) → Grows before after → FitsView k before v → FitsView k after v
fits_later k before after v g h = record {
  fixed = h.fixed;
  finished = h.finished;
  seen = λ row c. g.marks row (h.seen row c);
  called = h.called;
  knows = λ e. g.stop (h.knows e);
  ended = λ e. let a = h.ended e in let b = g.cursor in omega arith;
  spent = h.spent;
}

-- what a step has to show of the words and of the view that it changes
pub record Changes (k : Key) (before after : List ℕ) (views : List View) (v w : View) : Type 0 where
  pub length : length after ≡ length before
  pub grows : Grows before after
  pub drawn : (x : ℕ) → times x w.drawn + once_below x (min (cursor_in before) k.rows) ≡ times x v.drawn + once_below x (min (cursor_in after) k.rows)
  pub done : (row : ℕ) → row < k.rows → mark_in after row + times row v.finished ≡ mark_in before row + times row w.finished
  pub stop : (n : ℕ) → n + calls_of v ≡ total calls_of views + calls_of w → stop_in after ≡ min 1 n
  pub seats : seats_of w ≡ seats_of v
  pub cursor : cursor_in after + ended_seats_of v ≤ k.rows + total ended_seats_of views + ended_seats_of w
  pub fits : FitsView k after w

pub moves :
    (k : Key) (s : State ℕ View) (after : List ℕ) (id : ℕ) (v w : View) →
    Keeps k s →
    get_elem? s.views id ≡ some v →
    Changes k s.words after s.views v w →
    Keeps k (record { words = after; homes = s.homes; views = slice_set s.views id w })
moves k s after id v w h at c = record {
  drawn = λ x. let t = total_set (λ u. times x u.drawn) s.views id v w at in let b = h.drawn x in let d = c.drawn x in omega arith;
  done = λ row l. let t = total_set (λ u. times row u.finished) s.views id v w at in let b = h.done row l in let d = c.done row l in omega arith;
  stop = c.stop _ (total_set calls_of s.views id v w at);
  seats = let t = total_set seats_of s.views id v w at in let b = h.seats in let d = c.seats in omega arith;
  cursor = let t = total_set ended_seats_of s.views id v w at in let b = c.cursor in omega arith;
  each = λ j u e. ⊎_elim (λ p. subst (FitsView k after) p.1 c.fits) (λ p. fits_later k s.words after u c.grows (h.each j u p.1)) (at_set s.views id j w u e);
  length = c.length ∙ h.length;
  small = h.small;
}
