-- The rule of a board: what holds between any two steps of its words and of all that its seats know.
-- The words are a cursor, a stop word and one word for each row.
use Rattle.std.specs.Prelude.{◌≡◌, ◌≤◌, ◌<◌, ◌+◌, ◌-◌, ℕ, min, true, false, List, [], ◌∷◌, length, slice_index, if◌then◌else◌, Contains}
use mathlib.Core.Option.{some}
use lib.ListN.{get_elem?}
use Rattle.atomic_table.specs.Table.{State}
use Rattle.ucq_board.specs.declared.TheConstants.{ROWS, SEATS}
use Rattle.ucq_board.specs.declared.rule.View.{View}
use Rattle.ucq_board.specs.declared.rule.Key.{Key}
use Rattle.ucq_board.specs.Lists.{times, once_below}

-- how many rows were asked for
abbrev pub cursor_in : List ℕ → ℕ
cursor_in words = slice_index words 0

abbrev pub stop_in : List ℕ → ℕ
stop_in words = slice_index words 1

-- the word of a row
abbrev pub mark_in : List ℕ → ℕ → ℕ
mark_in words row = slice_index words (row + 2)

-- f of each view, added up
abbrev pub total : (View → ℕ) → List View → ℕ
total f [] = 0
total f (v ∷ vs) = f v + total f vs

-- the seats that a view stands for: its own and those that it may split off
abbrev pub seats_of : View → ℕ
seats_of v = if v.spent then 0 else 1 + v.spare

-- the same of a view that has ended
abbrev pub ended_seats_of : View → ℕ
ended_seats_of v = if v.ended then seats_of v else 0

-- 1 where it has called stop
abbrev pub calls_of : View → ℕ
calls_of v = if v.called then 1 else 0

-- what the first seat knows
abbrev pub fresh : Key → View
fresh k = record {
  drawn = [];
  finished = [];
  seen = [];
  spare = k.seats - 1;
  ended = false;
  called = false;
  knows = false;
  spent = false;
  rows = k.rows;
  seats = k.seats;
}

-- what is left of a seat that was joined into another
abbrev pub spent_view : View
spent_view = record {
  drawn = [];
  finished = [];
  seen = [];
  spare = 0;
  ended = false;
  called = false;
  knows = false;
  spent = true;
  rows = 0;
  seats = 0;
}

-- what holds of each view
pub record FitsView (k : Key) (words : List ℕ) (v : View) : Type 0 where
  -- it has the numbers of rows and of seats, unless it is spent
  pub fixed : v.spent ≡ false → (v.rows ≡ k.rows) × (v.seats ≡ k.seats)
  -- a row that it has finished is among those that it has drawn, and no more often
  pub finished : (row : ℕ) → times row v.finished ≤ times row v.drawn
  -- a row that it has seen done is done
  pub seen : (row : ℕ) → Contains v.seen row → mark_in words row ≡ 1
  -- it has called stop only if it knows of the stop
  pub called : v.called ≡ true → v.knows ≡ true
  -- and it knows of the stop only if there is one
  pub knows : v.knows ≡ true → stop_in words ≡ 1
  -- it has ended only if all rows are drawn
  pub ended : v.ended ≡ true → k.rows ≤ cursor_in words
  -- spent, it has nothing
  pub spent : v.spent ≡ true → v ≡ spent_view

-- The rule.
pub record Keeps (k : Key) (s : State ℕ View) : Type 0 where
  -- the rows below the cursor stand, each once, in the drawn lists of all views together, and no others do
  pub drawn :
      (row : ℕ) → total (λ v. times row v.drawn) s.views ≡ once_below row (min (cursor_in s.words) k.rows)
  -- the word of a row says how often it was finished; since it is drawn once at most, that is 0 or 1
  pub done : (row : ℕ) → row < k.rows → mark_in s.words row ≡ total (λ v. times row v.finished) s.views
  -- the stop word is 1 if some view has called stop, and else 0
  pub stop : stop_in s.words ≡ min 1 (total calls_of s.views)
  -- the seats that the views stand for are all seats
  pub seats : total seats_of s.views ≡ k.seats
  -- the cursor went past the rows once at most for each seat that an ended view stands for
  pub cursor : cursor_in s.words ≤ k.rows + total ended_seats_of s.views
  -- and of each view
  pub each : (id : ℕ) (v : View) → get_elem? s.views id ≡ some v → FitsView k s.words v
  -- the numbers that never change
  pub length : length s.words ≡ k.rows + 2
  pub small : (k.rows ≤ ROWS) × (k.seats ≤ SEATS)
