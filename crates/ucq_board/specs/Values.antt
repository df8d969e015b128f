-- What contracts see of a board, a seat and a closed board.
use Rattle.std.specs.Prelude.{◌≡◌, ◌≤◌, ◌<◌, ◌+◌, ℕ, Bool, false, List, slice_index_or, min, map, drop, All, ◌==◌}
use Rattle.atomic_table.specs.Seated.{TableId}
use Rattle.ucq_board.specs.declared.TheConstants.{ROWS, SEATS}
use Rattle.ucq_board.specs.declared.rule.Key.{Key}
use Rattle.ucq_board.specs.declared.rule.View.{View}
use Rattle.ucq_board.specs.Rule.{cursor_in, stop_in}

-- the table by its name, and how many rows and seats it has
pub record BoardValue : Type 0 where
  pub table : TableId
  pub rows : ℕ
  pub seats : ℕ

-- the table of the board that gave it, and what it knows
pub record SeatValue : Type 0 where
  pub table : TableId
  pub view : View

-- how many rows were drawn, whether stop was called, and for each row whether it is done
pub record ClosedValue : Type 0 where
  pub drawn : ℕ
  pub stopped : Bool
  pub done : List Bool

-- what the words of a closed board say
abbrev pub told_by : List ℕ → ℕ → ClosedValue
told_by words rows = record {
  drawn = min (cursor_in words) rows;
  stopped = stop_in words == 1;
  done = map (λ (mark : ℕ). mark == 1) (drop 2 words);
}

-- the board gave the seat
abbrev pub IsSeatOf : BoardValue → SeatValue → Type 0
IsSeatOf board seat = seat.table ≡ board.table

-- whether the row is done
abbrev pub is_done_in : ClosedValue → ℕ → Bool
is_done_in closed row = slice_index_or closed.done row false

-- the numbers of a board are those of its table, which has a word for each row and two more
pub record IsBoard (table : TableId) (key : Key) (count places : ℕ) : Type 0 where
  pub words : table.words ≡ count + 2
  pub slots : table.slots ≡ 0
  pub rows : key.rows ≡ count
  pub seats : key.seats ≡ places
  pub few : (count ≤ ROWS) × (places ≤ SEATS)

-- the numbers of a seat are those that it knows, and what it has drawn are rows
pub record IsSeat (table : TableId) (knows : View) (left : ℕ) (over : Bool) : Type 0 where
  pub rows : knows.rows + 2 ≡ table.words
  pub unspent : knows.spent ≡ false
  pub spare : knows.spare ≡ left
  pub few : left < SEATS
  pub ended : knows.ended ≡ over
  pub drawn : All (λ row. row < knows.rows) knows.drawn

-- a closed board has a word for each row and two more
pub record IsClosedBoard (words slots rows : ℕ) : Type 0 where
  pub words_are : words ≡ rows + 2
  pub slots_are : slots ≡ 0
  pub few : rows ≤ ROWS
