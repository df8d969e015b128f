-- What each kind of step does to the views.
use Rattle.std.specs.Prelude.{◌≡◌, ◌≢◌, ◌≤◌, ◌<◌, ◌+◌, ◌-◌, ℕ, true, false, [], ◌∷◌, ◌++◌, ◌||◌, Contains}
use Rattle.ucq_board.specs.declared.TheConstants.{SEATS}
use Rattle.ucq_board.specs.declared.rule.View.{View}
use Rattle.ucq_board.specs.Lists.{AreOnce}

-- a draw of a row, and one past the last row
abbrev pub drew : View → ℕ → View
drew v row = record v { drawn = v.drawn ++ row ∷ [] }

abbrev pub at_end : View → View
at_end v = record v { ended = true }

-- a stop
abbrev pub stopping : View → View
stopping v = record v { called = true; knows = true }

-- a look at the stop word that found a stop
abbrev pub knowing : View → View
knowing v = record v { knows = true }

-- a row finished
abbrev pub finishing : View → ℕ → View
finishing v row = record v { finished = v.finished ++ row ∷ [] }

-- a look at a row's word that found the row done
abbrev pub seeing : View → ℕ → View
seeing v row = record v { seen = v.seen ++ row ∷ [] }

-- the two of a split: the second has none to spare, has drawn and finished nothing and hasn't called stop
abbrev pub left_of : View → View
left_of v = record v { spare = v.spare - 1 }

abbrev pub right_of : View → View
right_of v = record v { drawn = []; finished = []; spare = 0; called = false }

-- the two of a join
abbrev pub both_of : View → View → View
both_of v w = record v {
  drawn = v.drawn ++ w.drawn;
  finished = v.finished ++ w.finished;
  seen = v.seen ++ w.seen;
  spare = v.spare + w.spare + 1;
  ended = v.ended || w.ended;
  called = v.called || w.called;
  knows = v.knows || w.knows;
}

-- A draw found this number on the cursor. Below the rows it is a row that the seat had neither drawn nor finished; from
-- there on the seat has ended.
pub record Draws (before : View) (found : ℕ) (after : View) : Type 0 where
  pub below :
      found < before.rows →
      (after ≡ drew before found) × (¬ Contains before.drawn found) × (¬ Contains before.finished found)
  pub past : before.rows ≤ found → after ≡ at_end before

-- A look at the stop word found this.
pub record AsksStop (before : View) (found : ℕ) (after : View) : Type 0 where
  pub stopped : found ≢ 0 → after ≡ knowing before
  pub going : found ≡ 0 → (after ≡ before) × (before.knows ≡ false)

-- A look at the row's word found this.
pub record AsksRow (row : ℕ) (before : View) (found : ℕ) (after : View) : Type 0 where
  pub done : found ≢ 0 → after ≡ seeing before row
  pub unfinished :
      found ≡ 0 →
      (after ≡ before) × (¬ Contains before.seen row) × (¬ Contains before.finished row)

-- A look that changes nothing: no row is drawn twice, and the seats to spare are few.
pub record Looks (before after : View) : Type 0 where
  pub same : after ≡ before
  pub once : AreOnce before.drawn
  pub few : before.spare < SEATS
