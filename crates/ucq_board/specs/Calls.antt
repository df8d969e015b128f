-- What the calls answer and do.
use Rattle.std.specs.Prelude.{◌≡◌, ◌<◌, ◌⊎◌, ℕ, Bool, true, false, Option, Some, None, Contains}
use Rattle.ucq_board.specs.declared.rule.View.{View}
use Rattle.ucq_board.specs.Steps.{drew, at_end, knowing, seeing}

-- the seat has drawn the row, itself or through a join, and not finished it
abbrev pub MayFinish : View → ℕ → Type 0
MayFinish v row = Contains v.drawn row × (¬ Contains v.finished row)

-- the seat draws a row that it hadn't drawn; it hasn't ended and knows of no stop
pub record DrawsRow (before : View) (row : ℕ) (after : View) : Type 0 where
  pub going : before.ended ≡ false
  pub unknowing : before.knows ≡ false
  pub below : row < before.rows
  pub new : ¬ Contains before.drawn row
  pub unfinished : ¬ Contains before.finished row
  pub drawn : after ≡ drew before row

-- the seat had ended; or it learns of a stop; or no row is left, and it ends
abbrev pub DrawsNone : View → View → Type 0
DrawsNone before after =
    ((before.ended ≡ true) × (after ≡ before))
    ⊎ ((before.ended ≡ false) × (after ≡ knowing before))
    ⊎ ((before.ended ≡ false) × (before.knows ≡ false) × (after ≡ at_end before))

abbrev pub DoesDraw : View → Option ℕ → View → Type 0
DoesDraw before None after = DrawsNone before after
DoesDraw before (Some row) after = DrawsRow before row after

-- the seat learns of a stop; or there was none, and it knew of none
abbrev pub DoesAskStop : View → Bool → View → Type 0
DoesAskStop before true after = after ≡ knowing before
DoesAskStop before false after = (after ≡ before) × (before.knows ≡ false)

-- the row joins those seen done; or it isn't done, and the seat hadn't seen it done or finished it
abbrev pub DoesAskRow : View → ℕ → Bool → View → Type 0
DoesAskRow before row true after = after ≡ seeing before row
DoesAskRow before row false after =
    (after ≡ before) × (¬ Contains before.seen row) × (¬ Contains before.finished row)
