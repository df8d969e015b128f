-- What the rule says of the seats at any moment.
use Rattle.std.specs.Prelude.{◌≡◌, ◌≢◌, ◌≤◌, ◌<◌, ◌↔◌, ℕ, true, Contains, List}
use mathlib.Core.Option.{some}
use lib.ListN.{get_elem?}
use Rattle.atomic_table.specs.Table.{State}
use Rattle.ucq_board.specs.declared.rule.View.{View}
use Rattle.ucq_board.specs.declared.rule.Key.{Key}
use Rattle.ucq_board.specs.Lists.{AreOnce}
use Rattle.ucq_board.specs.Rule.{cursor_in, stop_in, mark_in, Keeps}

-- some view has the property
pub record SomeView (P : View → Type 0) (views : List View) : Type 0 where
  pub id : ℕ
  pub view : View
  pub at : get_elem? views id ≡ some view
  pub has : P view

-- no row is drawn twice by one seat, or by two
abbrev pub DrawnOnce : Type 0
DrawnOnce =
    (k : Key) (s : State ℕ View) (id : ℕ) (v : View) →
    Keeps k s →
    get_elem? s.views id ≡ some v →
    AreOnce v.drawn
    × ((other : ℕ) (w : View) → get_elem? s.views other ≡ some w → other ≢ id → (row : ℕ) → Contains v.drawn row → ¬ Contains w.drawn row)

-- a row is drawn by some seat exactly where it is below the cursor and the number of rows
abbrev pub DrawnBelow : Type 0
DrawnBelow =
    (k : Key) (s : State ℕ View) (row : ℕ) →
    Keeps k s →
    SomeView (λ v. Contains v.drawn row) s.views ↔ ((row < cursor_in s.words) × (row < k.rows))

-- what a seat has finished it has drawn, it has finished it once, and no other seat has
abbrev pub FinishedOnce : Type 0
FinishedOnce =
    (k : Key) (s : State ℕ View) (id : ℕ) (v : View) →
    Keeps k s →
    get_elem? s.views id ≡ some v →
    AreOnce v.finished
    × ((row : ℕ) → Contains v.finished row → Contains v.drawn row)
    × ((other : ℕ) (w : View) → get_elem? s.views other ≡ some w → other ≢ id → (row : ℕ) → Contains v.finished row → ¬ Contains w.finished row)

-- the word of a row is 1 exactly where some seat has finished it, and else 0
abbrev pub MarksTell : Type 0
MarksTell =
    (k : Key) (s : State ℕ View) (row : ℕ) →
    Keeps k s →
    row < k.rows →
    (mark_in s.words row < 2) × ((mark_in s.words row ≡ 1) ↔ SomeView (λ v. Contains v.finished row) s.views)

-- the stop word is 1 exactly where some seat has called stop, and else 0
abbrev pub StopTells : Type 0
StopTells =
    (k : Key) (s : State ℕ View) →
    Keeps k s →
    (stop_in s.words < 2) × ((stop_in s.words ≡ 1) ↔ SomeView (λ v. v.called ≡ true) s.views)

-- the cursor stays small
abbrev pub CursorIsSmall : Type 0
CursorIsSmall = (k : Key) (s : State ℕ View) → Keeps k s → cursor_in s.words ≤ 65664
