-- What the rule says of the seats at any moment.
use Rattle.std.proofs.Common.{◌≡◌, ◌≢◌, ◌≤◌, ◌<◌, ◌+◌, ℕ, suc, min, Bool, true, false, if◌then◌else◌, List, [], ◌∷◌, set, arith, refl, ◌∙◌, ⊎_elim}
use Rattle.std.proofs.lemmas.Grind.{common_steps}
use Rattle.std.proofs.lemmas.Bool.{cases_eq}
use mathlib.Core.Option.{some}
use lib.ListN.{get_elem?}
use Rattle.atomic_table.proofs.Lists.{set_else}
use Rattle.ucq_board.specs.declared.rule.View.{View}
use Rattle.ucq_board.specs.Lists.{times, once_below, AreOnce}
use Rattle.ucq_board.specs.declared.rule.Key.{Key}
use Rattle.atomic_table.specs.Table.{State}
use Rattle.ucq_board.specs.Rule.{cursor_in, total, calls_of, spent_view, Keeps}
use Rattle.ucq_board.specs.Laws.{SomeView, DrawnOnce, DrawnBelow, FinishedOnce, MarksTell, StopTells, CursorIsSmall}
use Rattle.ucq_board.proofs.Times.{once_small, once_within, contained_times, times_contained, times_absent}
use Rattle.ucq_board.proofs.Totals.{total_set, part_le}
use Rattle.ucq_board.proofs.Sums.{ended_le, calls_called}
use Rattle.ucq_board.proofs.Marks.{mark_small}

-- two views have no more than all
two_le :
    (f : View → ℕ) (views : List View) (id other : ℕ) (v w : View) →
    f spent_view ≡ 0 →
    get_elem? views id ≡ some v →
    get_elem? views other ≡ some w →
    other ≢ id →
    f v + f w ≤ total f views
two_le f views id other v w z at there apart =
    let without = total_set f views id v spent_view at in
    let rest = part_le f (set views id spent_view) other w (set_else views id other spent_view apart ∙ there) in
    omega arith

some_positive : (f : View → ℕ) (views : List View) → 1 ≤ total f views → SomeView (λ v. 1 ≤ f v) views
some_positive f [] l = absurd (omega arith)
some_positive f (x ∷ xs) l =
    ⊎_elim
    (λ none. let r = some_positive f xs (omega arith) in record { id = suc r.id; view = r.view; at = r.at; has = r.has })
    (λ some. record { id = 0; view = x; at = refl; has = omega arith })
    (cases_eq (f x) 0)

once_at : (x n : ℕ) → x < n → 1 ≤ once_below x n
once_at x n h = grind (arith, common_steps)

-- one view has each drawn row once
drawn_by_one : (k : Key) (s : State ℕ View) (id : ℕ) (v : View) → Keeps k s → get_elem? s.views id ≡ some v → AreOnce v.drawn
drawn_by_one k s id v h at row =
    let p = part_le (λ u. times row u.drawn) s.views id v at in
    let q = h.drawn row in
    let r = once_small row (min (cursor_in s.words) k.rows) in
    omega arith

pub drawn_once : DrawnOnce
drawn_once k s id v h at = (
  drawn_by_one k s id v h at,
  λ other w there apart row mine.
      let a = contained_times row v.drawn mine in
      let p = two_le (λ u. times row u.drawn) s.views id other v w refl at there apart in
      let q = h.drawn row in
      let r = once_small row (min (cursor_in s.words) k.rows) in
      times_absent row w.drawn (omega arith),
)

pub drawn_below : DrawnBelow
drawn_below k s row h = (
  (λ one.
      let a = contained_times row one.view.drawn one.has in
      let p = part_le (λ u. times row u.drawn) s.views one.id one.view one.at in
      let q = h.drawn row in
      let r = once_within row (min (cursor_in s.words) k.rows) (omega arith) in
      (omega arith, omega arith)),
  (λ below.
      let cursor = below.0 in
      let rows = below.1 in
      let a = once_at row (min (cursor_in s.words) k.rows) (omega arith) in
      let q = h.drawn row in
      let one = some_positive (λ u. times row u.drawn) s.views (omega arith) in
      record { id = one.id; view = one.view; at = one.at; has = times_contained row one.view.drawn one.has }),
)

pub finished_once : FinishedOnce
finished_once k s id v h at = (
  (λ row. let a = (h.each id v at).finished row in let b = drawn_by_one k s id v h at row in omega arith),
  (λ row mine.
      let a = contained_times row v.finished mine in
      let b = (h.each id v at).finished row in
      times_contained row v.drawn (omega arith)),
  (λ other w there apart row mine.
      let a = contained_times row v.finished mine in
      let b = (h.each id v at).finished row in
      let c = (h.each other w there).finished row in
      let p = two_le (λ u. times row u.drawn) s.views id other v w refl at there apart in
      let q = h.drawn row in
      let r = once_small row (min (cursor_in s.words) k.rows) in
      times_absent row w.finished (omega arith)),
)

pub marks_tell : MarksTell
marks_tell k s row h below =
    let small = mark_small k s row h below in
    let sums = h.done row (omega arith) in (
      small,
      (
        (λ e.
            let one = some_positive (λ u. times row u.finished) s.views (omega arith) in
            record { id = one.id; view = one.view; at = one.at; has = times_contained row one.view.finished one.has }),
        (λ one. let a = contained_times row one.view.finished one.has in let p = part_le (λ u. times row u.finished) s.views one.id one.view one.at in omega arith),
      ),
    )

called_by : (v : View) → 1 ≤ calls_of v → v.called ≡ true
called_by v l = go v.called l
  where
    go : (b : Bool) → 1 ≤ (if b then 1 else 0) → b ≡ true
    go true l = refl
    go false l = absurd (omega arith)

pub stop_tells : StopTells
stop_tells k s h =
    let sums = h.stop in (
      omega arith,
      (
        (λ e.
            let one = some_positive calls_of s.views (omega arith) in
            record { id = one.id; view = one.view; at = one.at; has = called_by one.view one.has }),
        (λ one. let a = calls_called one.view one.has in let p = part_le calls_of s.views one.id one.view one.at in omega arith),
      ),
    )

pub cursor_is_small : CursorIsSmall
cursor_is_small k s h = let a = h.cursor in let b = ended_le s.views in let c = h.seats in let d = h.small in omega arith
