-- The state at the end, where one view stands for all seats.
use Rattle.std.proofs.Common.{◌≡◌, ◌≤◌, ◌<◌, ◌+◌, ◌↔◌, ℕ, min, Bool, true, false, if◌then◌else◌, IsTrue, List, length, map, drop, Contains, slice_index_or, slice_index, length-drop, get_or-drop, eq-eqb, eqb-true, arith, refl, sym, ap, ◌∙◌, subst}
use Rattle.std.proofs.lemmas.List.{get_or-map}
use Rattle.std.specs.Prelude.{◌==◌}
use mathlib.Core.Option.{some}
use lib.ListN.{get_elem?}
use Rattle.atomic_table.specs.Table.{State}
use Rattle.ucq_board.specs.declared.rule.View.{View}
use Rattle.ucq_board.specs.declared.rule.Key.{Key}
use Rattle.ucq_board.specs.Lists.{times, AreBelow}
use Rattle.ucq_board.specs.Rule.{cursor_in, stop_in, mark_in, total, seats_of, calls_of, spent_view, Keeps}
use Rattle.ucq_board.specs.Values.{told_by, is_done_in}
use Rattle.ucq_board.proofs.Times.{once_small, contained_times, times_contained}
use Rattle.ucq_board.proofs.Totals.{all_here}
use Rattle.ucq_board.proofs.Sums.{seats_unspent}

-- what the words say of the one view that has seats
pub record IsEnd (k : Key) (words : List ℕ) (v : View) : Type 0 where
  pub drawn : AreBelow v.drawn (min (cursor_in words) k.rows)
  pub all : v.ended ≡ true → k.rows ≤ cursor_in words
  pub stop : stop_in words ≡ min 1 (calls_of v)
  pub done : (row : ℕ) → row < k.rows → mark_in words row ≡ times row v.finished
  pub once : (row : ℕ) → times row v.finished < 2
  pub length : length words ≡ k.rows + 2

-- a view without seats is spent
without_seats : (f : View → ℕ) (u : View) → f spent_view ≡ 0 → (u.spent ≡ true → u ≡ spent_view) → seats_of u ≡ 0 → f u ≡ 0
without_seats f u z spent none = go u.spent spent none
  where
    go : (b : Bool) → (b ≡ true → u ≡ spent_view) → (if b then 0 else 1 + u.spare) ≡ 0 → f u ≡ 0
    go true g n = ap f (g refl) ∙ z
    go false g n = absurd (omega arith)

pub ends :
    (k : Key) (id : ℕ) (v : View) (s : State ℕ View) (words : List ℕ) →
    Keeps k s →
    get_elem? s.views id ≡ some v →
    v.spent ≡ false →
    v.spare + 1 ≡ k.seats →
    s.words ≡ words →
    IsEnd k words v
ends k id v s words h at unspent all same =
    let seats : total seats_of s.views ≡ seats_of v = let b = h.seats in let c = seats_unspent v unspent in omega arith in
    let here : (f : View → ℕ) → f spent_view ≡ 0 → total f s.views ≡ f v = λ f z. all_here f s.views id v (λ j u e n. without_seats f u z (h.each j u e).spent n) at seats in
    let f = h.each id v at in
    subst (λ (ws : List ℕ). IsEnd k ws v) same (record {
      drawn = λ x. sym (here (λ u. times x u.drawn) refl) ∙ h.drawn x;
      all = f.ended;
      stop = h.stop ∙ ap (min 1) (here calls_of refl);
      done = λ row l. h.done row l ∙ here (λ u. times row u.finished) refl;
      once = λ row. let a = f.finished row in let b = here (λ u. times row u.drawn) refl in let c = h.drawn row in let d = once_small row (min (cursor_in s.words) k.rows) in omega arith;
      length = h.length;
    })

stop_is : (b : Bool) (n : ℕ) → n ≡ min 1 (if b then 1 else 0) → (n == 1) ≡ b
stop_is true n e = eq-eqb n 1 e
stop_is false n e = ap (λ (m : ℕ). m == 1) e

pub end_stopped : (k : Key) (words : List ℕ) (v : View) → IsEnd k words v → (stop_in words == 1) ≡ v.called
end_stopped k words v h = stop_is v.called (stop_in words) h.stop

-- the word of a row, among those behind the first two
pub mark_there : (words : List ℕ) (row : ℕ) → row + 2 < length words → slice_index_or (map (λ (mark : ℕ). mark == 1) (drop 2 words)) row false ≡ (mark_in words row == 1)
mark_there words row l =
    let long = length-drop 2 words in
    let place : 2 + row ≡ row + 2 = omega arith in
    get_or-map (λ (mark : ℕ). mark == 1) (drop 2 words) row 0 false (omega arith)
    ∙ ap (λ (mark : ℕ). mark == 1) (get_or-drop 2 words row 0 ∙ ap (λ (i : ℕ). slice_index words i) place)

pub end_done :
    (k : Key) (words : List ℕ) (v : View) (row rows : ℕ) →
    IsEnd k words v →
    k.rows ≡ rows →
    row < rows →
    IsTrue (is_done_in (told_by words rows) row) ↔ Contains v.finished row
end_done k words v row rows h same below =
    let a = h.done row (omega arith) in
    let b = h.once row in
    let c = h.length in
    let e = mark_there words row (omega arith) in (
      λ t. let m = eqb-true (mark_in words row) 1 (sym e ∙ t) in times_contained row v.finished (omega arith),
      λ t. let m = contained_times row v.finished t in e ∙ eq-eqb (mark_in words row) 1 (omega arith),
    )
