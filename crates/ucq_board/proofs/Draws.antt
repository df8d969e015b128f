-- A draw keeps the rule.
use Rattle.std.proofs.Common.{◌≡◌, ◌≤◌, ◌<◌, ◌+◌, ◌%◌, ◌^◌, ℕ, min, false, List, length, length-set, Contains, get_or-set_same, get_or-set_other, arith, refl, sym, ap, ◌∙◌, ⊎_elim}
use Rattle.std.proofs.lemmas.Bool.{cases_lt}
use Rattle.std.specs.Prelude.{slice_set}
use mathlib.Core.Option.{some}
use lib.ListN.{get_elem?}
use Rattle.atomic_table.specs.Table.{State, Allows, keeps}
use Rattle.ucq_board.specs.declared.rule.View.{View}
use Rattle.ucq_board.specs.declared.rule.Key.{Key}
use Rattle.ucq_board.specs.Lists.{times, once_below}
use Rattle.ucq_board.specs.Rule.{cursor_in, total, calls_of, Keeps}
use Rattle.ucq_board.specs.Steps.{drew, at_end, Draws}
use Rattle.ucq_board.proofs.Times.{times_snoc, once_next, once_past, none_below, times_absent, absent_times}
use Rattle.ucq_board.proofs.Totals.{part_le}
use Rattle.ucq_board.proofs.Sums.{seats_unspent, ended_seats_going, ended_le}
use Rattle.ucq_board.proofs.Moves.{Grows, Changes, fits_later, moves}

-- the cursor does not wrap
next_cursor : (k : Key) (s : State ℕ View) → Keeps k s → (cursor_in s.words + 1) % 2 ^ 64 ≡ cursor_in s.words + 1
next_cursor k s h = let e = ended_le s.views in let a = h.cursor in let b = h.seats in let c = h.small in grind arith

cursor_advanced : (words : List ℕ) → 0 < length words → cursor_in (slice_set words 0 (cursor_in words + 1)) ≡ cursor_in words + 1
cursor_advanced words l = get_or-set_same words 0 (cursor_in words + 1) 0 l

grows_advanced : (words : List ℕ) → 0 < length words → Grows words (slice_set words 0 (cursor_in words + 1))
grows_advanced words l = record {
  cursor = let a = cursor_advanced words l in omega arith;
  stop = λ e. get_or-set_other words 0 1 (cursor_in words + 1) 0 (λ x. omega arith) ∙ e;
  marks = λ row e. get_or-set_other words 0 (row + 2) (cursor_in words + 1) 0 (λ x. omega arith) ∙ e;
}

draws_row :
    (k : Key) (s : State ℕ View) (id : ℕ) (v : View) →
    Keeps k s →
    get_elem? s.views id ≡ some v →
    v.spent ≡ false →
    cursor_in s.words < k.rows →
    Changes k s.words (slice_set s.words 0 (cursor_in s.words + 1)) s.views v (drew v (cursor_in s.words))
draws_row k s id v h at unspent below =
    let n = cursor_in s.words in
    let l : 0 < length s.words = let a = h.length in omega arith in
    let next = cursor_advanced s.words l in
    let grows = grows_advanced s.words l in
    let f = fits_later k s.words (slice_set s.words 0 (n + 1)) v grows (h.each id v at) in
    record {
      length = length-set s.words 0 (n + 1);
      grows = grows;
      drawn = λ x. let a = times_snoc x v.drawn n in let b = once_next x n k.rows below in let i = ap (λ (m : ℕ). once_below x (min m k.rows)) next in omega arith;
      done = λ row m. let a = get_or-set_other s.words 0 (row + 2) (n + 1) 0 (λ x. omega arith) in omega arith;
      stop = λ m e. let a = get_or-set_other s.words 0 1 (n + 1) 0 (λ x. omega arith) in let b = h.stop in let c : m ≡ total calls_of s.views = omega arith in a ∙ b ∙ ap (min 1) (sym c);
      seats = refl;
      cursor = let c = h.cursor in omega arith;
      fits = record {
        fixed = f.fixed;
        finished = λ row. let a = f.finished row in let b = times_snoc row v.drawn n in omega arith;
        seen = f.seen;
        called = f.called;
        knows = f.knows;
        ended = f.ended;
        spent = λ e. absurd (let u = unspent in cc);
      };
    }

draws_end :
    (k : Key) (s : State ℕ View) (id : ℕ) (v : View) →
    Keeps k s →
    get_elem? s.views id ≡ some v →
    v.spent ≡ false →
    v.ended ≡ false →
    k.rows ≤ cursor_in s.words →
    Changes k s.words (slice_set s.words 0 (cursor_in s.words + 1)) s.views v (at_end v)
draws_end k s id v h at unspent going past =
    let n = cursor_in s.words in
    let l : 0 < length s.words = let a = h.length in omega arith in
    let next = cursor_advanced s.words l in
    let grows = grows_advanced s.words l in
    let f = fits_later k s.words (slice_set s.words 0 (n + 1)) v grows (h.each id v at) in
    record {
      length = length-set s.words 0 (n + 1);
      grows = grows;
      drawn = λ x. let b = once_past x n k.rows past in let i = ap (λ (m : ℕ). once_below x (min m k.rows)) next in omega arith;
      done = λ row m. let a = get_or-set_other s.words 0 (row + 2) (n + 1) 0 (λ x. omega arith) in omega arith;
      stop = λ m e. let a = get_or-set_other s.words 0 1 (n + 1) 0 (λ x. omega arith) in let b = h.stop in let c : m ≡ total calls_of s.views = omega arith in a ∙ b ∙ ap (min 1) (sym c);
      seats = refl;
      cursor = let c = h.cursor in let old = ended_seats_going v going in let new = seats_unspent v unspent in omega arith;
      fits = record {
        fixed = f.fixed;
        finished = f.finished;
        seen = f.seen;
        called = f.called;
        knows = f.knows;
        ended = λ e. omega arith;
        spent = λ e. absurd (let u = unspent in cc);
      };
    }

-- the row at the cursor was drawn by no seat
undrawn : (k : Key) (s : State ℕ View) (id : ℕ) (v : View) → Keeps k s → get_elem? s.views id ≡ some v → ¬ Contains v.drawn (cursor_in s.words)
undrawn k s id v h at =
    let n = cursor_in s.words in
    let a = part_le (λ u. times n u.drawn) s.views id v at in
    let b = h.drawn n in
    let c = none_below n k.rows in
    times_absent n v.drawn (omega arith)

unfinished : (k : Key) (s : State ℕ View) (id : ℕ) (v : View) → Keeps k s → get_elem? s.views id ≡ some v → ¬ Contains v.finished (cursor_in s.words)
unfinished k s id v h at =
    let n = cursor_in s.words in
    let a = absent_times n v.drawn (undrawn k s id v h at) in
    let b = (h.each id v at).finished n in
    times_absent n v.finished (omega arith)

pub draws :
    (k : Key) (slots id : ℕ) (v : View) (c : List (ℕ × ℕ)) →
    v.spent ≡ false →
    v.ended ≡ false →
    Allows (Keeps k) slots id (v, c) 0 (λ n. (n + 1) % 2 ^ 64) (λ found after. Draws v found after.0 × (after.1 ≡ c))
draws k slots id v c unspent going s h count at fits =
    let n = cursor_in s.words in
    let rows = ((h.each id v at).fixed unspent).0 in
    let next = next_cursor k s h in
    ⊎_elim
    (λ below. (
      drew v n,
      keeps,
      tt,
      rw next (moves k s (slice_set s.words 0 (n + 1)) id v (drew v n) h at (draws_row k s id v h at unspent below)),
      (record { below = λ l. (refl, undrawn k s id v h at, unfinished k s id v h at); past = λ l. absurd (omega arith) }, refl),
    ))
    (λ past. (
      at_end v,
      keeps,
      tt,
      rw next (moves k s (slice_set s.words 0 (n + 1)) id v (at_end v) h at (draws_end k s id v h at unspent going past)),
      (record { below = λ l. absurd (omega arith); past = λ l. refl }, refl),
    ))
    (cases_lt n k.rows)
