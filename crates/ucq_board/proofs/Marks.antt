-- A row that is finished, a stop, and a look at a row's word keep the rule.
use Rattle.std.proofs.Common.{◌≡◌, ◌≤◌, ◌<◌, ◌+◌, ℕ, min, false, List, length, length-set, Contains, bit_or, get_or-set_same, get_or-set_other, arith, refl, sym, ap, ◌∙◌, subst, ⊎_elim}
use Rattle.std.proofs.lemmas.Bool.{cases_eq}
use Rattle.std.proofs.lemmas.List.Elements.{Contains-push_cases}
use Rattle.std.specs.Prelude.{slice_set}
use mathlib.Core.Option.{some}
use lib.ListN.{get_elem?}
use Rattle.atomic_table.specs.Table.{State, Allows, keeps}
use Rattle.ucq_board.specs.declared.rule.View.{View}
use Rattle.ucq_board.specs.declared.rule.Key.{Key}
use Rattle.ucq_board.specs.Lists.{times, once_below}
use Rattle.ucq_board.specs.Rule.{cursor_in, stop_in, mark_in, total, calls_of, FitsView, Keeps}
use Rattle.ucq_board.specs.Steps.{finishing, stopping, seeing, AsksRow}
use Rattle.ucq_board.proofs.Times.{times_snoc, once_small, once_within, one_more, not_more, contained_times, absent_times}
use Rattle.ucq_board.proofs.Totals.{part_le, total_le, others_le}
use Rattle.ucq_board.proofs.Moves.{Grows, Changes, fits_later, moves}
use Rattle.ucq_board.proofs.Asks.{looked}

-- the stop

stop_bit : (n m : ℕ) → n ≡ min 1 m → bit_or n 1 ≡ 1
stop_bit n m e = ⊎_elim (λ z. ap (λ (i : ℕ). bit_or i 1) z) (λ z. let one : n ≡ 1 = omega arith in ap (λ (i : ℕ). bit_or i 1) one) (cases_eq n 0)

grows_stopped : (words : List ℕ) → 1 < length words → Grows words (slice_set words 1 1)
grows_stopped words l = record {
  cursor = let a = get_or-set_other words 1 0 1 0 (λ x. omega arith) in omega arith;
  stop = λ e. get_or-set_same words 1 1 0 l;
  marks = λ row e. get_or-set_other words 1 (row + 2) 1 0 (λ x. omega arith) ∙ e;
}

stopped_changes : (k : Key) (s : State ℕ View) (id : ℕ) (v : View) → Keeps k s → get_elem? s.views id ≡ some v → v.spent ≡ false → Changes k s.words (slice_set s.words 1 1) s.views v (stopping v)
stopped_changes k s id v h at unspent =
    let l : 1 < length s.words = let a = h.length in omega arith in
    let grows = grows_stopped s.words l in
    let f = fits_later k s.words (slice_set s.words 1 1) v grows (h.each id v at) in
    let same = get_or-set_other s.words 1 0 1 0 (λ x. omega arith) in
    record {
      length = length-set s.words 1 1;
      grows = grows;
      drawn = λ x. let i = ap (λ (m : ℕ). once_below x (min m k.rows)) same in omega arith;
      done = λ row m. let a = get_or-set_other s.words 1 (row + 2) 1 0 (λ x. omega arith) in omega arith;
      stop = λ n e. let a = part_le calls_of s.views id v at in let b = get_or-set_same s.words 1 1 0 l in omega arith;
      seats = refl;
      cursor = let a = h.cursor in omega arith;
      fits = record {
        fixed = f.fixed;
        finished = f.finished;
        seen = f.seen;
        called = λ e. refl;
        knows = λ e. get_or-set_same s.words 1 1 0 l;
        ended = f.ended;
        spent = λ e. absurd (let u = unspent in cc);
      };
    }

pub stops :
    (k : Key) (slots id : ℕ) (v : View) (c : List (ℕ × ℕ)) →
    v.spent ≡ false →
    Allows (Keeps k) slots id (v, c) 1 (λ n. bit_or n 1) (λ found after. (after.0 ≡ stopping v) × (after.1 ≡ c))
stops k slots id v c unspent s h count at fits =
    let bit = stop_bit (stop_in s.words) (total calls_of s.views) h.stop in
    (stopping v, keeps, tt, rw bit (moves k s (slice_set s.words 1 1) id v (stopping v) h at (stopped_changes k s id v h at unspent)), (refl, refl))

-- a row

-- no view has finished a row that one has drawn and not finished
unfinished : (k : Key) (s : State ℕ View) (id : ℕ) (v : View) (row : ℕ) → Keeps k s → get_elem? s.views id ≡ some v → Contains v.drawn row → ¬ Contains v.finished row → (row < k.rows) × (mark_in s.words row ≡ 0)
unfinished k s id v row h at drawn new =
    let a = contained_times row v.drawn drawn in
    let b = absent_times row v.finished new in
    let c = others_le (λ u. times row u.finished) (λ u. times row u.drawn) s.views id v (λ j u e. (h.each j u e).finished row) at in
    let d = h.drawn row in
    let e = once_small row (min (cursor_in s.words) k.rows) in
    let p = part_le (λ u. times row u.drawn) s.views id v at in
    let within = once_within row (min (cursor_in s.words) k.rows) (omega arith) in
    let below : row < k.rows = omega arith in
    let m = h.done row (omega arith) in
    (below, omega arith)

grows_marked : (words : List ℕ) (row : ℕ) → row + 2 < length words → Grows words (slice_set words (row + 2) 1)
grows_marked words row l = record {
  cursor = let a = get_or-set_other words (row + 2) 0 1 0 (λ x. omega arith) in omega arith;
  stop = λ e. get_or-set_other words (row + 2) 1 1 0 (λ x. omega arith) ∙ e;
  marks = λ other e. ⊎_elim (λ same. rw same (get_or-set_same words (row + 2) 1 0 l)) (λ n. get_or-set_other words (row + 2) (other + 2) 1 0 (λ x. n (omega arith)) ∙ e) (cases_eq other row);
}

finished_changes : (k : Key) (s : State ℕ View) (id : ℕ) (v : View) (row : ℕ) → Keeps k s → get_elem? s.views id ≡ some v → v.spent ≡ false → Contains v.drawn row → ¬ Contains v.finished row → Changes k s.words (slice_set s.words (row + 2) 1) s.views v (finishing v row)
finished_changes k s id v row h at unspent drawn new =
    let before = unfinished k s id v row h at drawn new in
    let l : row + 2 < length s.words = let a = h.length in let b = before.0 in omega arith in
    let grows = grows_marked s.words row l in
    let f = fits_later k s.words (slice_set s.words (row + 2) 1) v grows (h.each id v at) in
    let cursor = get_or-set_other s.words (row + 2) 0 1 0 (λ x. omega arith) in
    let stop = get_or-set_other s.words (row + 2) 1 1 0 (λ x. omega arith) in
    let zero_before = before.1 in
    let none = absent_times row v.finished new in
    let some_drawn = contained_times row v.drawn drawn in
    record {
      length = length-set s.words (row + 2) 1;
      grows = grows;
      drawn = λ x. let i = ap (λ (m : ℕ). once_below x (min m k.rows)) cursor in omega arith;
      done = λ other m.
          let t = times_snoc other v.finished row in
          ⊎_elim
          (λ same. let a = get_or-set_same s.words (row + 2) 1 0 l in let b = one_more row row refl in subst (λ (i : ℕ). mark_in (slice_set s.words (row + 2) 1) i + times i v.finished ≡ mark_in s.words i + times i (finishing v row).finished) (sym same) (let t = times_snoc row v.finished row in omega arith))
          (λ n. let a = get_or-set_other s.words (row + 2) (other + 2) 1 0 (λ x. n (omega arith)) in let b = not_more other row (λ x. n (sym x)) in omega arith)
          (cases_eq other row);
      stop = λ n e. let a : n ≡ total calls_of s.views = omega arith in stop ∙ h.stop ∙ ap (min 1) (sym a);
      seats = refl;
      cursor = let a = h.cursor in omega arith;
      fits = record {
        fixed = f.fixed;
        finished = λ other.
            let t = times_snoc other v.finished row in
            ⊎_elim
            (λ same. subst (λ (i : ℕ). times i (finishing v row).finished ≤ times i v.drawn) (sym same) (let b = one_more row row refl in let t = times_snoc row v.finished row in omega arith))
            (λ n. let b = not_more other row (λ x. n (sym x)) in let a = f.finished other in omega arith)
            (cases_eq other row);
        seen = f.seen;
        called = f.called;
        knows = f.knows;
        ended = f.ended;
        spent = λ e. absurd (let u = unspent in cc);
      };
    }

pub finishes :
    (k : Key) (slots id : ℕ) (v : View) (c : List (ℕ × ℕ)) (row : ℕ) →
    v.spent ≡ false →
    Contains v.drawn row →
    ¬ Contains v.finished row →
    Allows (Keeps k) slots id (v, c) (row + 2) (λ n. bit_or n 1) (λ found after. ((r : ℕ) → row + 2 ≡ r + 2 → after.0 ≡ finishing v r) × (after.1 ≡ c))
finishes k slots id v c row unspent drawn new s h count at fits =
    let bit : bit_or (mark_in s.words row) 1 ≡ 1 = ap (λ (n : ℕ). bit_or n 1) (unfinished k s id v row h at drawn new).1 in (
      finishing v row,
      keeps,
      tt,
      rw bit (moves k s (slice_set s.words (row + 2) 1) id v (finishing v row) h at (finished_changes k s id v row h at unspent drawn new)),
      ((λ r e. let same : row ≡ r = omega arith in ap (finishing v) same), refl),
    )

-- a look at a row's word

pub mark_small : (k : Key) (s : State ℕ View) (row : ℕ) → Keeps k s → row < k.rows → mark_in s.words row < 2
mark_small k s row h below =
    let a = total_le (λ u. times row u.finished) (λ u. times row u.drawn) s.views (λ j u e. (h.each j u e).finished row) in
    let b = h.drawn row in
    let c = once_small row (min (cursor_in s.words) k.rows) in
    let d = h.done row (omega arith) in omega arith

seeing_fits : (k : Key) (words : List ℕ) (v : View) (row : ℕ) → v.spent ≡ false → mark_in words row ≡ 1 → FitsView k words v → FitsView k words (seeing v row)
seeing_fits k words v row unspent one f = record {
  fixed = f.fixed;
  finished = f.finished;
  seen = λ other c. ⊎_elim (f.seen other) (λ e. subst (λ (i : ℕ). mark_in words i ≡ 1) e one) (Contains-push_cases v.seen row other c);
  called = f.called;
  knows = f.knows;
  ended = f.ended;
  spent = λ e. absurd (let u = unspent in cc);
}

pub asks_row :
    (k : Key) (slots id : ℕ) (v : View) (c : List (ℕ × ℕ)) (row : ℕ) →
    v.spent ≡ false →
    row < k.rows →
    Allows (Keeps k) slots id (v, c) (row + 2) (λ n. n) (λ found after. ((r : ℕ) → row + 2 ≡ r + 2 → AsksRow r v found after.0) × (after.1 ≡ c))
asks_row k slots id v c row unspent below s h count at fits =
    let f = h.each id v at in
    let small = mark_small k s row h below in
    let sums = h.done row (omega arith) in
    let part = part_le (λ u. times row u.finished) s.views id v at in
    ⊎_elim
    (λ none. (
      v,
      keeps,
      tt,
      looked k s (row + 2) id v v h at (λ x. refl) (λ x. refl) refl refl refl f,
      (
        (λ r e. let same : row ≡ r = omega arith in subst (λ (i : ℕ). AsksRow i v (mark_in s.words row) v) same (record {
          done = λ n. absurd (n none);
          unfinished = λ z. (refl, (λ seen. let a = f.seen row seen in absurd (omega arith)), (λ finished. let a = contained_times row v.finished finished in absurd (omega arith)));
        })),
        refl,
      ),
    ))
    (λ some. let one : mark_in s.words row ≡ 1 = omega arith in (
      seeing v row,
      keeps,
      tt,
      looked k s (row + 2) id v (seeing v row) h at (λ x. refl) (λ x. refl) refl refl refl (seeing_fits k s.words v row unspent one f),
      (
        (λ r e. let same : row ≡ r = omega arith in subst (λ (i : ℕ). AsksRow i v (mark_in s.words row) (seeing v row)) same (record {
          done = λ n. refl;
          unfinished = λ z. absurd (some z);
        })),
        refl,
      ),
    ))
    (cases_eq (mark_in s.words row) 0)
