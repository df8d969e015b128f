-- A look keeps the rule.
use Rattle.std.proofs.Common.{◌≡◌, ℕ, min, Bool, true, false, List, arith, refl, sym, ap, ◌∙◌, ⊎_elim}
use Rattle.std.proofs.lemmas.List.{set-get_or}
use Rattle.std.proofs.lemmas.Bool.{cases_eq}
use Rattle.std.specs.Prelude.{slice_index, slice_set}
use mathlib.Core.Option.{some}
use lib.ListN.{get_elem?}
use Rattle.atomic_table.specs.Table.{State, Allows, keeps}
use Rattle.ucq_board.specs.declared.rule.View.{View}
use Rattle.ucq_board.specs.declared.rule.Key.{Key}
use Rattle.ucq_board.specs.Lists.{times, AreOnce}
use Rattle.ucq_board.specs.Rule.{cursor_in, stop_in, total, seats_of, ended_seats_of, calls_of, FitsView, Keeps}
use Rattle.ucq_board.specs.Steps.{knowing, AsksStop, Looks}
use Rattle.ucq_board.proofs.Times.{once_small}
use Rattle.ucq_board.proofs.Totals.{part_le}
use Rattle.ucq_board.proofs.Sums.{seats_unspent}
use Rattle.ucq_board.proofs.Moves.{Grows, moves}

grows_not : (words : List ℕ) → Grows words words
grows_not words = record { cursor = omega arith; stop = λ e. e; marks = λ row e. e }

-- A look that changes of the view neither drawn nor finished rows, nor the seats, nor whether it has ended or called.
pub looked :
    (k : Key) (s : State ℕ View) (i id : ℕ) (v w : View) →
    Keeps k s →
    get_elem? s.views id ≡ some v →
    ((x : ℕ) → times x w.drawn ≡ times x v.drawn) →
    ((x : ℕ) → times x w.finished ≡ times x v.finished) →
    seats_of w ≡ seats_of v →
    ended_seats_of w ≡ ended_seats_of v →
    calls_of w ≡ calls_of v →
    FitsView k s.words w →
    Keeps k (record { words = slice_set s.words i (slice_index s.words i); homes = s.homes; views = slice_set s.views id w })
looked k s i id v w h at drawn finished seats ended calls fits =
    let same_words : slice_set s.words i (slice_index s.words i) ≡ s.words = set-get_or s.words i 0 in
    rw same_words (moves k s s.words id v w h at (record {
      length = refl;
      grows = grows_not s.words;
      drawn = λ x. let a = drawn x in omega arith;
      done = λ row l. let a = finished row in omega arith;
      stop = λ n e. let a : n ≡ total calls_of s.views = omega arith in h.stop ∙ ap (min 1) (sym a);
      seats = seats;
      cursor = let a = h.cursor in omega arith;
      fits = fits;
    }))

pub looks :
    (k : Key) (slots id : ℕ) (v : View) (c : List (ℕ × ℕ)) →
    v.spent ≡ false →
    Allows (Keeps k) slots id (v, c) 0 (λ n. n) (λ found after. Looks v after.0 × (after.1 ≡ c))
looks k slots id v c unspent s h count at fits =
    let w = part_le seats_of s.views id v at in let e = seats_unspent v unspent in let b = h.seats in let m = h.small in
    let once : AreOnce v.drawn = λ x. let p = part_le (λ u. times x u.drawn) s.views id v at in let q = h.drawn x in let r = once_small x (min (cursor_in s.words) k.rows) in omega arith in
    (v, keeps, tt, looked k s 0 id v v h at (λ x. refl) (λ x. refl) refl refl refl (h.each id v at), (record { same = refl; once = once; few = omega arith }, refl))

knowing_fits : (k : Key) (words : List ℕ) (v : View) → v.spent ≡ false → stop_in words ≡ 1 → FitsView k words v → FitsView k words (knowing v)
knowing_fits k words v unspent stop f = record {
  fixed = f.fixed;
  finished = f.finished;
  seen = f.seen;
  called = λ e. refl;
  knows = λ e. stop;
  ended = f.ended;
  spent = λ e. absurd (let u = unspent in cc);
}

bool_false : (b : Bool) → (b ≡ true → ⊥) → b ≡ false
bool_false true n = absurd (n refl)
bool_false false n = refl

pub asks_stop :
    (k : Key) (slots id : ℕ) (v : View) (c : List (ℕ × ℕ)) →
    v.spent ≡ false →
    Allows (Keeps k) slots id (v, c) 1 (λ n. n) (λ found after. AsksStop v found after.0 × (after.1 ≡ c))
asks_stop k slots id v c unspent s h count at fits =
    let f = h.each id v at in
    let stop = h.stop in
    ⊎_elim
    (λ none. (
      v,
      keeps,
      tt,
      looked k s 1 id v v h at (λ x. refl) (λ x. refl) refl refl refl f,
      (record { stopped = λ n. absurd (n none); going = λ e. (refl, bool_false v.knows (λ t. let a = f.knows t in omega arith)) }, refl),
    ))
    (λ some. let one : stop_in s.words ≡ 1 = omega arith in (
      knowing v,
      keeps,
      tt,
      looked k s 1 id v (knowing v) h at (λ x. refl) (λ x. refl) refl refl refl (knowing_fits k s.words v unspent one f),
      (record { stopped = λ n. refl; going = λ e. absurd (some e) }, refl),
    ))
    (cases_eq (stop_in s.words) 0)
