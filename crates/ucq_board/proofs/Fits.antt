-- A seat and its board have one table.
use Rattle.std.proofs.Common.{◌≡◌, ◌<◌, ◌+◌, ℕ, zero, suc, Bool, true, false, not, List, [], ◌∷◌, Contains, IsTrue, ◌↔◌, slice_index, arith, eqb, eq-eqb, ne_eqb, refl, sym, ap, subst, ◌∙◌, ⊎_elim}
use Rattle.std.proofs.lemmas.Bool.{cases_eq}
use Rattle.std.proofs.lemmas.List.Elements.{Contains-push, All-contains}
use mathlib.Core.Option.{some, some-injective, some-ne-none}
use lib.ListN.{get_elem?}
use Rattle.atomic_table.specs.Seated.{TableId}
use Rattle.ucq_board.specs.declared.rule.View.{View}
use Rattle.ucq_board.specs.Steps.{finishing, seeing, AsksRow}
use Rattle.ucq_board.specs.Calls.{DoesAskRow}
use Rattle.ucq_board.specs.Values.{BoardValue, SeatValue, IsSeatOf, IsSeat}

pub one_table :
    (t : TableId) (v : View) (seat : SeatValue) (u : TableId) (rows seats : ℕ) (board : BoardValue) →
    record { table = t; view = v } ≡ seat →
    record { table = u; rows = rows; seats = seats } ≡ board →
    IsSeatOf board seat →
    t ≡ u
one_table t v seat u rows seats board p q e = ap (λ (s : SeatValue). s.table) p ∙ e ∙ sym (ap (λ (b : BoardValue). b.table) q)

-- and so it has the same number of rows
pub one_count : (t u : TableId) (m n : ℕ) → t ≡ u → m + 2 ≡ t.words → u.words ≡ n + 2 → m ≡ n
one_count t u m n e a b = let c = ap (λ (z : TableId). z.words) e in omega arith

-- a table with a word for each row has these two
pub has_words : (t : TableId) (n : ℕ) → t.words ≡ n + 2 → (0 < t.words) × (1 < t.words)
has_words t n e = (omega arith, omega arith)

-- what a seat has drawn are rows of the table
pub drawn_below : (t : TableId) (v : View) (left : ℕ) (over : Bool) (row n : ℕ) → IsSeat t v left over → t.words ≡ n → Contains v.drawn row → row + 2 < n
drawn_below t v left over row n h e c = let a = All-contains (λ (r : ℕ). r < v.rows) v.drawn row h.drawn c in let b = h.rows in omega arith

pub finished_seat : (t u : TableId) (v w : View) (left : ℕ) (over : Bool) (row : ℕ) → u ≡ t → w ≡ finishing v row → IsSeat t v left over → IsSeat u w left over
finished_seat t u v w left over row p q h =
    rw (p, q) (record { rows = h.rows; unspent = h.unspent; spare = h.spare; few = h.few; ended = h.ended; drawn = h.drawn })

seen_seat : (t : TableId) (v : View) (left : ℕ) (over : Bool) (row : ℕ) → IsSeat t v left over → IsSeat t (seeing v row) left over
seen_seat t v left over row h = record { rows = h.rows; unspent = h.unspent; spare = h.spare; few = h.few; ended = h.ended; drawn = h.drawn }

pub asked_seat : (t u : TableId) (v w : View) (left : ℕ) (over : Bool) (row found : ℕ) → u ≡ t → AsksRow row v found w → IsSeat t v left over → IsSeat u w left over
asked_seat t u v w left over row found p a h =
    ⊎_elim
    (λ e. rw (p, (a.unfinished e).0) h)
    (λ n. rw (p, a.done n) (seen_seat t v left over row h))
    (cases_eq found 0)

pub asked : (v w : View) (row found : ℕ) → AsksRow row v found w → DoesAskRow v row (not (eqb found 0)) w
asked v w row found a =
    ⊎_elim
    (λ e. subst (λ (b : Bool). DoesAskRow v row (not b) w) (sym (eq-eqb found 0 e)) (a.unfinished e))
    (λ n. subst (λ (b : Bool). DoesAskRow v row (not b) w) (sym (ne_eqb found 0 n)) (a.done n))
    (cases_eq found 0)

pub asked_seen : (v w : View) (row : ℕ) (answer : Bool) → DoesAskRow v row answer w → IsTrue answer ↔ Contains w.seen row
asked_seen v w row true a = ((λ t. subst (λ (u : View). Contains u.seen row) (sym a) (Contains-push v.seen row)), λ c. refl)
asked_seen v w row false a = ((λ t. absurd (let y = t in cc)), λ c. absurd (a.1 (subst (λ (u : View). Contains u.seen row) a.0 c)))

pub read_is : (xs : List ℕ) (i v : ℕ) → get_elem? xs i ≡ some v → slice_index xs i ≡ v
read_is [] i v e = absurd (some-ne-none v (sym e))
read_is (x ∷ xs) zero v e = some-injective x v e
read_is (x ∷ xs) (suc i) v e = read_is xs i v e
