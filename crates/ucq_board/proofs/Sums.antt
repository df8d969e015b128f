-- How many seats views stand for.
use Rattle.std.proofs.Common.{◌≡◌, ◌≤◌, ◌+◌, ◌*◌, ℕ, Bool, true, false, if◌then◌else◌, List, [], ◌∷◌, ◌||◌, arith, refl, ap}
use Rattle.ucq_board.specs.declared.rule.View.{View}
use Rattle.ucq_board.specs.Rule.{seats_of, ended_seats_of, calls_of, total}
use Rattle.ucq_board.specs.Steps.{left_of, right_of, both_of}

pub seats_unspent : (v : View) → v.spent ≡ false → seats_of v ≡ 1 + v.spare
seats_unspent v e = ap (λ (b : Bool). let none : ℕ = 0 in if b then none else 1 + v.spare) e

pub seats_spent : (v : View) → v.spent ≡ true → seats_of v ≡ 0
seats_spent v e = ap (λ (b : Bool). let none : ℕ = 0 in if b then none else 1 + v.spare) e

pub ended_seats_going : (v : View) → v.ended ≡ false → ended_seats_of v ≡ 0
ended_seats_going v e = ap (λ (b : Bool). if b then seats_of v else 0) e

pub calls_called : (v : View) → v.called ≡ true → calls_of v ≡ 1
calls_called v e = ap (λ (b : Bool). let one : ℕ = 1 in if b then one else 0) e

pub calls_none : (v : View) → v.called ≡ false → calls_of v ≡ 0
calls_none v e = ap (λ (b : Bool). let one : ℕ = 1 in if b then one else 0) e

least : (b : Bool) (n : ℕ) → (if b then n else 0) ≤ n
least true n = omega arith
least false n = omega arith

pub ended_least : (v : View) → ended_seats_of v ≤ seats_of v
ended_least v = least v.ended (seats_of v)

pub ended_le : (views : List View) → total ended_seats_of views ≤ total seats_of views
ended_le [] = omega arith
ended_le (v ∷ vs) = let h = ended_le vs in let e = ended_least v in omega arith

pub halves_seats : (v : View) → v.spent ≡ false → 1 ≤ v.spare → seats_of (left_of v) + seats_of (right_of v) ≡ seats_of v
halves_seats v unspent enough =
    let a = seats_unspent v unspent in let b = seats_unspent (left_of v) unspent in let c = seats_unspent (right_of v) unspent in omega arith

halved : (b : Bool) (m n r : ℕ) → m + n ≡ r → (if b then m else 0) + (if b then n else 0) ≡ (if b then r else 0)
halved true m n r e = e
halved false m n r e = refl

pub halves_ended : (v : View) → v.spent ≡ false → 1 ≤ v.spare → ended_seats_of (left_of v) + ended_seats_of (right_of v) ≡ ended_seats_of v
halves_ended v unspent enough = halved v.ended (seats_of (left_of v)) (seats_of (right_of v)) (seats_of v) (halves_seats v unspent enough)

pub both_seats : (v w : View) → v.spent ≡ false → w.spent ≡ false → seats_of (both_of v w) ≡ seats_of v + seats_of w
both_seats v w a b = let c = seats_unspent v a in let d = seats_unspent w b in let e = seats_unspent (both_of v w) a in omega arith

grown : (p q : Bool) (m n r : ℕ) → r ≡ m + n → (if p then m else 0) + (if q then n else 0) ≤ (if p || q then r else 0)
grown true true m n r e = omega arith
grown true false m n r e = omega arith
grown false true m n r e = omega arith
grown false false m n r e = omega arith

pub both_ended : (v w : View) → v.spent ≡ false → w.spent ≡ false → ended_seats_of v + ended_seats_of w ≤ ended_seats_of (both_of v w)
both_ended v w a b = grown v.ended w.ended (seats_of v) (seats_of w) (seats_of (both_of v w)) (both_seats v w a b)

-- of two that have called one at most is lost
either_calls : (p q : Bool) → ((if p || q then 1 else 0) ≤ (if p then 1 else 0) + (if q then 1 else 0)) × ((if p then 1 else 0) + (if q then 1 else 0) ≤ 2 * (if p || q then 1 else 0))
either_calls true true = (omega arith, omega arith)
either_calls true false = (omega arith, omega arith)
either_calls false true = (omega arith, omega arith)
either_calls false false = (omega arith, omega arith)

pub both_calls : (v w : View) → (calls_of (both_of v w) ≤ calls_of v + calls_of w) × (calls_of v + calls_of w ≤ 2 * calls_of (both_of v w))
both_calls v w = either_calls v.called w.called
