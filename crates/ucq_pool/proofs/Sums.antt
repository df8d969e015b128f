-- A sum over a list whose elements are replaced by lighter ones.
use Rattle.std.proofs.Common.{◌≡◌, ℕ, zero, suc, ◌<◌, ◌≤◌, List, [], ◌∷◌, length, get_or, arith}
use Rattle.std.specs.List.{sum_by}
use Rattle.std.proofs.lemmas.List.Sums.{sum_by-cons}

pub sum_no_more : {X : Type 0} (f : X → ℕ) (d : X) (xs ys : List X) → length ys ≡ length xs →
    ((k : ℕ) → k < length xs → f (get_or ys k d) ≤ f (get_or xs k d)) → sum_by f ys ≤ sum_by f xs
sum_no_more f d [] [] e h = omega arith
sum_no_more f d [] (y ∷ ys) e h = absurd (omega arith)
sum_no_more f d (x ∷ xs) [] e h = absurd (omega arith)
sum_no_more f d (x ∷ xs) (y ∷ ys) e h =
    let here : f y ≤ f x = h 0 (omega arith) in
    let rest : sum_by f ys ≤ sum_by f xs = sum_no_more f d xs ys (omega arith) (λ k l. h (suc k) (omega arith)) in
    omega (arith, sum_by-cons f x xs, sum_by-cons f y ys)

-- it is less where one of them is
pub sum_less : {X : Type 0} (f : X → ℕ) (d : X) (xs ys : List X) (i : ℕ) → length ys ≡ length xs →
    ((k : ℕ) → k < length xs → f (get_or ys k d) ≤ f (get_or xs k d)) → i < length xs → f (get_or ys i d) < f (get_or xs i d) → sum_by f ys < sum_by f xs
sum_less f d [] ys i e h l less = absurd (omega arith)
sum_less f d (x ∷ xs) [] i e h l less = absurd (omega arith)
sum_less f d (x ∷ xs) (y ∷ ys) zero e h l less =
    let here : f y < f x = less in
    let rest : sum_by f ys ≤ sum_by f xs = sum_no_more f d xs ys (omega arith) (λ k m. h (suc k) (omega arith)) in
    omega (arith, sum_by-cons f x xs, sum_by-cons f y ys)
sum_less f d (x ∷ xs) (y ∷ ys) (suc i) e h l less =
    let here : f y ≤ f x = h 0 (omega arith) in
    let rest : sum_by f ys < sum_by f xs = sum_less f d xs ys i (omega arith) (λ k m. h (suc k) (omega arith)) (omega arith) less in
    omega (arith, sum_by-cons f x xs, sum_by-cons f y ys)
