-- Sums over the views, where one of them changes or one is added.
use Rattle.std.proofs.Common.{◌≡◌, ◌≤◌, ◌+◌, ℕ, zero, suc, List, [], ◌∷◌, ◌++◌, set, arith, refl, sym, ap}
use mathlib.Core.Option.{some, some-injective, some-ne-none}
use lib.ListN.{get_elem?}
use Rattle.ucq_board.specs.declared.rule.View.{View}
use Rattle.ucq_board.specs.Rule.{total, seats_of}

pub total_set : (f : View → ℕ) (views : List View) (id : ℕ) (v w : View) → get_elem? views id ≡ some v → total f (set views id w) + f v ≡ total f views + f w
total_set f [] id v w e = absurd (some-ne-none v (sym e))
total_set f (x ∷ xs) zero v w e = let q : f x ≡ f v = ap f (some-injective x v e) in omega arith
total_set f (x ∷ xs) (suc i) v w e = let h = total_set f xs i v w e in omega arith

pub total_snoc : (f : View → ℕ) (views : List View) (w : View) → total f (views ++ w ∷ []) ≡ total f views + f w
total_snoc f [] w = omega arith
total_snoc f (v ∷ vs) w = let h = total_snoc f vs w in omega arith

pub part_le : (f : View → ℕ) (views : List View) (id : ℕ) (v : View) → get_elem? views id ≡ some v → f v ≤ total f views
part_le f [] id v e = absurd (some-ne-none v (sym e))
part_le f (x ∷ xs) zero v e = let q : f x ≡ f v = ap f (some-injective x v e) in omega arith
part_le f (x ∷ xs) (suc i) v e = let h = part_le f xs i v e in omega arith

-- where f is at most g of each view
pub total_le : (f g : View → ℕ) (views : List View) → ((j : ℕ) (u : View) → get_elem? views j ≡ some u → f u ≤ g u) → total f views ≤ total g views
total_le f g [] le = omega arith
total_le f g (x ∷ xs) le = let a = le 0 x refl in let h = total_le f g xs (λ j u e. le (suc j) u e) in omega arith

-- the same of all views but one
pub others_le :
    (f g : View → ℕ) (views : List View) (id : ℕ) (v : View) →
    ((j : ℕ) (u : View) → get_elem? views j ≡ some u → f u ≤ g u) →
    get_elem? views id ≡ some v →
    total f views + g v ≤ total g views + f v
others_le f g [] id v le e = absurd (some-ne-none v (sym e))
others_le f g (x ∷ xs) zero v le e =
    let q = some-injective x v e in
    let a : f x ≡ f v = ap f q in
    let b : g x ≡ g v = ap g q in
    let h = total_le f g xs (λ j u at. le (suc j) u at) in omega arith
others_le f g (x ∷ xs) (suc i) v le e =
    let a = le 0 x refl in
    let h = others_le f g xs i v (λ j u at. le (suc j) u at) e in omega arith

-- where one view stands for all seats, it has all that views with seats have
pub all_here :
    (f : View → ℕ) (views : List View) (id : ℕ) (v : View) →
    ((j : ℕ) (u : View) → get_elem? views j ≡ some u → seats_of u ≡ 0 → f u ≡ 0) →
    get_elem? views id ≡ some v →
    total seats_of views ≡ seats_of v →
    total f views ≡ f v
all_here f [] id v none e w = absurd (some-ne-none v (sym e))
all_here f (x ∷ xs) zero v none e w =
    let p = some-injective x v e in
    let q : seats_of x ≡ seats_of v = ap seats_of p in
    let r : f x ≡ f v = ap f p in
    let z = all_zero f xs (λ j u at. none (suc j) u at) (omega arith) in omega arith
  where
    all_zero : (f : View → ℕ) (views : List View) → ((j : ℕ) (u : View) → get_elem? views j ≡ some u → seats_of u ≡ 0 → f u ≡ 0) → total seats_of views ≡ 0 → total f views ≡ 0
    all_zero f [] none w = refl
    all_zero f (y ∷ ys) none w = let a = none 0 y refl (omega arith) in let b = all_zero f ys (λ j u at. none (suc j) u at) (omega arith) in omega arith
all_here f (x ∷ xs) (suc i) v none e w =
    let l = part_le seats_of xs i v e in
    let a = none 0 x refl (omega arith) in
    let b = all_here f xs i v (λ j u at. none (suc j) u at) e (omega arith) in omega arith
