-- Lists of which a loop has mapped the first elements in place.
use Rattle.std.proofs.Common.{◌≡◌, ℕ, zero, suc, ◌<◌, List, [], ◌∷◌, ◌++◌, map, take, drop, length, get_or, refl, ap, arith}
use Rattle.std.proofs.Math.ListN.{set}

-- the first elements mapped, and the others as they were
abbrev pub mapped : {X : Type 0} → (X → X) → ℕ → List X → List X
mapped f n xs = map f (take n xs) ++ drop n xs

pub mapped-none : {X : Type 0} (f : X → X) (xs : List X) → mapped f 0 xs ≡ xs
mapped-none f xs = refl

pub mapped-all : {X : Type 0} (f : X → X) (xs : List X) → mapped f (length xs) xs ≡ map f xs
mapped-all f [] = refl
mapped-all f (x ∷ xs) = ap (λ l. f x ∷ l) (mapped-all f xs)

-- the next element is as it was
pub get_or-mapped : {X : Type 0} (f : X → X) (xs : List X) (n : ℕ) (d : X) → n < length xs → get_or (mapped f n xs) n d ≡ get_or xs n d
get_or-mapped f [] n d h = absurd (omega arith)
get_or-mapped f (x ∷ xs) zero d h = refl
get_or-mapped f (x ∷ xs) (suc n) d h = get_or-mapped f xs n d (omega arith)

-- one more element mapped
pub set-mapped : {X : Type 0} (f : X → X) (xs : List X) (n : ℕ) (d : X) → n < length xs → set (mapped f n xs) n (f (get_or xs n d)) ≡ mapped f (suc n) xs
set-mapped f [] n d h = absurd (omega arith)
set-mapped f (x ∷ xs) zero d h = refl
set-mapped f (x ∷ xs) (suc n) d h = ap (λ l. f x ∷ l) (set-mapped f xs n d (omega arith))

pub drop-all : {X : Type 0} (xs : List X) → drop (length xs) xs ≡ []
drop-all [] = refl
drop-all (x ∷ xs) = drop-all xs
