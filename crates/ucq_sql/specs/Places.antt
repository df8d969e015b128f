-- What the elements of a list give by their places.
use Rattle.std.specs.Prelude.{ℕ, suc, List, [], ◌∷◌, ◌++◌}

-- what each element gives with its place, one after another; places count from the given one on
abbrev pub by_place : {A B : Type 0} → (ℕ → A → List B) → ℕ → List A → List B
by_place give place [] = []
by_place give place (x ∷ xs) = give place x ++ by_place give (suc place) xs
