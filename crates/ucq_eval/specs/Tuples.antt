-- Tuples of constants, each a list of the numbers of names: their texts, and the order in which they stand.
use Rattle.std.specs.Prelude.{ℕ, List, [], ◌∷◌, ◌++◌, codes}
use Rattle.std.specs.List.{flat_map}
use Rattle.std.specs.Cmp.Lexicographic.{slice_cmp}
use Rattle.std.specs.Ordering.{nat_cmp, ordering_then}
use Rattle.std.specs.declared.cmp.Ordering.{Ordering}
use Rattle.ucq_terms.specs.Names.{name_text}

-- the texts of the elements, with the separator between each two
abbrev pub joined : {A : Type 0} → List ℕ → (A → List ℕ) → List A → List ℕ
joined separator text [] = []
joined separator text (x ∷ xs) = text x ++ flat_map (λ y. separator ++ text y) xs

-- the constants' texts between parentheses, with commas
abbrev pub tuple_text : List (List ℕ) → List ℕ → List ℕ
tuple_text names tuple = codes "(" ++ joined (codes ",") (name_text names) tuple ++ codes ")"

-- byte order of the texts, and of two tuples with one text the order of their lists of numbers
abbrev pub tuple_cmp : List (List ℕ) → List ℕ → List ℕ → Ordering
tuple_cmp names a b = ordering_then (slice_cmp nat_cmp (tuple_text names a) (tuple_text names b)) (slice_cmp nat_cmp a b)
