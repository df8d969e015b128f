-- Names and their numbers.
use Rattle.std.specs.Prelude.{ℕ, slice_index_or, if◌then◌else◌, List, [], ◌∷◌, ◌++◌}
use Rattle.std.specs.List.{list_any, position_or_len}
use Rattle.std.specs.Str.{bytes_eq}

-- the names after a text: it stands last, where it isn't held yet
abbrev pub with_name : List (List ℕ) → List ℕ → List (List ℕ)
with_name names text = if list_any (bytes_eq text) names then names else names ++ text ∷ []

-- a text's number is its place
abbrev pub number_of : List (List ℕ) → List ℕ → ℕ
number_of names text = position_or_len (bytes_eq text) names

-- the text of a name's number, which is nothing where the names don't hold it
abbrev pub name_text : List (List ℕ) → ℕ → List ℕ
name_text names number = slice_index_or names number []
