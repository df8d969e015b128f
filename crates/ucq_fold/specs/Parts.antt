-- Lists that leave elements of others out.
use Rattle.std.specs.Prelude.{◌≡◌, ℕ, remove, List, [], ◌∷◌, ◌⊎◌}
use Rattle.ucq_terms.specs.Syntax.{Atom, Query}
use Rattle.ucq_terms.specs.Homomorphism.{MapsInto}

-- the first list has some of the atoms of the second, in their order
abbrev pub IsPartInOrder : List Atom → List Atom → Type 0
IsPartInOrder part [] = part ≡ []
IsPartInOrder part (atom ∷ atoms) = IsPartInOrder part atoms ⊎ ((rest : List Atom) × (part ≡ atom ∷ rest) × IsPartInOrder rest atoms)

-- the query without the atom at a place
abbrev pub without_atom : Query → ℕ → Query
without_atom q place = record q { atoms = remove q.atoms place }

-- the query maps into itself without the atom, with the same answers
abbrev pub CanSpare : Query → ℕ → Type 0
CanSpare q place = MapsInto q (remove q.atoms place) q.answers

-- the atom at the place was taken out if the query can spare it, and else nothing changed
abbrev pub IsTried : Query → Query → ℕ → Type 0
IsTried before after place = ((after ≡ without_atom before place) × CanSpare before place) ⊎ ((after ≡ before) × ¬ CanSpare before place)
