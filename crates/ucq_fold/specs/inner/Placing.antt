-- Atoms of one query placed on atoms of another, one after another.
use Rattle.std.specs.Prelude.{◌≡◌, ℕ, ◌<◌, ◌⊎◌, true, List, length, zip, Contains, slice_index}
use Rattle.ucq_terms.specs.declared.Term.{Term}
use Rattle.ucq_terms.specs.Syntax.{Atom, Query, atom_image}
use Rattle.ucq_terms.specs.Unifier.{atom_at}
use Rattle.ucq_fold.specs.inner.Agreement.{pair_alike, agree}

-- The atom that the order visits at a place, and its image.
abbrev pub visited : Query → List ℕ → ℕ → Atom
visited a order i = atom_at a.atoms (slice_index order i)

-- the two stand beside one another in the answer lists, or in one of the first atoms of the order and its image
abbrev pub IsBeside : Query → Query → List ℕ → List ℕ → ℕ → Term × Term → Type 0
IsBeside a b order images count p =
    Contains (zip a.answers b.answers) p ⊎
    ((i : ℕ) × (i < count) × Contains (zip (visited a order i).terms (visited b images i).terms) p)

-- The first atoms of the order have images, and one renaming of variables, one to one, leads to all of them and to the answers.
pub record IsPlaced (a b : Query) (order images : List ℕ) (count : ℕ) : Type 0 where
  pub answers : length a.answers ≡ length b.answers
  pub within : (i : ℕ) → i < count → slice_index images i < length b.atoms
  pub names : (i : ℕ) → i < count → (visited a order i).name ≡ (visited b images i).name
  pub arities : (i : ℕ) → i < count → length (visited a order i).terms ≡ length (visited b images i).terms
  pub alike : (p : Term × Term) → IsBeside a b order images count p → pair_alike p ≡ true
  pub agree : (p q : Term × Term) → IsBeside a b order images count p → IsBeside a b order images count q → agree p q ≡ true

-- the map sends the first atoms of the order to their images
pub record Leads (h : ℕ → Term) (a b : Query) (order images : List ℕ) (count : ℕ) : Type 0 where
  pub each : (i : ℕ) → i < count → atom_image h (visited a order i) ≡ visited b images i
