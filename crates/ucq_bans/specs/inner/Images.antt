-- The images of queries among facts, as sets of places.
use Rattle.std.specs.Prelude.{◌≡◌, ℕ, ◌<◌, List, length, Some, Contains, ◌↔◌, slice_get}
use Rattle.ucq_terms.specs.declared.Term.{Term}
use Rattle.ucq_terms.specs.Syntax.{Atom, IsSubset, atom_image, atoms_image}
use Rattle.ucq_store.specs.Store.{Store, IsLive, query_of}
use Rattle.ucq_bans.specs.Conflicts.{IsRising}

-- some map sends each of the atoms to a fact
pub record MapsAtoms (atoms facts : List Atom) : Type 0 where
  pub mapping : ℕ → Term
  pub sent : IsSubset (atoms_image mapping atoms) facts

-- the map sends one of the atoms to the fact at the place
pub record IsImageAt (h : ℕ → Term) (atoms facts : List Atom) (place : ℕ) : Type 0 where
  pub atom : Atom
  pub among : Contains atoms atom
  pub fact : slice_get facts place ≡ Some (atom_image h atom)

-- Some map sends each of the atoms to a fact, and these facts have just the places of the set.
pub record IsImageOf (atoms facts : List Atom) (set : List ℕ) : Type 0 where
  pub mapping : ℕ → Term
  pub sent : IsSubset (atoms_image mapping atoms) facts
  pub rising : IsRising set
  pub each : (place : ℕ) → Contains set place ↔ IsImageAt mapping atoms facts place

-- the set is an image of a live row among the first rows
pub record IsLiveImage (s : Store) (rows : ℕ) (facts : List Atom) (set : List ℕ) : Type 0 where
  pub row : ℕ
  pub before : row < rows
  pub live : IsLive s row
  pub image : IsImageOf (query_of s row).atoms facts set

-- the images of the live rows among the first rows, and those of all live rows
pub record AreImagesBefore (s : Store) (rows : ℕ) (facts : List Atom) (sets : List (List ℕ)) : Type 0 where
  pub each : (set : List ℕ) → Contains sets set ↔ IsLiveImage s rows facts set

abbrev pub AreImages : Store → List Atom → List (List ℕ) → Type 0
AreImages s facts sets = AreImagesBefore s (length s.rows) facts sets
