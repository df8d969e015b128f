-- What threads find, each with a part of the members of a union.
use Rattle.std.specs.Prelude.{◌≡◌, ℕ, List, map, Some, Ok, Result, Contains, ◌⊎◌, ◌↔◌, slice_get}
use Rattle.std.specs.Global.{Vec}
use Rattle.indexmap.specs.IndexSet.{IndexSet}
use Rattle.ucq_terms.specs.Syntax.{Atom, Query}
use Rattle.ucq_eval.specs.declared.split.Search.{Search}
use Rattle.ucq_eval.specs.inner.Join.{IsCollected}

-- the tuples in the keys of a set
abbrev pub tuples_in : List (Vec ℕ) → List (List ℕ)
tuples_in keys = map (λ (t : Vec ℕ). t.items) keys

-- A search was under way, and the tuples with which the member at the place maps into the facts were added to what it found.
pub record GoesThrough {E : Type 0} (union : List Query) (facts : List Atom) (before : Result Search E) (place : ℕ) (after : Search) : Type 0 where
  pub search : Search
  pub was : before ≡ Ok search
  pub member : Query
  pub at : slice_get union place ≡ Some member
  pub collected : IsCollected member facts (tuples_in search.found.keys) (tuples_in after.found.keys)

-- A search was made, and found these.
pub record IsFoundBy {S E : Type 0} (before : Result Search E) (found : IndexSet (Vec ℕ) S) : Type 0 where
  pub search : Search
  pub was : before ≡ Ok search
  pub same : found.keys ≡ search.found.keys

-- Both sets were made, and their tuples are in the third one, with no others.
pub record IsMerged {S E : Type 0} (one other : Result (IndexSet (Vec ℕ) S) E) (all : IndexSet (Vec ℕ) S) : Type 0 where
  pub left : IndexSet (Vec ℕ) S
  pub left_was : one ≡ Ok left
  pub right : IndexSet (Vec ℕ) S
  pub right_was : other ≡ Ok right
  pub each : (tuple : List ℕ) → Contains (tuples_in all.keys) tuple ↔ (Contains (tuples_in left.keys) tuple ⊎ Contains (tuples_in right.keys) tuple)
