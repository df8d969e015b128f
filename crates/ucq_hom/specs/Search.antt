-- What a search for the images of some atoms finds.
use Rattle.std.specs.Prelude.{◌≡◌, ℕ, ◌<◌, List, length, IsSome, Contains, ◌⊎◌}
use Rattle.ucq_terms.specs.declared.Term.{Term}
use Rattle.ucq_terms.specs.declared.Term.TheVariants.{Variable}
use Rattle.ucq_terms.specs.declared.TheConstants.{VARIABLES}
use Rattle.ucq_terms.specs.Syntax.{Atom, OccursIn, atom_image}
use Rattle.ucq_terms.specs.Unifier.{atom_at}
use Rattle.ucq_hom.specs.Space.{image}
use Rattle.ucq_hom.specs.Bindings.{Bound, Extends, Grown}
use Rattle.ucq_hom.specs.Levels.{ExtendsAt}

-- the variables among the terms are ones of stored queries
pub record HasLowTerms (terms : List Term) : Type 0 where
  pub low : (v : ℕ) → Contains terms (Variable v) → v < VARIABLES

-- the same of the terms of some atoms
pub record HasLowAtoms (atoms : List Atom) : Type 0 where
  pub low : (v : ℕ) → OccursIn atoms (Variable v) → v < VARIABLES

-- each is the place of one of the atoms
pub record ArePlaces (atoms : List Atom) (places : List ℕ) : Type 0 where
  pub within : (place : ℕ) → Contains places place → place < length atoms

-- no map that agrees with what is bound sends the atom to the other
pub record IsAtomClash (before : Bound) (atom target : Atom) : Type 0 where
  pub none : (h : ℕ → Term) → Extends h before → atom_image h atom ≡ target → ⊥

-- the map sends the atoms at these places to atoms among the targets
pub record Sends (h : ℕ → Term) (from : List Atom) (places : List ℕ) (targets : List Atom) : Type 0 where
  pub each : (place : ℕ) → Contains places place → Contains targets (atom_image h (atom_at from place))

-- The bindings have grown by the variables of the atoms at these places, so that the maps that agree with them send the atoms
-- to some of the targets.
pub record IsMappedFurther (before after : Bound) (from : List Atom) (places : List ℕ) (targets : List Atom) : Type 0 where
  pub grown : Grown before after
  pub sent : (h : ℕ → Term) → Extends h after → Sends h from places targets
  pub bound : (v place : ℕ) → Contains places place → Contains (atom_at from place).terms (Variable v) → IsSome (image after.images v)
  pub no_more : (v : ℕ) → IsSome (image after.images v) → IsSome (image before.images v) ⊎ OccursIn from (Variable v)

-- No map that agrees with what is bound at the levels of the set sends the atoms at these places to atoms among the targets.
pub record IsBlocked (before : Bound) (levels : List ℕ) (set : ℕ) (from : List Atom) (places : List ℕ) (targets : List Atom) : Type 0 where
  pub none : (h : ℕ → Term) → ExtendsAt h before levels set → Sends h from places targets → ⊥

-- the places of all the atoms, in some order
pub record IsOrder (atoms : List Atom) (order : List ℕ) : Type 0 where
  pub places : ArePlaces atoms order
  pub all : (place : ℕ) → place < length atoms → Contains order place
