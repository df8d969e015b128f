-- What a search for the maps of some atoms into facts finds.
use Rattle.std.specs.Prelude.{◌≡◌, ℕ, List, length, Option, Some, None, Contains, ◌⊎◌, ◌↔◌, slice_get}
use Rattle.ucq_terms.specs.declared.Term.{Term}
use Rattle.ucq_terms.specs.declared.Term.TheVariants.{Constant, Variable}
use Rattle.ucq_terms.specs.Syntax.{Atom, atom_image}
use Rattle.ucq_terms.specs.Unifier.{atom_at}
use Rattle.ucq_facts.specs.Facts.{is_match, places_from}
use Rattle.ucq_hom.specs.Space.{image}
use Rattle.ucq_hom.specs.Bindings.{Bound, Extends}
use Rattle.ucq_hom.specs.Search.{Sends}
use Rattle.ucq_bans.specs.Conflicts.{IsRising}

-- The new list has the sets of the old one, those with the property, and no others.
pub record IsGrownBy (P : List ℕ → Type 0) (old new : List (List ℕ)) : Type 0 where
  pub each : (set : List ℕ) → Contains new set ↔ (Contains old set ⊎ P set)

-- what the term is bound to; a constant is bound to itself
abbrev pub value : Bound → Term → Option Term
value b (Constant c) = Some (Constant c)
value b (Variable v) = image b.images v

-- where a place and a value are given, the term at that place is bound to that value
abbrev pub IsKey : Bound → List Term → Option (ℕ × Term) → Type 0
IsKey b terms None = Unit {0}
IsKey b terms (Some key) = (term : Term) × (slice_get terms key.0 ≡ Some term) × (value b term ≡ Some key.1)

-- the places of the facts of the atom's name and number of terms, by some key of what is bound
pub record AreTargets (b : Bound) (facts : List Atom) (a : Atom) (targets : List ℕ) : Type 0 where
  pub key : Option (ℕ × Term)
  pub keyed : IsKey b a.terms key
  pub are : targets ≡ places_from (is_match a.name (length a.terms) key) 0 facts

-- none of the terms stands in an atom at one of these places
pub record AreApart (atoms : List Atom) (places : List ℕ) (terms : List Term) : Type 0 where
  pub none : (t : Term) (place : ℕ) → Contains terms t → Contains places place → ¬ Contains (atom_at atoms place).terms t

-- some map that agrees with what is bound sends the atoms at these places to facts
pub record SomeSends (b : Bound) (atoms : List Atom) (places : List ℕ) (facts : List Atom) : Type 0 where
  pub mapping : ℕ → Term
  pub extends : Extends mapping b
  pub sent : Sends mapping atoms places facts

-- the rising list of these places
pub record IsSetOf (places set : List ℕ) : Type 0 where
  pub rising : IsRising set
  pub each : (place : ℕ) → Contains set place ↔ Contains places place

-- the map sends one of the atoms at these places to the fact at the target
pub record IsTarget (h : ℕ → Term) (atoms : List Atom) (places : List ℕ) (facts : List Atom) (target : ℕ) : Type 0 where
  pub place : ℕ
  pub among : Contains places place
  pub fact : slice_get facts target ≡ Some (atom_image h (atom_at atoms place))

-- Some map that agrees with what is bound sends the atoms at these places to facts, and the set has the places of these facts
-- and those that were chosen before, and no others.
pub record GivesSet (b : Bound) (atoms : List Atom) (places : List ℕ) (facts : List Atom) (chosen set : List ℕ) : Type 0 where
  pub mapping : ℕ → Term
  pub extends : Extends mapping b
  pub sent : Sends mapping atoms places facts
  pub rising : IsRising set
  pub each : (target : ℕ) → Contains set target ↔ (Contains chosen target ⊎ IsTarget mapping atoms places facts target)

-- Some map that agrees with what is bound sends the atom to the fact at one of the targets, and the other ones to facts.
pub record SendsBy (b : Bound) (a : Atom) (targets : List ℕ) (atoms : List Atom) (rest : List ℕ) (facts : List Atom) : Type 0 where
  pub target : ℕ
  pub among : Contains targets target
  pub mapping : ℕ → Term
  pub extends : Extends mapping b
  pub first : slice_get facts target ≡ Some (atom_image mapping a)
  pub sent : Sends mapping atoms rest facts

-- The same, and the set has this target, the places of the facts of the other atoms, and those that were chosen before.
pub record GivesSetBy (b : Bound) (a : Atom) (targets : List ℕ) (atoms : List Atom) (rest : List ℕ) (facts : List Atom) (chosen set : List ℕ) : Type 0 where
  pub by : SendsBy b a targets atoms rest facts
  pub rising : IsRising set
  pub each : (other : ℕ) → Contains set other ↔ (Contains chosen other ⊎ ((by.target ≡ other) ⊎ IsTarget by.mapping atoms rest facts other))
