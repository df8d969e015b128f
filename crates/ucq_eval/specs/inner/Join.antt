-- What a join of a query over facts finds, and what its search keeps.
use Rattle.std.specs.Prelude.{◌≡◌, ℕ, List, map, length, Option, Some, None, IsSome, Contains, ◌⊎◌, ◌↔◌, ◌<◌, slice_get, slice_index}
use Rattle.ucq_terms.specs.declared.Term.{Term}
use Rattle.ucq_terms.specs.declared.Term.TheVariants.{Constant, Variable}
use Rattle.ucq_terms.specs.Syntax.{Atom, Query, terms_image, atom_image}
use Rattle.ucq_terms.specs.Homomorphism.{MapsInto}
use Rattle.ucq_terms.specs.Unifier.{atom_at}
use Rattle.ucq_facts.specs.Facts.{matching}
use Rattle.ucq_hom.specs.Space.{image}
use Rattle.ucq_hom.specs.Bindings.{Bound, Extends}
use Rattle.ucq_hom.specs.Search.{Sends}

-- The new list has the tuples of the old one, those with the property, and no others.
pub record IsGrownBy (P : List ℕ → Type 0) (old new : List (List ℕ)) : Type 0 where
  pub each : (tuple : List ℕ) → Contains new tuple ↔ (Contains old tuple ⊎ P tuple)

-- The tuples of constants with which the query maps into the facts were added, and no others.
pub record IsCollected (q : Query) (facts : List Atom) (old new : List (List ℕ)) : Type 0 where
  pub each : (tuple : List ℕ) → Contains new tuple ↔ (Contains old tuple ⊎ MapsInto q facts (map Constant tuple))

-- Some map that agrees with what is bound sends the query's atoms at these places to facts, and its answers to the tuple.
pub record SendsToTuple (b : Bound) (q : Query) (places : List ℕ) (facts : List Atom) (tuple : List ℕ) : Type 0 where
  pub mapping : ℕ → Term
  pub extends : Extends mapping b
  pub sent : Sends mapping q.atoms places facts
  pub answers : terms_image mapping q.answers ≡ map Constant tuple

-- Some map that agrees with what is bound sends the query's atom at the one place to one of the targets, the atoms at the
-- other places to facts, and the answers to the tuple.
pub record GivesBy (b : Bound) (q : Query) (place : ℕ) (targets : List Atom) (rest : List ℕ) (facts : List Atom) (tuple : List ℕ) : Type 0 where
  pub mapping : ℕ → Term
  pub extends : Extends mapping b
  pub first : Contains targets (atom_image mapping (atom_at q.atoms place))
  pub sent : Sends mapping q.atoms rest facts
  pub answers : terms_image mapping q.answers ≡ map Constant tuple

-- what the term is bound to; a constant is bound to itself
abbrev pub value : Bound → Term → Option Term
value b (Constant c) = Some (Constant c)
value b (Variable v) = image b.images v

-- one of the terms is bound to a variable of a fact, which is an unknown value
pub record HasUnknown (b : Bound) (terms : List Term) : Type 0 where
  pub term : Term
  pub among : Contains terms term
  pub unknown : ℕ
  pub bound : value b term ≡ Some (Variable unknown)

-- each term is bound to a constant, and these are the tuple
pub record TellsTuple (b : Bound) (terms : List Term) (tuple : List ℕ) : Type 0 where
  pub each : map (value b) terms ≡ map (λ (c : ℕ). Some (Constant c)) tuple

-- one of the terms is bound to no constant
pub record TellsNone (b : Bound) (terms : List Term) : Type 0 where
  pub term : Term
  pub among : Contains terms term
  pub other : (c : ℕ) → value b term ≡ Some (Constant c) → ⊥

-- each variable of the answers is bound, or stands in an atom at one of the places
pub record AreReached (b : Bound) (q : Query) (places : List ℕ) : Type 0 where
  pub each : (v : ℕ) → Contains q.answers (Variable v) →
      IsSome (image b.images v) ⊎ ((place : ℕ) × Contains places place × Contains (atom_at q.atoms place).terms (Variable v))

-- the two lists have the same places, as many of them
pub record HasSamePlaces (old new : List ℕ) : Type 0 where
  pub size : length new ≡ length old
  pub each : (place : ℕ) → Contains new place ↔ Contains old place

-- where a place and a value are given, the term at that place is bound to that value
abbrev pub IsKey : Bound → List Term → Option (ℕ × Term) → Type 0
IsKey b terms None = Unit {0}
IsKey b terms (Some key) = (term : Term) × (slice_get terms key.0 ≡ Some term) × (value b term ≡ Some key.1)

-- the facts of the atom's name and number of terms by some key of what is bound
pub record AreTargets (b : Bound) (facts : List Atom) (a : Atom) (targets : List Atom) : Type 0 where
  pub key : Option (ℕ × Term)
  pub keyed : IsKey b a.terms key
  pub are : targets ≡ matching facts a.name (length a.terms) key

-- where one of the places stands, and such facts of the atom there
pub record IsChoice (b : Bound) (facts : List Atom) (atoms : List Atom) (places : List ℕ) (choice : ℕ) (targets : List Atom) : Type 0 where
  pub within : choice < length places
  pub facts_of : AreTargets b facts (atom_at atoms (slice_index places choice)) targets
