-- What an index of facts holds.
use Rattle.std.specs.Prelude.{◌≡◌, ℕ, ◌+◌, ◌<◌, ◌≤◌, Bool, List, [], ◌∷◌, ◌++◌, length, slice_get, Some, None}
use Rattle.std.specs.List.{filter_map}
use Rattle.ucq_terms.specs.Syntax.{Atom}
use Rattle.ucq_facts.specs.Facts.{IsMatch, is_match, places_from}
use Rattle.ucq_facts.specs.Postings.{list_at}
use Rattle.ucq_facts.specs.declared.postings.Postings.{Postings}
use Rattle.ucq_facts.specs.declared.keys.Predicate.{Predicate}
use Rattle.ucq_facts.specs.declared.keys.Position.{Position}
use Rattle.ucq_facts.specs.contracts.keys.PredicatePartialEq.TheImpl as predicate_block
use Rattle.ucq_facts.specs.contracts.keys.PositionPartialEq.TheImpl as position_block

-- whether two keys are equal
abbrev pub predicate_eq : Predicate → Predicate → Bool
predicate_eq = (predicate_block.ghosts).eq

abbrev pub position_eq : Position → Position → Bool
position_eq = (position_block.ghosts).eq

-- the predicate of a fact
abbrev pub predicate_of : Atom → Predicate
predicate_of a = record { name = a.name; arity = length a.terms }

-- whether the fact is of the predicate; and whether it has the term at the place
abbrev pub is_of : Predicate → Atom → Bool
is_of key a = is_match key.name key.arity None a

abbrev pub is_at : Position → Atom → Bool
is_at key a = is_match key.name key.arity (Some (key.place, key.term)) a

-- the list of each key holds the places of its facts, in rising order
pub record IsIndexed (facts : List Atom) (by_predicate : Postings Predicate) (by_term : Postings Position) : Type 0 where
  pub predicates : (key : Predicate) → list_at predicate_eq by_predicate key ≡ places_from (is_of key) 0 facts
  pub terms : (key : Position) → list_at position_eq by_term key ≡ places_from (is_at key) 0 facts

-- the facts at these places
abbrev pub atoms_at : List Atom → List ℕ → List Atom
atoms_at facts places = filter_map (slice_get facts) places

-- the fact has the term of the key at its place
abbrev pub IsAt : Position → Atom → Type 0
IsAt key a = IsMatch key.name key.arity (Some (key.place, key.term)) a

-- the number stands last in the lists of the fact's terms before a place, and all other lists are as before
pub record IsPushedBefore (before : Postings Position) (a : Atom) (place number : ℕ) (after : Postings Position) : Type 0 where
  pub done : (key : Position) → IsAt key a → key.place < place → list_at position_eq after key ≡ list_at position_eq before key ++ number ∷ []
  pub kept : (key : Position) → (IsAt key a → place ≤ key.place) → list_at position_eq after key ≡ list_at position_eq before key
