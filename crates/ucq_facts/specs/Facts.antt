-- Facts that match, their places, and what adding a fact does.
use Rattle.std.specs.Prelude.{◌≡◌, ℕ, ◌+◌, Bool, if◌then◌else◌, true, false, ◌&&◌, nat_eq, List, [], ◌∷◌, ◌++◌, length, filter, Contains, slice_get, Option, Some, None, IfSome}
use Rattle.std.specs.Option.{option_map_or}
use Rattle.ucq_terms.specs.declared.Term.{Term}
use Rattle.ucq_terms.specs.Syntax.{Atom}
use Rattle.ucq_terms.specs.Numbering.{term_eq}

-- The fact has this name and this number of terms, and where a place and a term are given, that term at that place.
pub record IsMatch (name arity : ℕ) (bound : Option (ℕ × Term)) (a : Atom) : Type 0 where
  pub name_is : a.name ≡ name
  pub arity_is : length a.terms ≡ arity
  pub bound_is : IfSome bound (λ b. slice_get a.terms b.0 ≡ Some b.1)

-- whether the terms have the term at the place, where one is given
abbrev pub is_bound : Option (ℕ × Term) → List Term → Bool
is_bound None terms = true
is_bound (Some b) terms = option_map_or (term_eq b.1) (slice_get terms b.0) false

-- whether the fact is a match
abbrev pub is_match : ℕ → ℕ → Option (ℕ × Term) → Atom → Bool
is_match name arity bound a = nat_eq a.name name && (nat_eq (length a.terms) arity && is_bound bound a.terms)

-- the facts that match, in their order
abbrev pub matching : List Atom → ℕ → ℕ → Option (ℕ × Term) → List Atom
matching facts name arity bound = filter (is_match name arity bound) facts

-- the places, counted from a number, of the facts that pass the test
abbrev pub places_from : (Atom → Bool) → ℕ → List Atom → List ℕ
places_from test n [] = []
places_from test n (a ∷ facts) = if test a then n ∷ places_from test (n + 1) facts else places_from test (n + 1) facts

-- A fact that was not held stands last now; where it was held, the facts are as before.
abbrev pub DoesAdd : List Atom → Atom → Bool → List Atom → Type 0
DoesAdd old a true new = (¬ Contains old a) × (new ≡ old ++ a ∷ [])
DoesAdd old a false new = Contains old a × (new ≡ old)
