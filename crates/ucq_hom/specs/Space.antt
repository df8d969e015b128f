-- The images that a search leaves in its space.
use Rattle.std.specs.Prelude.{◌≡◌, ℕ, List, Option, Some, None, IsSome, ◌↔◌, slice_index_or}
use Rattle.ucq_terms.specs.declared.Term.{Term}
use Rattle.ucq_terms.specs.declared.Term.TheVariants.{Variable}
use Rattle.ucq_terms.specs.Syntax.{Atom, Query, IsVariableOf}
use Rattle.ucq_terms.specs.Homomorphism.{IsHomomorphism}

-- the image of a variable, or None where it has none
abbrev pub image : List (Option Term) → ℕ → Option Term
image images v = slice_index_or images v None

-- no variable has an image
pub record IsClear (images : List (Option Term)) : Type 0 where
  pub none : (v : ℕ) → image images v ≡ None

abbrev pub or_itself : ℕ → Option Term → Term
or_itself v None = Variable v
or_itself v (Some t) = t

-- the images as a map, which leaves the other variables as they are
abbrev pub mapping : List (Option Term) → ℕ → Term
mapping images v = or_itself v (image images v)

-- The variables of the query, and no others, have images, and these are a homomorphism into the instance, with the tuple.
pub record GivesHomomorphism (images : List (Option Term)) (q : Query) (instance : List Atom) (tuple : List Term) : Type 0 where
  pub defined : (v : ℕ) → IsSome (image images v) ↔ IsVariableOf q v
  pub homomorphism : IsHomomorphism (mapping images) q instance tuple
