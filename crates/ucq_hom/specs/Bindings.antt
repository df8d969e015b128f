-- Variables bound to terms, and the trail of the variables bound so far.
use Rattle.std.specs.Prelude.{◌≡◌, ◌≢◌, ℕ, ◌-◌, List, [], ◌∷◌, ◌++◌, length, take, Option, Some, None, IsSome, Contains, AllPairs, ◌⊎◌, slice_index_or, slice_set}
use Rattle.ucq_terms.specs.declared.Term.{Term}
use Rattle.ucq_terms.specs.declared.Term.TheVariants.{Variable}
use Rattle.ucq_terms.specs.declared.TheConstants.{VARIABLES}
use Rattle.ucq_terms.specs.Syntax.{terms_image}
use Rattle.ucq_hom.specs.Space.{image}

-- the images by variable, and the bound variables in the order in which they were bound
pub record Bound : Type 0 where
  pub images : List (Option Term)
  pub trail : List ℕ

-- just the bound variables stand on the trail, each once
pub record IsKept (b : Bound) : Type 0 where
  pub room : length b.images ≡ VARIABLES
  pub bound : (v : ℕ) → Contains b.trail v → IsSome (image b.images v)
  pub on_trail : (v : ℕ) → IsSome (image b.images v) → Contains b.trail v
  pub once : AllPairs (λ (v w : ℕ). v ≢ w) b.trail

-- one more variable is bound
abbrev pub with_binding : Bound → ℕ → Term → Bound
with_binding b v t = record { images = slice_set b.images v (Some t); trail = b.trail ++ v ∷ [] }

abbrev pub last_bound : Bound → ℕ
last_bound b = slice_index_or b.trail (length b.trail - 1) 0

-- the variable that was bound last is free again
abbrev pub without_last : Bound → Bound
without_last b = record { images = slice_set b.images (last_bound b) None; trail = take (length b.trail - 1) b.trail }

-- the map agrees with all that is bound
pub record Extends (h : ℕ → Term) (b : Bound) : Type 0 where
  pub agrees : (v : ℕ) (t : Term) → image b.images v ≡ Some t → h v ≡ t

-- some variables more are bound, and the trail tells which
pub record Grown (before after : Bound) : Type 0 where
  pub added : List ℕ
  pub room : length after.images ≡ length before.images
  pub trail : after.trail ≡ before.trail ++ added
  pub fresh : (v : ℕ) → Contains added v → image before.images v ≡ None
  pub others : (v : ℕ) → ¬ Contains added v → image after.images v ≡ image before.images v

-- Just so much is bound that the terms are carried to the targets: every map that agrees with what is bound carries them,
-- and every map that agreed before and carries them still agrees.
pub record IsMatched (before after : Bound) (terms targets : List Term) : Type 0 where
  pub grown : Grown before after
  pub carried : (h : ℕ → Term) → Extends h after → terms_image h terms ≡ targets
  pub forced : (h : ℕ → Term) → Extends h before → terms_image h terms ≡ targets → Extends h after
  pub bound : (v : ℕ) → Contains terms (Variable v) → IsSome (image after.images v)
  pub no_more : (v : ℕ) → IsSome (image after.images v) → IsSome (image before.images v) ⊎ Contains terms (Variable v)

-- no map that agrees with what is bound carries the terms to the targets
pub record IsClash (before : Bound) (terms targets : List Term) : Type 0 where
  pub none : (h : ℕ → Term) → Extends h before → terms_image h terms ≡ targets → ⊥
