-- Levels of variables, sets of levels, and maps that agree with what is bound at the levels of a set.
use Rattle.std.specs.Prelude.{◌≡◌, ℕ, ◌≤◌, List, Some, IsSome, Contains, ◌⊎◌, slice_index}
use Rattle.std.specs.Int.{bit_at}
use Rattle.ucq_terms.specs.declared.Term.{Term}
use Rattle.ucq_terms.specs.declared.Term.TheVariants.{Variable}
use Rattle.ucq_hom.specs.declared.levels.TheConstants.{LEVELS}
use Rattle.ucq_hom.specs.Space.{image}
use Rattle.ucq_hom.specs.Bindings.{Bound}

-- The level of a variable is the place in the order of the atom that bound it, or `ATOMS` if it was bound before the atoms.
abbrev pub level_of : List ℕ → ℕ → ℕ
level_of levels v = slice_index levels v

-- the level is one of the set: those below `LEVELS` are the bits of a number, and every set has all others
abbrev pub Counts : ℕ → ℕ → Type 0
Counts set level = (LEVELS ≤ level) ⊎ (bit_at set level ≡ 1)

-- each level of the first set is one of the second
pub record IsLevelSubset (set whole : ℕ) : Type 0 where
  pub each : (level : ℕ) → Counts set level → Counts whole level

-- the levels of the bound variables among the terms are in the set
pub record HasLevelsOf (before : Bound) (levels : List ℕ) (set : ℕ) (terms : List Term) : Type 0 where
  pub each : (v : ℕ) → Contains terms (Variable v) → IsSome (image before.images v) → Counts set (level_of levels v)

-- the variables that were bound keep their levels
pub record KeepsLevels (before : Bound) (old new : List ℕ) : Type 0 where
  pub each : (v : ℕ) → IsSome (image before.images v) → level_of new v ≡ level_of old v

-- the map agrees with what is bound at the levels of the set
pub record ExtendsAt (h : ℕ → Term) (b : Bound) (levels : List ℕ) (set : ℕ) : Type 0 where
  pub agrees : (v : ℕ) (t : Term) → image b.images v ≡ Some t → Counts set (level_of levels v) → h v ≡ t

-- the variables are given the level, and the others keep theirs
pub record IsNoted (old new variables : List ℕ) (level : ℕ) : Type 0 where
  pub noted : (v : ℕ) → Contains variables v → level_of new v ≡ level
  pub others : (v : ℕ) → ¬ Contains variables v → level_of new v ≡ level_of old v
