-- How far the search for the next set has come.
use Rattle.std.specs.Prelude.{◌≡◌, ◌<◌, ◌≤◌, ◌⊎◌, ◌++◌, ◌+◌, ◌-◌, slice_index, if◌then◌else◌, ℕ, List, [], ◌∷◌, length, Contains, Bool, true, false, Option, Some, None, nat_eq}
use Rattle.std.specs.List.{list_any}
use Rattle.ucq_terms.specs.Syntax.{Query, Rule}
use Rattle.ucq_classes.specs.Numbers.{Numbers}
use Rattle.ucq_join.specs.Walk.{ArePieces, IsJoin, Walk, IsNext, IsLast}
use Rattle.ucq_join.specs.inner.Copies.{IsWidthOf, IsReadyFor}

-- whether a pair has the place of the query's atom
abbrev pub has_place : List (ℕ × ℕ) → ℕ → Bool
has_place pairs place = list_any (λ pair. nat_eq place pair.0) pairs

-- whether two lists of pairs have a place in common
abbrev pub overlap : List (ℕ × ℕ) → List (ℕ × ℕ) → Bool
overlap pairs others = list_any (λ pair. has_place others pair.0) pairs

-- the place after the last one, or 0
abbrev pub start_of : List ℕ → ℕ
start_of xs = if nat_eq (length xs) 0 then 0 else slice_index xs (length xs - 1) + 1

-- the members are none or make an aggregate, and their places are below the start
pub record IsStart (q : Query) (rule : Rule) (pieces : List (List (ℕ × ℕ))) (members : List ℕ) (start : ℕ) : Type 0 where
  pub members_join : (members ≡ []) ⊎ IsJoin q rule pieces members
  pub below : (place : ℕ) → Contains members place → place < start

-- the first place from the start on whose piece makes an aggregate with the members
abbrev pub IsFirstFrom : Query → Rule → List (List (ℕ × ℕ)) → List ℕ → ℕ → Option ℕ → Type 0
IsFirstFrom q rule pieces members start None = (place : ℕ) → start ≤ place → IsJoin q rule pieces (members ++ place ∷ []) → ⊥
IsFirstFrom q rule pieces members start (Some first) =
    (start ≤ first) × IsJoin q rule pieces (members ++ first ∷ []) ×
    ((place : ℕ) → start ≤ place → place < first → IsJoin q rule pieces (members ++ place ∷ []) → ⊥)

-- the members are those of the next set, if there is one
abbrev pub IsAdvanced : Walk → List ℕ → Bool → Type 0
IsAdvanced w members true = IsNext w members
IsAdvanced w members false = IsLast w

-- what a walk keeps besides: numbers for the query and the rule, and a width for copies of the rule
pub record IsWalking (w : Walk) (n : Numbers) (width : ℕ) : Type 0 where
  pub pieces : ArePieces w.query w.rule w.pieces
  pub ready : IsReadyFor w.query w.rule n
  pub width_of : IsWidthOf w.rule width
  pub present : (w.present ≡ []) ⊎ IsJoin w.query w.rule w.pieces w.present
