-- What the functions of the search find.
use Rattle.std.specs.Prelude.{◌≡◌, ◌<◌, ◌≤◌, ◌++◌, ℕ, List, length, Option, None}
use Rattle.ucq_terms.specs.Syntax.{Query, Rule}
use Rattle.ucq_terms.specs.Unifier.{IsPieceUnifier}
use Rattle.ucq_unify.specs.declared.search.Step.{Step}
use Rattle.ucq_unify.specs.declared.search.Step.TheVariants.{Blocked, Closed, Open}
use Rattle.ucq_unify.specs.inner.Growing.{pairs_of, head_at, ChoosesAmong, StartsAt, IsCalledFor, IsSearched, IsBranched, IsRooted}

-- no piece-unifier has the choice's pairs and no place below the root
pub record IsBlockedChoice (q : Query) (rule : Rule) (root : ℕ) (choice : List (Option ℕ)) : Type 0 where
  pub none : (piece : List (ℕ × ℕ)) → IsPieceUnifier q rule piece → ChoosesAmong choice piece → StartsAt root piece → ⊥

-- the choice calls for the place, which is above the root and has no head yet
pub record IsNextPlace (q : Query) (rule : Rule) (root : ℕ) (choice : List (Option ℕ)) (place : ℕ) : Type 0 where
  pub within : place < length q.atoms
  pub above : root ≤ place
  pub free : head_at choice place ≡ None
  pub calls : IsCalledFor q rule choice place

abbrev pub IsSearchStep : Query → Rule → ℕ → List (Option ℕ) → Step → Type 0
IsSearchStep q rule root choice Blocked = IsBlockedChoice q rule root choice
IsSearchStep q rule root choice Closed = IsPieceUnifier q rule (pairs_of choice)
IsSearchStep q rule root choice (Open place) = IsNextPlace q rule root choice place

-- the pieces that a choice leads to were added
pub record HasFound (q : Query) (rule : Rule) (root : ℕ) (choice : List (Option ℕ)) (before after : List (List (ℕ × ℕ))) : Type 0 where
  pub more : List (List (ℕ × ℕ))
  pub added : after ≡ before ++ more
  pub searched : IsSearched q rule root choice more

-- the same for heads below `tried` at a place
pub record HasBranched (q : Query) (rule : Rule) (root : ℕ) (choice : List (Option ℕ)) (place tried : ℕ) (before after : List (List (ℕ × ℕ))) : Type 0 where
  pub more : List (List (ℕ × ℕ))
  pub added : after ≡ before ++ more
  pub branched : IsBranched q rule root choice place tried more

-- these are the pieces whose least place is below `tried`
pub record HasRooted (q : Query) (rule : Rule) (tried : ℕ) (pieces : List (List (ℕ × ℕ))) : Type 0 where
  pub rooted : IsRooted q rule tried pieces

-- the choice has no head for any place
pub record IsEmptyChoice (choice : List (Option ℕ)) : Type 0 where
  pub none : (place : ℕ) → head_at choice place ≡ None
