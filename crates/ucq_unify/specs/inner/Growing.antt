-- Choices that grow to single pieces, and what a search from one finds.
use Rattle.std.specs.Prelude.{◌≡◌, ◌≢◌, ℕ, zero, suc, ◌+◌, ◌<◌, ◌≤◌, List, [], ◌∷◌, length, Option, Some, None, Bool, Contains, AllPairs, slice_index_or, slice_set}
use Rattle.ucq_terms.specs.Syntax.{Rule, Query}
use Rattle.ucq_terms.specs.declared.Term.TheVariants.{Variable}
use Rattle.ucq_terms.specs.Chase.{IsExistential}
use Rattle.ucq_terms.specs.Unifier.{Node, constant, of_query, of_copy, atom_at, links, AreJoined, KeepsPredicate, IsPieceUnifier, IsSinglePiece}
use Rattle.ucq_terms.specs.Touching.{Touches}

-- A choice says for each place of the query the place of a head's atom, or none. These are its pairs, of places from `n` on.
abbrev pub pairs_from : ℕ → List (Option ℕ) → List (ℕ × ℕ)
pairs_from n [] = []
pairs_from n (None ∷ rest) = pairs_from (n + 1) rest
pairs_from n (Some head ∷ rest) = (n, head) ∷ pairs_from (n + 1) rest

abbrev pub pairs_of : List (Option ℕ) → List (ℕ × ℕ)
pairs_of choice = pairs_from 0 choice

-- what the choice has for a place
abbrev pub head_at : List (Option ℕ) → ℕ → Option ℕ
head_at choice place = slice_index_or choice place None

-- the choice with a head for one place more
abbrev pub with_head : List (Option ℕ) → ℕ → ℕ → List (Option ℕ)
with_head choice place head = slice_set choice place (Some head)

-- each pair of the choice is one of these
pub record ChoosesAmong (choice : List (Option ℕ)) (pairs : List (ℕ × ℕ)) : Type 0 where
  pub each : (pair : ℕ × ℕ) → Contains (pairs_of choice) pair → Contains pairs pair

-- no pair has a place below the root
pub record StartsAt (root : ℕ) (pairs : List (ℕ × ℕ)) : Type 0 where
  pub each : (pair : ℕ × ℕ) → Contains pairs pair → root ≤ pair.0

-- a test of places that is alike for pairs that touch one variable
pub record IsAlike (q : Query) (rule : Rule) (pairs : List (ℕ × ℕ)) (f : ℕ → Bool) : Type 0 where
  pub same : (a b : ℕ × ℕ) (u : ℕ) → Contains pairs a → Contains pairs b → Touches q rule a u → Touches q rule b u → f a.0 ≡ f b.0

-- variables that existential variables touch connect all pairs to one of them
pub record IsConnected (q : Query) (rule : Rule) (pairs : List (ℕ × ℕ)) : Type 0 where
  pub root : ℕ × ℕ
  pub rooted : Contains pairs root
  pub together : (f : ℕ → Bool) → IsAlike q rule pairs f → (pair : ℕ × ℕ) → Contains pairs pair → f pair.0 ≡ f root.0

-- In each piece-unifier that has the choice's pairs, variables that existential variables touch connect them to the root.
pub record IsGrown (q : Query) (rule : Rule) (root : ℕ) (choice : List (Option ℕ)) : Type 0 where
  pub root_least : StartsAt root (pairs_of choice)
  pub keeps : (pair : ℕ × ℕ) → Contains (pairs_of choice) pair → KeepsPredicate q rule pair
  pub together : (pairs : List (ℕ × ℕ)) (f : ℕ → Bool) → IsPieceUnifier q rule pairs → ChoosesAmong choice pairs → IsAlike q rule pairs f →
      (pair : ℕ × ℕ) → Contains (pairs_of choice) pair → f pair.0 ≡ f root

-- These are the single pieces that have the choice's pairs and no place below the root, each once.
pub record IsSearched (q : Query) (rule : Rule) (root : ℕ) (choice : List (Option ℕ)) (pieces : List (List (ℕ × ℕ))) : Type 0 where
  pub single : (piece : List (ℕ × ℕ)) → Contains pieces piece → IsSinglePiece q rule piece
  pub has : (piece : List (ℕ × ℕ)) → Contains pieces piece → ChoosesAmong choice piece × StartsAt root piece
  pub whole : (piece : List (ℕ × ℕ)) → IsSinglePiece q rule piece → ChoosesAmong choice piece → StartsAt root piece → Contains pieces piece
  pub once : AllPairs (λ (a b : List (ℕ × ℕ)). a ≢ b) pieces

-- the same of the pieces that have also a pair of this place and one of the heads below `tried`
pub record IsBranched (q : Query) (rule : Rule) (root : ℕ) (choice : List (Option ℕ)) (place tried : ℕ) (pieces : List (List (ℕ × ℕ))) : Type 0 where
  pub single : (piece : List (ℕ × ℕ)) → Contains pieces piece → IsSinglePiece q rule piece
  pub has : (piece : List (ℕ × ℕ)) → Contains pieces piece → ChoosesAmong choice piece × StartsAt root piece
  pub head : (piece : List (ℕ × ℕ)) → Contains pieces piece → (head : ℕ) × (head < tried) × Contains piece (place, head)
  pub whole : (piece : List (ℕ × ℕ)) (head : ℕ) → IsSinglePiece q rule piece → ChoosesAmong choice piece → StartsAt root piece → head < tried →
      Contains piece (place, head) → Contains pieces piece
  pub once : AllPairs (λ (a b : List (ℕ × ℕ)). a ≢ b) pieces

-- the same of all the pieces whose least place is below `tried`
pub record IsRooted (q : Query) (rule : Rule) (tried : ℕ) (pieces : List (List (ℕ × ℕ))) : Type 0 where
  pub single : (piece : List (ℕ × ℕ)) → Contains pieces piece → IsSinglePiece q rule piece
  pub low : (piece : List (ℕ × ℕ)) → Contains pieces piece → (pair : ℕ × ℕ) × Contains piece pair × (pair.0 < tried)
  pub whole : (piece : List (ℕ × ℕ)) (pair : ℕ × ℕ) → IsSinglePiece q rule piece → Contains piece pair → pair.0 < tried → Contains pieces piece
  pub once : AllPairs (λ (a b : List (ℕ × ℕ)). a ≢ b) pieces

-- Two terms of one class with which there is no piece-unifier: two constants, or an existential variable of the rule with
-- a constant, an answer variable or another variable of the rule.
abbrev pub Clashes : Query → Rule → Node → Node → Type 0
Clashes q rule (constant c) (constant d) = c ≢ d
Clashes q rule (constant c) (of_query u) = ⊥
Clashes q rule (constant c) (of_copy n w) = ⊥
Clashes q rule (of_query u) y = ⊥
Clashes q rule (of_copy zero v) (constant d) = IsExistential rule v
Clashes q rule (of_copy zero v) (of_query u) = IsExistential rule v × Contains q.answers (Variable u)
Clashes q rule (of_copy zero v) (of_copy n w) = IsExistential rule v × (v ≢ w)
Clashes q rule (of_copy (suc m) v) y = ⊥

-- the links join two terms that clash
pub record HasClash (q : Query) (rule : Rule) (links : List (Node × Node)) : Type 0 where
  pub left : Node
  pub right : Node
  pub joined : AreJoined links left right
  pub clashes : Clashes q rule left right

-- the choice's pairs join a variable of the query to an existential variable
pub record IsPrivate (q : Query) (rule : Rule) (choice : List (Option ℕ)) (u : ℕ) : Type 0 where
  pub variable : ℕ
  pub existential : IsExistential rule variable
  pub joined : AreJoined (links q 0 rule (pairs_of choice)) (of_copy 0 variable) (of_query u)

-- such a variable stands in the atom at the place
pub record IsCalledFor (q : Query) (rule : Rule) (choice : List (Option ℕ)) (place : ℕ) : Type 0 where
  pub variable : ℕ
  pub private_variable : IsPrivate q rule choice variable
  pub there : Contains (atom_at q.atoms place).terms (Variable variable)

-- A place that a search branches on next: it has no head yet, and the choice grows by each head that keeps the predicate.
pub record IsOpen (q : Query) (rule : Rule) (root : ℕ) (choice : List (Option ℕ)) (place : ℕ) : Type 0 where
  pub within : place < length q.atoms
  pub free : head_at choice place ≡ None
  pub grown : (head : ℕ) → KeepsPredicate q rule (place, head) → IsGrown q rule root (with_head choice place head)
