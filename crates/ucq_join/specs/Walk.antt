-- The sets of pieces that a walk gives, and the order in which it gives them.
use Rattle.std.specs.Prelude.{◌≡◌, ◌≢◌, ◌<◌, ◌⊎◌, ℕ, List, [], ◌∷◌, length, map, Contains, AllPairs, Option, Some, None, Result, Ok, Err, slice_index_or}
use Rattle.ucq_terms.specs.declared.NoMemory.{NoMemory}
use Rattle.ucq_terms.specs.Syntax.{Query, Rule}
use Rattle.ucq_terms.specs.Unifier.{Node, IsSinglePiece}
use Rattle.ucq_terms.specs.Rewriting.{Member, all_links, IsAggregate}
use Rattle.ucq_join.specs.Names.{Named, TellsNames}

-- the pieces are single-piece unifiers of the query with the rule, pairwise different
pub record ArePieces (q : Query) (rule : Rule) (pieces : List (List (ℕ × ℕ))) : Type 0 where
  pub single : (piece : List (ℕ × ℕ)) → Contains pieces piece → IsSinglePiece q rule piece
  pub once : AllPairs (λ (a b : List (ℕ × ℕ)). a ≢ b) pieces

-- the piece at a place, as a member with the one rule
abbrev pub piece_member : List (List (ℕ × ℕ)) → ℕ → Member
piece_member pieces place = record { rule = 0; pairs = slice_index_or pieces place [] }

-- the pieces at these places, as members
abbrev pub members_at : List (List (ℕ × ℕ)) → List ℕ → List Member
members_at pieces chosen = map (piece_member pieces) chosen

-- the links of all of them, each with the copy of its place
abbrev pub links_at : Query → Rule → List (List (ℕ × ℕ)) → List ℕ → List (Node × Node)
links_at q rule pieces chosen = all_links q (rule ∷ []) (members_at pieces chosen)

-- rising places of pieces that make an aggregate
pub record IsJoin (q : Query) (rule : Rule) (pieces : List (List (ℕ × ℕ))) (chosen : List ℕ) : Type 0 where
  pub rising : AllPairs (λ (a b : ℕ). a < b) chosen
  pub within : (place : ℕ) → Contains chosen place → place < length pieces
  pub aggregate : IsAggregate q (rule ∷ []) (members_at pieces chosen)

-- the second list of places comes after the first one in the walk: it goes on where the first ends, or has a later place
-- where they first differ
abbrev pub ComesAfter : List ℕ → List ℕ → Type 0
ComesAfter [] [] = ⊥
ComesAfter [] (y ∷ ys) = Unit {0}
ComesAfter (x ∷ xs) [] = ⊥
ComesAfter (x ∷ xs) (y ∷ ys) = (x < y) ⊎ ((x ≡ y) × ComesAfter xs ys)

-- Where a walk stands: at the set that it gave last, or at the empty one before the first.
pub record Walk : Type 0 where
  pub query : Query
  pub rule : Rule
  pub pieces : List (List (ℕ × ℕ))
  pub present : List ℕ

abbrev pub IsJoinOf : Walk → List ℕ → Type 0
IsJoinOf w chosen = IsJoin w.query w.rule w.pieces chosen

-- the first set of those that come after the present one
pub record IsNext (w : Walk) (next : List ℕ) : Type 0 where
  pub join : IsJoinOf w next
  pub after : ComesAfter w.present next
  pub least : (other : List ℕ) → IsJoinOf w other → ComesAfter w.present other → (next ≡ other) ⊎ ComesAfter next other

-- no set comes after the present one
pub record IsLast (w : Walk) : Type 0 where
  pub none : (other : List ℕ) → IsJoinOf w other → ComesAfter w.present other → ⊥

-- the walk goes on to the set of these names
pub record MovesTo (before after : Walk) (j : Named) : Type 0 where
  pub next : IsNext before j.members
  pub names : TellsNames before.query before.rule (members_at before.pieces j.members) j
  pub stands : after ≡ record before { present = j.members }

-- one step of a walk, which stands where it stood at the end and after want of memory
abbrev pub Advances : Walk → Walk → Result (Option Named) NoMemory → Type 0
Advances before after (Ok None) = IsLast before × (after ≡ before)
Advances before after (Ok (Some j)) = MovesTo before after j
Advances before after (Err e) = after ≡ before

-- the walk has given these sets, in this order: just the ones that don't come after the present one, each once
pub record HasGiven (w : Walk) (given : List (List ℕ)) : Type 0 where
  pub joins : (chosen : List ℕ) → Contains given chosen → IsJoinOf w chosen
  pub rest : (chosen : List ℕ) → IsJoinOf w chosen → Contains given chosen ⊎ ComesAfter w.present chosen
  pub once : AllPairs ComesAfter given
  pub so_far : (chosen : List ℕ) → Contains given chosen → (chosen ≡ w.present) ⊎ ComesAfter chosen w.present
