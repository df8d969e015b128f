-- How the cores grow along a walk.
use Rattle.std.proofs.Common.{◌≡◌, ◌<◌, ◌⊎◌, ℕ, List, [], ◌∷◌, length, nat_eq, true, arith, sym, subst}
use Rattle.ucq_terms.proofs.Equality.{IsEquality-nat_eq, eq_same}
use Rattle.ucq_terms.proofs.Lists.{Contains-first}
use Rattle.ucq_terms.specs.Syntax.{Rule, Query}
use Rattle.ucq_unify.specs.Pieces.{AreSinglePieces}
use Rattle.ucq_join.specs.Names.{Named}
use Rattle.ucq_join.specs.Walk.{ArePieces, IsJoinOf, Walk, MovesTo, IsLast}
use Rattle.ucq_step.specs.inner.Building.{TellsMembers}
use Rattle.ucq_step.specs.inner.Walked.{WalksIn}
use Rattle.ucq_step.specs.Kept.{AreDifferent, HasAddedCore}
use Rattle.ucq_step.specs.Steps.{IsRewrittenAt, AreCoresUpTo, AreSteps}
use Rattle.ucq_step.proofs.Ranks.{left_of, left_of-next}
use Rattle.ucq_step.proofs.Stepped.{AreCoresUpTo-more, AreCoresUpTo-none, AreSteps-last}

pub ArePieces-single : (q : Query) (rule : Rule) (pieces : List (List (ℕ × ℕ))) → AreSinglePieces q rule pieces → ArePieces q rule pieces
ArePieces-single q rule pieces S = record { single = S.single; once = S.once }

-- What holds of the one holds of the other.
from_walk : (P : Query → Rule → List (List (ℕ × ℕ)) → Type 0) (w : Walk) (q : Query) (rule : Rule) (pieces : List (List (ℕ × ℕ))) → WalksIn w q rule pieces →
    P w.query w.rule w.pieces → P q rule pieces
from_walk P w q rule pieces W h =
    subst (λ ps. P q rule ps) W.same_pieces (subst (λ r. P q r w.pieces) W.same_rule (subst (λ x. P x w.rule w.pieces) W.same_query h))

to_walk : (P : Query → Rule → List (List (ℕ × ℕ)) → Type 0) (w : Walk) (q : Query) (rule : Rule) (pieces : List (List (ℕ × ℕ))) → WalksIn w q rule pieces →
    P q rule pieces → P w.query w.rule w.pieces
to_walk P w q rule pieces W h =
    subst (λ x. P x w.rule w.pieces) (sym W.same_query) (subst (λ r. P q r w.pieces) (sym W.same_rule) (subst (λ ps. P q rule ps) (sym W.same_pieces) h))

module _ (before after : Walk) (j : Named) (q : Query) (rule : Rule) (pieces : List (List (ℕ × ℕ))) (W : WalksIn before q rule pieces) (G : MovesTo before after j) where
  -- the set is told of the query, the rule and the pieces
  pub TellsMembers-next : TellsMembers q rule pieces j
  TellsMembers-next = from_walk (λ q rule pieces. TellsMembers q rule pieces j) before q rule pieces W (record { join = G.next.join; names = G.names })

  -- the walk still goes through them
  pub WalksIn-next : WalksIn after q rule pieces
  WalksIn-next = subst (λ (w : Walk). WalksIn w q rule pieces) (sym G.stands) (record { same_query = W.same_query; same_rule = W.same_rule; same_pieces = W.same_pieces })

  -- it stands at the set
  pub stands-next : IsJoinOf after after.present
  stands-next = subst (λ (w : Walk). IsJoinOf w w.present) (sym G.stands) G.next.join

  -- and has less far to go
  pub left_of-less : AreSinglePieces q rule pieces → (before.present ≡ []) ⊎ IsJoinOf before before.present → left_of after < left_of before
  left_of-less S here =
      subst (λ (w : Walk). left_of w < left_of before) (sym G.stands)
      (left_of-next before j.members (to_walk ArePieces before q rule pieces W (ArePieces-single q rule pieces S)) here G.next.join G.next.after)

  -- the cores are those up to the set
  pub AreCoresUpTo-next : (stored : Query) (kept more : List Query) → IsRewrittenAt q rule pieces j.members stored → HasAddedCore kept stored more →
      AreCoresUpTo before.query before.rule before.pieces before.present kept → AreCoresUpTo after.query after.rule after.pieces after.present more
  AreCoresUpTo-next stored kept more C K U =
      subst (λ (w : Walk). AreCoresUpTo w.query w.rule w.pieces w.present more) (sym G.stands)
      (AreCoresUpTo-more before j.members stored kept more G.next K
      (to_walk (λ q rule pieces. IsRewrittenAt q rule pieces j.members stored) before q rule pieces W C) U)

-- at the end they are the answer
pub AreSteps-end : (w : Walk) (q : Query) (rule : Rule) (pieces : List (List (ℕ × ℕ))) (cores : List Query) → WalksIn w q rule pieces →
    AreSinglePieces q rule pieces → IsLast w → AreDifferent cores → AreCoresUpTo w.query w.rule w.pieces w.present cores → AreSteps q rule cores
AreSteps-end w q rule pieces cores W S L D U =
    subst (λ r. AreSteps q r cores) W.same_rule (subst (λ x. AreSteps x w.rule cores) W.same_query (AreSteps-last w cores (to_walk AreSinglePieces w q rule pieces W S) L D U))

-- where there are no pieces, there are no steps
pub AreSteps-none : (q : Query) (rule : Rule) (pieces : List (List (ℕ × ℕ))) → AreSinglePieces q rule pieces → nat_eq (length pieces) 0 ≡ true → AreSteps q rule []
AreSteps-none q rule (piece ∷ pieces) S e = let none : length (piece ∷ pieces) ≡ 0 = eq_same nat_eq IsEquality-nat_eq (length (piece ∷ pieces)) 0 e in absurd (omega arith)
AreSteps-none q rule [] S e =
    AreSteps-last start [] S (record { none = λ other j after. nowhere other j }) (λ i j d l m. absurd (omega arith)) (AreCoresUpTo-none q rule [])
  where
    start : Walk
    start = record { query = q; rule = rule; pieces = []; present = [] }

    nowhere : (other : List ℕ) → IsJoinOf start other → ⊥
    nowhere [] j = let some : 0 < 0 = j.aggregate.nonempty in omega arith
    nowhere (place ∷ places) j = let within : place < 0 = j.within place (Contains-first place places) in omega arith
