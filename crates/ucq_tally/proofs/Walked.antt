-- What a walk has counted.
use Rattle.std.proofs.Common.{◌≡◌, ◌≢◌, ◌+◌, ℕ, List, [], ◌∷◌, ◌++◌, length, refl, sym, subst, length-append, arith}
use Rattle.std.specs.Prelude.{min}
use Rattle.ucq_terms.specs.Syntax.{Query, Rule}
use Rattle.ucq_unify.specs.Pieces.{AreSinglePieces}
use Rattle.ucq_join.specs.Names.{Named}
use Rattle.ucq_join.specs.Walk.{Walk, ComesAfter, IsLast, MovesTo, HasGiven}
use Rattle.ucq_join.proofs.Orders.{ComesAfter-irrefl}
use Rattle.ucq_join.proofs.Given.{HasGiven-start, HasGiven-next, HasGiven-all}
use Rattle.ucq_step.specs.inner.Walked.{WalksIn}
use Rattle.ucq_tally.specs.inner.Sums.{most, IsSaturated}
use Rattle.ucq_tally.specs.inner.Counts.{HasRewritings}

-- the walk has given so many sets
pub record HasCounted (w : Walk) (number : ℕ) : Type 0 where
  pub given : List (List ℕ)
  pub is : HasGiven w given
  pub many : number ≡ length given

pub HasCounted-start : (w : Walk) → w.present ≡ [] → IsSaturated (HasCounted w) 0
HasCounted-start w e = record {
  number = 0;
  is = record { given = []; is = HasGiven-start w e; many = refl };
  answered = omega arith;
}

pub HasCounted-next : (before after : Walk) (j : Named) (count more : ℕ) → MovesTo before after j → more ≡ min (count + 1) most →
    IsSaturated (HasCounted before) count → IsSaturated (HasCounted after) more
HasCounted-next before after j count more g e s = record {
  number = s.number + 1;
  is = record {
    given = s.is.given ++ j.members ∷ [];
    is = HasGiven-next before after j s.is.given g s.is.is;
    many = let m = s.is.many in omega (arith, m, length-append s.is.given (j.members ∷ []));
  };
  answered = let a = s.answered in omega (arith, a, e);
}

apart : (xs ys : List ℕ) → ComesAfter xs ys → xs ≢ ys
apart xs ys a e = ComesAfter-irrefl ys (subst (λ (zs : List ℕ). ComesAfter zs ys) e a)

-- at the end that is how many rewritings there are
HasRewritings-walk : (w : Walk) (number : ℕ) → AreSinglePieces w.query w.rule w.pieces → IsLast w → HasCounted w number → HasRewritings w.query w.rule number
HasRewritings-walk w number S L c = record {
  pieces = w.pieces;
  single = S;
  sets = c.given;
  aggregates = record {
    each = c.is.joins;
    all = HasGiven-all w c.given L c.is;
    once = λ i k d l m e. apart _ _ (c.is.once i k d l m) e;
  };
  many = c.many;
}

pub HasRewritings-end : (w : Walk) (q : Query) (rule : Rule) (pieces : List (List (ℕ × ℕ))) (count : ℕ) → WalksIn w q rule pieces →
    AreSinglePieces q rule pieces → IsLast w → IsSaturated (HasCounted w) count → IsSaturated (HasRewritings q rule) count
HasRewritings-end w q rule pieces count W S L s = record {
  number = s.number;
  is =
      subst (λ (r : Rule). HasRewritings q r s.number) W.same_rule
      (subst (λ (x : Query). HasRewritings x w.rule s.number) W.same_query
      (HasRewritings-walk w s.number
      (subst (λ (x : Query). AreSinglePieces x w.rule w.pieces) (sym W.same_query)
      (subst (λ (r : Rule). AreSinglePieces q r w.pieces) (sym W.same_rule)
      (subst (λ (ps : List (List (ℕ × ℕ))). AreSinglePieces q rule ps) (sym W.same_pieces) S)))
      L s.is));
  answered = s.answered;
}
