-- A piece-unifier is a union of single pieces over disjoint atoms.
use Rattle.std.proofs.Common.{◌≡◌, ℕ, zero, suc, ◌<◌, ◌≤◌, true, false, not, List, [], ◌∷◌, length, AllPairs, Contains, refl, sym, ap, ◌∙◌}
use Rattle.std.proofs.Common.{subst, ⊎_elim, arith}
use Rattle.std.proofs.lemmas.Bool.{cases_Bool, not-true}
use Rattle.std.proofs.lemmas.List.Filters.{length-filter_both}
use Rattle.ucq_terms.specs.Syntax.{Rule, Query}
use Rattle.ucq_terms.specs.Unifier.{places, IsPieceUnifier, IsSinglePiece}
use Rattle.ucq_terms.proofs.Lists.{Contains-first, Contains-rest, Contains-cons_cases, Contains-empty, Contains-filter}
use Rattle.ucq_terms.proofs.Lists.{Contains-from_filter, length-positive, first_element}
use Rattle.ucq_terms.proofs.Pairwise.{AllPairs-cons}
use Rattle.ucq_terms.proofs.Places.{Contains-from_places}
use Rattle.ucq_terms.proofs.Pieces.{in_piece, piece_of, rest_of, root_in, rest_unifies, piece_single}

-- no place belongs to both
abbrev pub AreDisjoint : List (ℕ × ℕ) → List (ℕ × ℕ) → Type 0
AreDisjoint a b = (place : ℕ) → Contains (places a) place → Contains (places b) place → ⊥

pub record IsSplit (q : Query) (rule : Rule) (pairs : List (ℕ × ℕ)) (pieces : List (List (ℕ × ℕ))) : Type 0 where
  pub single : (piece : List (ℕ × ℕ)) → Contains pieces piece → IsSinglePiece q rule piece
  pub apart : AllPairs AreDisjoint pieces
  pub inside : (piece : List (ℕ × ℕ)) (pair : ℕ × ℕ) → Contains pieces piece → Contains piece pair → Contains pairs pair
  pub outside : (pair : ℕ × ℕ) → Contains pairs pair → (piece : List (ℕ × ℕ)) × Contains pieces piece × Contains piece pair

no_pieces : (q : Query) (rule : Rule) (pairs : List (ℕ × ℕ)) → length pairs ≤ 0 → IsSplit q rule pairs []
no_pieces q rule pairs h = record {
  single = λ p c. absurd (Contains-empty p c);
  apart = λ i j d a b. absurd (omega arith);
  inside = λ p x c d. absurd (Contains-empty p c);
  outside = λ x c. absurd (omega (arith, length-positive pairs x c));
}

module _ (q : Query) (rule : Rule) (pairs : List (ℕ × ℕ)) (U : IsPieceUnifier q rule pairs) (root : ℕ × ℕ) (rooted : Contains pairs root) where
  in_rest : (p : ℕ × ℕ) → Contains (rest_of q rule pairs root.0) p → Contains pairs p × (not (in_piece q rule pairs root.0 p.0) ≡ true)
  in_rest p c = Contains-from_filter (λ (p : ℕ × ℕ). not (in_piece q rule pairs root.0 p.0)) pairs p c

  in_front : (p : ℕ × ℕ) → Contains (piece_of q rule pairs root.0) p → Contains pairs p × (in_piece q rule pairs root.0 p.0 ≡ true)
  in_front p c = Contains-from_filter (λ (p : ℕ × ℕ). in_piece q rule pairs root.0 p.0) pairs p c

  rest_shorter : length (rest_of q rule pairs root.0) < length pairs
  rest_shorter =
      let b = length-filter_both (λ (p : ℕ × ℕ). in_piece q rule pairs root.0 p.0) (λ (p : ℕ × ℕ). not (in_piece q rule pairs root.0 p.0)) (λ p. refl) pairs in
      let s = length-positive (piece_of q rule pairs root.0) root (root_in q rule pairs U root rooted) in
      omega (arith, b, s)

  -- the root's piece, and the pieces of the rest
  one_more : (pieces : List (List (ℕ × ℕ))) → IsSplit q rule (rest_of q rule pairs root.0) pieces → IsSplit q rule pairs (piece_of q rule pairs root.0 ∷ pieces)
  one_more pieces s = record {
    single =
        λ p c. ⊎_elim (λ e. subst (IsSinglePiece q rule) e (piece_single q rule pairs U root rooted)) (λ i. s.single p i)
        (Contains-cons_cases (piece_of q rule pairs root.0) pieces p c);
    apart = AllPairs-cons AreDisjoint (piece_of q rule pairs root.0) pieces (λ b c place i j. disjoint b c place i j) s.apart;
    inside =
        λ p x c d. ⊎_elim (λ e. (in_front x (subst (λ l. Contains l x) (sym e) d)).0) (λ i. (in_rest x (s.inside p x i d)).0)
        (Contains-cons_cases (piece_of q rule pairs root.0) pieces p c);
    outside = λ x c. ⊎_elim
        (λ e. (
          piece_of q rule pairs root.0,
          Contains-first (piece_of q rule pairs root.0) pieces,
          Contains-filter (λ (p : ℕ × ℕ). in_piece q rule pairs root.0 p.0) pairs x c e,
        ))
        (λ e. let r = s.outside x (Contains-filter (λ (p : ℕ × ℕ). not (in_piece q rule pairs root.0 p.0)) pairs x c (ap not e)) in
        (r.0, Contains-rest (piece_of q rule pairs root.0) pieces r.0 r.1, r.2))
        (cases_Bool (in_piece q rule pairs root.0 x.0));
  }
    where
      disjoint : (b : List (ℕ × ℕ)) → Contains pieces b → (place : ℕ) → Contains (places (piece_of q rule pairs root.0)) place → Contains (places b) place → ⊥
      disjoint b c place i j =
          let x = Contains-from_places (piece_of q rule pairs root.0) place i in
          let y = Contains-from_places b place j in
          let k = (in_front x.0 x.1).1 in
          let n = (in_rest y.0 (s.inside b y.0 c y.1)).1 in
          let e : true ≡ false = sym k ∙ (ap (in_piece q rule pairs root.0) (x.2 ∙ sym y.2) ∙ not-true _ n) in
          cc

-- a piece-unifier is a union of single pieces
pub split : (n : ℕ) (q : Query) (rule : Rule) (pairs : List (ℕ × ℕ)) → length pairs ≤ n → IsPieceUnifier q rule pairs →
    (pieces : List (List (ℕ × ℕ))) × IsSplit q rule pairs pieces
split zero q rule pairs h U = ([], no_pieces q rule pairs h)
split (suc n) q rule pairs h U =
    let r = first_element pairs U.matching.nonempty in
    let shorter = rest_shorter q rule pairs U r.0 r.1 in
    split_rest n q rule pairs U r.0 r.1 (length (rest_of q rule pairs r.0.0)) refl
    (λ some. split n q rule (rest_of q rule pairs r.0.0) (omega (arith, shorter)) (rest_unifies q rule pairs U r.0 r.1 some))
  where
    split_rest : (n : ℕ) (q : Query) (rule : Rule) (pairs : List (ℕ × ℕ)) (U : IsPieceUnifier q rule pairs) (root : ℕ × ℕ)
        (rooted : Contains pairs root) (k : ℕ) →
        length (rest_of q rule pairs root.0) ≡ k →
        (0 < length (rest_of q rule pairs root.0) → (pieces : List (List (ℕ × ℕ))) × IsSplit q rule (rest_of q rule pairs root.0) pieces) →
        (pieces : List (List (ℕ × ℕ))) × IsSplit q rule pairs pieces
    split_rest n q rule pairs U root rooted zero e ih =
        (piece_of q rule pairs root.0 ∷ [], one_more q rule pairs U root rooted [] (no_pieces q rule (rest_of q rule pairs root.0) (omega arith)))
    split_rest n q rule pairs U root rooted (suc k) e ih =
        let r = ih (omega arith) in (piece_of q rule pairs root.0 ∷ r.0, one_more q rule pairs U root rooted r.0 r.1)
