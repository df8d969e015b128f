-- Piece-unifiers over disjoint atoms, each under its number, fall apart into single pieces with these numbers for labels.
use Rattle.std.proofs.Common.{◌≡◌, ℕ, zero, suc, ◌<◌, ◌≤◌, List, [], ◌++◌, map, length, ◌⊎◌, AllPairs, Contains, ap, subst, ⊎_elim, arith}
use Rattle.std.proofs.lemmas.List.Elements.{Contains-append_left, Contains-append_right, Contains-append_cases}
use Rattle.std.proofs.lemmas.Bool.{cases_eq}
use Rattle.ucq_terms.specs.Syntax.{Rule, Query}
use Rattle.ucq_terms.specs.Unifier.{places, IsPieceUnifier, IsSinglePiece}
use Rattle.ucq_terms.proofs.Lists.{Contains-empty, Contains-map, Contains-from_map, length-positive}
use Rattle.ucq_terms.proofs.Pairwise.{AllPairs-append, AllPairs-map}
use Rattle.ucq_terms.proofs.Places.{Contains-from_places, Contains-places}
use Rattle.ucq_chase.proofs.Labelled.{Labelled}
use Rattle.ucq_terms.proofs.Split.{AreDisjoint, IsSplit, split}

-- The pieces are those of the first n piece-unifiers.
pub record IsGrouped (q : Query) (rule : Rule) (pairs : ℕ → List (ℕ × ℕ)) (n : ℕ) (pieces : List Labelled) : Type 0 where
  pub single : (p : Labelled) → Contains pieces p → IsSinglePiece q rule p.pairs
  pub apart : AllPairs (λ (a b : Labelled). AreDisjoint a.pairs b.pairs) pieces
  pub label : (p : Labelled) → Contains pieces p → p.label < n
  pub inside : (p : Labelled) (pair : ℕ × ℕ) → Contains pieces p → Contains p.pairs pair → Contains (pairs p.label) pair
  pub outside : (i : ℕ) (pair : ℕ × ℕ) → i < n → Contains (pairs i) pair → (p : Labelled) × Contains pieces p × Contains p.pairs pair

labelled : ℕ → List (ℕ × ℕ) → Labelled
labelled n piece = record { label = n; pairs = piece }

module _ (q : Query) (rule : Rule) (pairs : ℕ → List (ℕ × ℕ)) (disjoint : (i j : ℕ) → ¬ (i ≡ j) → AreDisjoint (pairs i) (pairs j)) where
  none : IsGrouped q rule pairs 0 []
  none = record {
    single = λ p c. absurd (Contains-empty p c);
    apart = λ i j d a b. absurd (omega arith);
    label = λ p c. absurd (Contains-empty p c);
    inside = λ p x c d. absurd (Contains-empty p c);
    outside = λ i x l c. absurd (omega arith);
  }

  -- one more that is empty
  empty_group : (n : ℕ) (pieces : List Labelled) → length (pairs n) ≤ 0 → IsGrouped q rule pairs n pieces → IsGrouped q rule pairs (suc n) pieces
  empty_group n pieces e g = record {
    single = g.single;
    apart = g.apart;
    label = λ p c. let l = g.label p c in omega (arith, l);
    inside = g.inside;
    outside =
        λ i x l c. ⊎_elim (λ s. let k = length-positive (pairs n) x (subst (λ i. Contains (pairs i) x) s c) in absurd (omega (arith, k)))
        (λ s. g.outside i x (omega (arith, s)) c) (cases_eq i n);
  }

  -- one more that falls apart
  one_group : (n : ℕ) (pieces : List Labelled) (split_up : List (List (ℕ × ℕ))) → IsSplit q rule (pairs n) split_up →
      IsGrouped q rule pairs n pieces → IsGrouped q rule pairs (suc n) (map (labelled n) split_up ++ pieces)
  unfolding labelled
  one_group n pieces split_up s g = record {
    single =
        λ p c. ⊎_elim (λ i. let r = of_new p i in subst (λ (p : Labelled). IsSinglePiece q rule p.pairs) r.2 (s.single r.0 r.1)) (λ i. g.single p i)
        (Contains-append_cases (map (labelled n) split_up) pieces p c);
    apart =
        AllPairs-append (λ (a b : Labelled). AreDisjoint a.pairs b.pairs) (map (labelled n) split_up) pieces
        (AllPairs-map (λ (a b : Labelled). AreDisjoint a.pairs b.pairs) (labelled n) split_up s.apart) g.apart (λ a b i j. far a b i j);
    label =
        λ p c. ⊎_elim (λ i. let r = of_new p i in let e : n ≡ p.label = ap (λ (p : Labelled). p.label) r.2 in omega (arith, e))
        (λ i. let l = g.label p i in omega (arith, l)) (Contains-append_cases (map (labelled n) split_up) pieces p c);
    inside = λ p x c d. ⊎_elim (λ i. new_inside p x i d) (λ i. g.inside p x i d) (Contains-append_cases (map (labelled n) split_up) pieces p c);
    outside = λ i x l c. ⊎_elim
        (λ e. let r = s.outside x (subst (λ i. Contains (pairs i) x) e c) in
        (labelled n r.0, Contains-append_left (map (labelled n) split_up) pieces (labelled n r.0) (Contains-map (labelled n) split_up r.0 r.1), r.2))
        (λ e. let r = g.outside i x (omega (arith, e)) c in (r.0, Contains-append_right (map (labelled n) split_up) pieces r.0 r.1, r.2))
        (cases_eq i n);
  }
    where
      of_new : (p : Labelled) → Contains (map (labelled n) split_up) p → (piece : List (ℕ × ℕ)) × Contains split_up piece × (labelled n piece ≡ p)
      of_new p c = Contains-from_map (labelled n) split_up p c

      new_inside : (p : Labelled) (x : ℕ × ℕ) → Contains (map (labelled n) split_up) p → Contains p.pairs x → Contains (pairs p.label) x
      new_inside p x i d =
          let r = of_new p i in
          subst (λ (p : Labelled). Contains p.pairs x → Contains (pairs p.label) x) r.2 (λ d. s.inside r.0 x r.1 d) d

      far : (a b : Labelled) → Contains (map (labelled n) split_up) a → Contains pieces b → AreDisjoint a.pairs b.pairs
      far a b i j = λ place c d.
          let x = Contains-from_places a.pairs place c in
          let y = Contains-from_places b.pairs place d in
          let r = of_new a i in
          let e : n ≡ a.label = ap (λ (p : Labelled). p.label) r.2 in
          let l = g.label b j in
          let differ : ¬ (a.label ≡ b.label) = λ s. omega (arith, e, l, s) in
          disjoint a.label b.label differ place
          (subst (λ k. Contains (places (pairs a.label)) k) x.2 (Contains-places (pairs a.label) x.0 (new_inside a x.0 i x.1)))
          (subst (λ k. Contains (places (pairs b.label)) k) y.2 (Contains-places (pairs b.label) y.0 (g.inside b y.0 j y.1)))

  -- the first n piece-unifiers fall apart
  pub grouped : (n : ℕ) → ((i : ℕ) → i < n → (length (pairs i) ≤ 0) ⊎ IsPieceUnifier q rule (pairs i)) →
      (pieces : List Labelled) × IsGrouped q rule pairs n pieces
  grouped zero f = ([], none)
  grouped (suc n) f =
      let r = grouped n (λ i l. f i (omega arith)) in
      ⊎_elim
      (λ e. (r.0, empty_group n r.0 e r.1))
      (λ U. let s = split (length (pairs n)) q rule (pairs n) (omega arith) U in (map (labelled n) s.0 ++ r.0, one_group n r.0 s.0 s.1 r.1))
      (f n (omega arith))
