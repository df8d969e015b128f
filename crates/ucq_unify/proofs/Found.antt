-- The pieces that a search finds, branch by branch.
use Rattle.std.proofs.Common.{◌≡◌, ◌≢◌, ℕ, ◌+◌, ◌<◌, ◌≤◌, List, [], ◌∷◌, ◌++◌, length, Option, None, Contains, AllPairs, refl, sym, ap, subst, inl, inr, ⊎_elim, arith}
use Rattle.std.proofs.lemmas.Bool.{cases_eq, cases_lt}
use Rattle.std.proofs.lemmas.List.Elements.{Contains-append_left, Contains-append_right, Contains-append_cases}
use Rattle.ucq_terms.specs.Syntax.{Query, Rule}
use Rattle.ucq_terms.specs.Unifier.{links, KeepsPredicate, IsPieceUnifier, IsSinglePiece}
use Rattle.ucq_terms.proofs.Lists.{Contains-first, Contains-cons_cases, Contains-empty, first_element}
use Rattle.ucq_terms.proofs.Pairwise.{AllPairs-append}
use Rattle.ucq_unify.specs.Pieces.{AreSinglePieces}
use Rattle.ucq_unify.specs.inner.Growing.{pairs_of, head_at, with_head, ChoosesAmong, StartsAt, IsGrown, IsCalledFor, HasClash, IsSearched, IsBranched, IsRooted}
use Rattle.ucq_unify.proofs.Choices.{rises_from_rising, same_pair, least_pair, with_head-cases, with_head-older, with_head-newest}
use Rattle.ucq_unify.proofs.Growth.{grown_single, piece_is_choice, called_for, clash_blocks}

-- Lists without pieces.
none_differ : AllPairs (λ (a b : List (ℕ × ℕ)). a ≢ b) []
none_differ = λ i j d a b. absurd (omega (arith, b))

one_differs : (piece : List (ℕ × ℕ)) → AllPairs (λ (a b : List (ℕ × ℕ)). a ≢ b) (piece ∷ [])
one_differs piece = λ i j d a b. absurd (omega (arith, a, b))

-- What one choice leads to.
pub searched_none : (q : Query) (rule : Rule) (root : ℕ) (choice : List (Option ℕ)) →
    ((piece : List (ℕ × ℕ)) → IsPieceUnifier q rule piece → ChoosesAmong choice piece → StartsAt root piece → ⊥) → IsSearched q rule root choice []
searched_none q rule root choice f = record {
  single = λ p c. absurd (Contains-empty p c);
  has = λ p c. absurd (Contains-empty p c);
  whole = λ p s w r. absurd (f p s.unifier w r);
  once = none_differ;
}

pub searched_clash : (q : Query) (rule : Rule) (root : ℕ) (choice : List (Option ℕ)) → HasClash q rule (links q 0 rule (pairs_of choice)) → IsSearched q rule root choice []
searched_clash q rule root choice h = searched_none q rule root choice (λ p U w r. clash_blocks q rule choice p h U w)

pub searched_low : (q : Query) (rule : Rule) (root : ℕ) (choice : List (Option ℕ)) (place : ℕ) → place < length q.atoms → place < root →
    IsCalledFor q rule choice place → IsSearched q rule root choice []
searched_low q rule root choice place l low c = searched_none q rule root choice (λ p U w r. no_room p U w r)
  where
    no_room : (piece : List (ℕ × ℕ)) → IsPieceUnifier q rule piece → ChoosesAmong choice piece → StartsAt root piece → ⊥
    no_room piece U w r =
        let (head, i) = called_for q rule choice place piece U w l c in
        let k : root ≤ place = r.each (place, head) i in
        omega arith

pub searched_closed : (q : Query) (rule : Rule) (root : ℕ) (choice : List (Option ℕ)) → IsGrown q rule root choice → IsPieceUnifier q rule (pairs_of choice) →
    IsSearched q rule root choice (pairs_of choice ∷ [])
searched_closed q rule root choice g U = record {
  single = λ p c. subst (IsSinglePiece q rule) (is p c) (grown_single q rule root choice g U);
  has = λ p c. subst (λ (x : List (ℕ × ℕ)). ChoosesAmong choice x × StartsAt root x) (is p c) (record { each = λ z i. i }, g.root_least);
  whole =
      λ p s w r. subst (λ (x : List (ℕ × ℕ)). Contains (pairs_of choice ∷ []) x) (sym (piece_is_choice q rule choice U p s w))
      (Contains-first (pairs_of choice) []);
  once = one_differs (pairs_of choice);
}
  where
    is : (p : List (ℕ × ℕ)) → Contains (pairs_of choice ∷ []) p → pairs_of choice ≡ p
    is p c = elim (Contains-cons_cases (pairs_of choice) [] p c) [ inl e ↦ e | inr i ↦ absurd (Contains-empty p i) ]

pub searched_open : (q : Query) (rule : Rule) (root : ℕ) (choice : List (Option ℕ)) (place : ℕ) (pieces : List (List (ℕ × ℕ))) → place < length q.atoms →
    IsCalledFor q rule choice place → IsBranched q rule root choice place (length rule.heads) pieces → IsSearched q rule root choice pieces
searched_open q rule root choice place pieces l c b = record {
  single = b.single;
  has = b.has;
  whole = λ p s w r. whole p s w r;
  once = b.once;
}
  where
    whole : (piece : List (ℕ × ℕ)) → IsSinglePiece q rule piece → ChoosesAmong choice piece → StartsAt root piece → Contains pieces piece
    whole piece s w r =
        let (head, i) = called_for q rule choice place piece s.unifier w l c in
        b.whole piece head s w r (s.unifier.matching.each (place, head) i).in_head i

-- The branches at a place.
pub branched_none : (q : Query) (rule : Rule) (root : ℕ) (choice : List (Option ℕ)) (place : ℕ) → IsBranched q rule root choice place 0 []
branched_none q rule root choice place = record {
  single = λ p c. absurd (Contains-empty p c);
  has = λ p c. absurd (Contains-empty p c);
  head = λ p c. absurd (Contains-empty p c);
  whole = λ p h s w r l i. absurd (omega (arith, l));
  once = none_differ;
}

pub branched_skip : (q : Query) (rule : Rule) (root : ℕ) (choice : List (Option ℕ)) (place tried : ℕ) (pieces : List (List (ℕ × ℕ))) →
    (KeepsPredicate q rule (place, tried) → ⊥) → IsBranched q rule root choice place tried pieces → IsBranched q rule root choice place (tried + 1) pieces
branched_skip q rule root choice place tried pieces n b = record {
  single = b.single;
  has = b.has;
  head = λ p c. let (h, l, i) = b.head p c in (h, omega (arith, l), i);
  whole =
      λ p h s w r l i. elim (cases_eq h tried) [
        | inl e ↦ absurd (n (subst (λ (k : ℕ). KeepsPredicate q rule (place, k)) e (s.unifier.matching.each (place, h) i)))
        | inr ne ↦ b.whole p h s w r (omega (arith, l, ne)) i
      ];
  once = b.once;
}

module _ (q : Query) (rule : Rule) (root : ℕ) (choice : List (Option ℕ)) (place tried : ℕ) (pieces more : List (List (ℕ × ℕ)))
    (l : place < length choice) (free : head_at choice place ≡ None) (b : IsBranched q rule root choice place tried pieces)
    (s : IsSearched q rule root (with_head choice place tried) more) where
  older : (piece : List (ℕ × ℕ)) → ChoosesAmong (with_head choice place tried) piece → ChoosesAmong choice piece
  older piece w = record { each = λ p i. w.each p (with_head-older choice place tried p free i) }

  newest : (piece : List (ℕ × ℕ)) → ChoosesAmong (with_head choice place tried) piece → Contains {X = ℕ × ℕ} piece (place, tried)
  newest piece w = w.each (place, tried) (with_head-newest choice place tried l)

  with_newest : (piece : List (ℕ × ℕ)) → ChoosesAmong choice piece → Contains {X = ℕ × ℕ} piece (place, tried) → ChoosesAmong (with_head choice place tried) piece
  with_newest piece w i = record {
    each = λ p j. ⊎_elim (λ e. subst (λ (z : ℕ × ℕ). Contains piece z) (sym e) i) (λ k. w.each p k) (with_head-cases choice place tried p j);
  }

  apart : (x y : List (ℕ × ℕ)) → Contains pieces x → Contains more y → x ≢ y
  apart x y i j e =
      let (h, m, k) = b.head x i in
      let n = newest y ((s.has y j).0) in
      let k' : Contains {X = ℕ × ℕ} y (place, h) = subst (λ (z : List (ℕ × ℕ)). Contains {X = ℕ × ℕ} z (place, h)) e k in
      let d = same_pair y (place, h) (place, tried) (rises_from_rising y (s.single y j).unifier.matching.rising) k' n refl in
      let f : h ≡ tried = ap (λ (z : ℕ × ℕ). z.1) d in
      omega (arith, m)

  pub branched_more : IsBranched q rule root choice place (tried + 1) (pieces ++ more)
  branched_more = record {
    single = λ p c. ⊎_elim (λ i. b.single p i) (λ i. s.single p i) (Contains-append_cases pieces more p c);
    has = λ p c. ⊎_elim (λ i. b.has p i) (λ i. (older p (s.has p i).0, (s.has p i).1)) (Contains-append_cases pieces more p c);
    head = λ p c. ⊎_elim (λ i. let (h, m, k) = b.head p i in (h, omega (arith, m), k)) (λ i. (tried, omega arith, newest p (s.has p i).0))
        (Contains-append_cases pieces more p c);
    whole =
        λ p h t w r m i. elim (cases_eq h tried) [
          | inl e ↦
              Contains-append_right pieces more p
              (s.whole p t (with_newest p w (subst (λ (k : ℕ). Contains {X = ℕ × ℕ} p (place, k)) e i)) r)
          | inr n ↦ Contains-append_left pieces more p (b.whole p h t w r (omega (arith, m, n)) i)
        ];
    once = AllPairs-append (λ (x y : List (ℕ × ℕ)). x ≢ y) pieces more b.once s.once apart;
  }

-- The roots.
pub rooted_none : (q : Query) (rule : Rule) → IsRooted q rule 0 []
rooted_none q rule = record {
  single = λ p c. absurd (Contains-empty p c);
  low = λ p c. absurd (Contains-empty p c);
  whole = λ p z s i l. absurd (omega (arith, l));
  once = none_differ;
}

module _ (q : Query) (rule : Rule) (tried : ℕ) (empty : List (Option ℕ)) (pieces more : List (List (ℕ × ℕ)))
    (none : (pair : ℕ × ℕ) → Contains (pairs_of empty) pair → ⊥) (t : IsRooted q rule tried pieces)
    (b : IsBranched q rule tried empty tried (length rule.heads) more) where
  root_apart : (x y : List (ℕ × ℕ)) → Contains pieces x → Contains more y → x ≢ y
  root_apart x y i j e =
      let (pair, k, l) = t.low x i in
      let m : tried ≤ pair.0 = (b.has y j).1.each pair (subst (λ (z : List (ℕ × ℕ)). Contains z pair) e k) in
      omega (arith, l)

  root_whole : (piece : List (ℕ × ℕ)) (pair : ℕ × ℕ) → IsSinglePiece q rule piece → Contains piece pair → pair.0 < tried + 1 → Contains (pieces ++ more) piece
  root_whole piece pair s i l =
      let (z, j, least) = least_pair piece s.unifier.matching.nonempty (rises_from_rising piece s.unifier.matching.rising) in
      elim (cases_lt z.0 tried) [
        | inl m ↦ Contains-append_left pieces more piece (t.whole piece z s j m)
        | inr m ↦
            let k : z.0 ≤ pair.0 = least pair i in
            let e : pair.0 ≡ tried = omega arith in
            let here : pair ≡ (tried, pair.1) = λ n. (e n, pair.1) in
            let i' : Contains {X = ℕ × ℕ} piece (tried, pair.1) = subst (λ (y : ℕ × ℕ). Contains piece y) here i in
            let starts : StartsAt tried piece = record { each = λ y c. (let n : z.0 ≤ y.0 = least y c in omega arith) } in
            let within : ChoosesAmong empty piece = record { each = λ y c. absurd (none y c) } in
            Contains-append_right pieces more piece (b.whole piece pair.1 s within starts (s.unifier.matching.each pair i).in_head i')
      ]

  pub rooted_more : IsRooted q rule (tried + 1) (pieces ++ more)
  rooted_more = record {
    single = λ p c. ⊎_elim (λ i. t.single p i) (λ i. b.single p i) (Contains-append_cases pieces more p c);
    low = λ p c. ⊎_elim (λ i. let (z, k, l) = t.low p i in (z, k, omega (arith, l)))
        (λ i. let (h, m, k) = b.head p i in ((tried, h), k, omega arith)) (Contains-append_cases pieces more p c);
    whole = root_whole;
    once = AllPairs-append (λ (x y : List (ℕ × ℕ)). x ≢ y) pieces more t.once b.once root_apart;
  }

pub all_rooted : (q : Query) (rule : Rule) (pieces : List (List (ℕ × ℕ))) → IsRooted q rule (length q.atoms) pieces → AreSinglePieces q rule pieces
all_rooted q rule pieces t = record {
  single = t.single;
  all = λ p s. let (z, i) = first_element p s.unifier.matching.nonempty in t.whole p z s i (s.unifier.matching.each z i).in_query;
  once = t.once;
}
