-- What threads find together, each with a part of the members of a union.
use Rattle.std.proofs.Common.{◌≡◌, ◌∙◌, refl, sym, ap, subst, arith, ◌⊎◌, inl, inr, ◌<◌, List, [], ◌∷◌, ◌++◌, length, ℕ, get_or, Contains, Some, append-nil}
use Rattle.std.specs.Prelude.{slice_get, IfOk, Result, ◌↔◌}
use Rattle.std.specs.List.{AllZip, flat_map, range_with_len}
use Rattle.std.specs.Global.{Vec}
use Rattle.std.proofs.lemmas.List.Elements.{Contains-append_left, Contains-append_right, Contains-append_cases, Contains-get_or}
use Rattle.std.proofs.lemmas.List.FromFn.{length-range_with_len, get_or-range_with_len}
use Rattle.std.proofs.lemmas.Option.{slice_get-get_or}
use Rattle.indexmap.specs.IndexSet.{IndexSet}
use Rattle.rayon.specs.Lists.{Folds, Reduces}
use Rattle.rayon.proofs.ListFacts.{IfOk-then, flat_map-append}
use Rattle.rayon.proofs.Reducing.{Folds-elim, Reduces-elim}
use Rattle.ucq_terms.specs.Syntax.{Atom, Query}
use Rattle.ucq_terms.specs.Homomorphism.{MapsInto}
use Rattle.ucq_terms.proofs.Lists.{Any-from_contains, Contains-cons_cases, Contains-empty, Contains-first}
use Rattle.ucq_terms.proofs.Texts.{Contains-slice_get}
use Rattle.ucq_eval.specs.declared.split.Search.{Search}
use Rattle.ucq_eval.specs.Answers.{AreTuplesOf, IsAnswer, constants}
use Rattle.ucq_eval.specs.inner.Join.{IsCollected}
use Rattle.ucq_eval.specs.inner.Split.{GoesThrough, IsFoundBy, IsMerged, tuples_in}

-- ---- lists beside lists

AllZip-through_middle :
    {X Y Z : Type 0} (R : X → Y → Type 0) (S : Y → Z → Type 0) (T : X → Z → Type 0) → ((x : X) (y : Y) (z : Z) → R x y → S y z → T x z) →
    (xs : List X) (ys : List Y) (zs : List Z) → AllZip R xs ys → AllZip S ys zs → AllZip T xs zs
AllZip-through_middle R S T f [] [] [] h k = tt
AllZip-through_middle R S T f [] [] (z ∷ zs) h k = absurd k
AllZip-through_middle R S T f [] (y ∷ ys) zs h k = absurd h
AllZip-through_middle R S T f (x ∷ xs) [] zs h k = absurd h
AllZip-through_middle R S T f (x ∷ xs) (y ∷ ys) [] h k = absurd k
AllZip-through_middle R S T f (x ∷ xs) (y ∷ ys) (z ∷ zs) h k = (f x y z h.0 k.0, AllZip-through_middle R S T f xs ys zs h.1 k.1)

-- a list is cut where the list beside it is
record IsCut {X Y : Type 0} (R : X → Y → Type 0) (xs : List X) (ys zs : List Y) : Type 0 where
  pub front : List X
  pub back : List X
  pub whole : xs ≡ front ++ back
  pub beside_front : AllZip R front ys
  pub beside_back : AllZip R back zs

cut : {X Y : Type 0} (R : X → Y → Type 0) (xs : List X) (ys zs : List Y) → AllZip R xs (ys ++ zs) → IsCut R xs ys zs
cut R xs [] zs h = record { front = []; back = xs; whole = refl; beside_front = tt; beside_back = h }
cut R [] (y ∷ ys) zs h = absurd h
cut R (x ∷ xs) (y ∷ ys) zs h =
    let rest = cut R xs ys zs h.1 in
    record { front = x ∷ rest.front; back = rest.back; whole = ap (λ l. x ∷ l) rest.whole; beside_front = (h.0, rest.beside_front); beside_back = rest.beside_back }

-- ---- members at places

-- some member at one of the places maps into the facts with these constants
pub record IsAnswerAt (union : List Query) (facts : List Atom) (places : List ℕ) (tuple : List ℕ) : Type 0 where
  pub place : ℕ
  pub among : Contains places place
  pub member : Query
  pub at : slice_get union place ≡ Some member
  pub maps : MapsInto member facts (constants tuple)

-- the tuples of constants with which some member at one of the places maps into the facts
pub record AreFoundAt (union : List Query) (facts : List Atom) (places : List ℕ) (tuples : List (List ℕ)) : Type 0 where
  pub each : (tuple : List ℕ) → Contains tuples tuple ↔ IsAnswerAt union facts places tuple

module _ (union : List Query) (facts : List Atom) where
  at_more : (xs ys : List ℕ) (tuple : List ℕ) → ((place : ℕ) → Contains xs place → Contains ys place) → IsAnswerAt union facts xs tuple → IsAnswerAt union facts ys tuple
  at_more xs ys tuple f h = record { place = h.place; among = f h.place h.among; member = h.member; at = h.at; maps = h.maps }

  none_at : AreFoundAt union facts [] []
  none_at = record { each = λ tuple. (λ h. absurd (Contains-empty tuple h), λ h. absurd (Contains-empty h.place h.among)) }

  both_at : (xs ys : List ℕ) (left right all : List (List ℕ)) → ((tuple : List ℕ) → Contains all tuple ↔ (Contains left tuple ⊎ Contains right tuple)) → AreFoundAt union facts xs left → AreFoundAt union facts ys right → AreFoundAt union facts (xs ++ ys) all
  both_at xs ys left right all merged one other = record {
    each = λ tuple. (
      λ h. elim ((merged tuple).0 h) [
        | inl i ↦ at_more xs (xs ++ ys) tuple (λ place c. Contains-append_left xs ys place c) ((one.each tuple).0 i)
        | inr i ↦ at_more ys (xs ++ ys) tuple (λ place c. Contains-append_right xs ys place c) ((other.each tuple).0 i)
      ],
      λ h. elim (Contains-append_cases xs ys h.place h.among) [
        | inl i ↦ (merged tuple).1 (inl ((one.each tuple).1 (record { place = h.place; among = i; member = h.member; at = h.at; maps = h.maps })))
        | inr i ↦ (merged tuple).1 (inr ((other.each tuple).1 (record { place = h.place; among = i; member = h.member; at = h.at; maps = h.maps })))
      ],
    );
  }

  one_more_at : (xs : List ℕ) (place : ℕ) (q : Query) (old new : List (List ℕ)) → slice_get union place ≡ Some q → AreFoundAt union facts xs old → IsCollected q facts old new → AreFoundAt union facts (xs ++ place ∷ []) new
  one_more_at xs place q old new at found collected = record {
    each = λ tuple. (
      λ h. elim ((collected.each tuple).0 h) [
        | inl i ↦ at_more xs (xs ++ place ∷ []) tuple (λ p c. Contains-append_left xs (place ∷ []) p c) ((found.each tuple).0 i)
        | inr m ↦ record { place = place; among = Contains-append_right xs (place ∷ []) place (Contains-first place []); member = q; at = at; maps = m }
      ],
      λ h. elim (Contains-append_cases xs (place ∷ []) h.place h.among) [
        | inl i ↦ (collected.each tuple).1 (inl ((found.each tuple).1 (record { place = h.place; among = i; member = h.member; at = h.at; maps = h.maps })))
        | inr i ↦ elim (Contains-cons_cases place [] h.place i) [
          | inl e ↦ (collected.each tuple).1 (inr (subst (λ (x : Query). MapsInto x facts (constants tuple)) (same_member (sym (subst (λ (p : ℕ). slice_get union p ≡ Some q) e at) ∙ h.at)) h.maps))
          | inr j ↦ absurd (Contains-empty h.place j)
        ]
      ],
    );
  }
    where
      same_member : {a b : Query} → Some a ≡ Some b → b ≡ a
      same_member e = cc

  -- the members at all places are the members
  all_places : (tuples : List (List ℕ)) → AreFoundAt union facts (range_with_len 0 (length union)) tuples → AreTuplesOf union facts tuples
  all_places tuples found = record { each = λ tuple. (λ h. forth tuple ((found.each tuple).0 h), λ h. (found.each tuple).1 (back tuple h)) }
    where
      forth : (tuple : List ℕ) → IsAnswerAt union facts (range_with_len 0 (length union)) tuple → IsAnswer union facts tuple
      forth tuple h = Any-from_contains (λ (q : Query). MapsInto q facts (constants tuple)) union h.member (Contains-slice_get union h.place h.member h.at) h.maps

      within : (place : ℕ) → place < length union → Contains (range_with_len 0 (length union)) place
      within place low =
          let n = length union in
          let long : place < length (range_with_len 0 n) = omega (arith, low, length-range_with_len 0 n) in
          let same : get_or (range_with_len 0 n) place 0 ≡ place = get_or-range_with_len 0 n place 0 low ∙ omega arith in
          subst (λ (p : ℕ). Contains (range_with_len 0 n) p) same (Contains-get_or (range_with_len 0 n) place 0 long)

      back : (tuple : List ℕ) → IsAnswer union facts tuple → IsAnswerAt union facts (range_with_len 0 (length union)) tuple
      back tuple h =
          let (k, d, low, e, m) = h in
          record { place = k; among = within k low; member = d; at = slice_get-get_or union k d low ∙ ap Some e; maps = m }

  -- ---- what threads hold

  empty_at : (keys : List (Vec ℕ)) → keys ≡ [] → AreFoundAt union facts [] (tuples_in keys)
  empty_at keys e = subst (λ (ks : List (Vec ℕ)). AreFoundAt union facts [] (tuples_in ks)) (sym e) none_at

  module _ {E : Type 0} where
    -- what the search found, if it was made, is what the members at the places find
    abbrev IsSearchAt : List ℕ → Result Search E → Type 0
    IsSearchAt places r = IfOk r (λ (s : Search). AreFoundAt union facts places (tuples_in s.found.keys))

    search_more : (xs : List ℕ) (a : Result Search E) (place : ℕ) (r : Result Search E) → IsSearchAt xs a → IfOk r (GoesThrough union facts a place) → IsSearchAt (xs ++ place ∷ []) r
    search_more xs a place r h f = IfOk-then r _ _ f (λ (after : Search) (k : GoesThrough union facts a place after).
        one_more_at xs place k.member (tuples_in k.search.found.keys) (tuples_in after.found.keys) k.at (subst (λ (x : Result Search E). IsSearchAt xs x) k.was h) k.collected)

    piece_found : (piece : List ℕ) (u : Result Search E) → (e : Result Search E) × IfOk e (λ (s : Search). s.found.keys ≡ []) × Folds (λ a place b. IfOk b (GoesThrough union facts a place)) e piece u → IsSearchAt piece u
    piece_found piece u (e, start, folds) = Folds-elim _ IsSearchAt search_more piece e u (IfOk-then e _ _ start (λ (s : Search) k. empty_at s.found.keys k)) folds

  module _ {S E : Type 0} where
    -- the same of a set
    abbrev IsSetAt : List ℕ → Result (IndexSet (Vec ℕ) S) E → Type 0
    IsSetAt places r = IfOk r (λ (s : IndexSet (Vec ℕ) S). AreFoundAt union facts places (tuples_in s.keys))

    set_of : (places : List ℕ) (u : Result Search E) (r : Result (IndexSet (Vec ℕ) S) E) → IsSearchAt places u → IfOk r (IsFoundBy u) → IsSetAt places r
    set_of places u r h f = IfOk-then r _ _ f (λ (found : IndexSet (Vec ℕ) S) (k : IsFoundBy u found).
        subst (λ (ks : List (Vec ℕ)). AreFoundAt union facts places (tuples_in ks)) (sym k.same) (subst (λ (x : Result Search E). IsSearchAt places x) k.was h))

    set_both : (xs ys : List ℕ) (a b r : Result (IndexSet (Vec ℕ) S) E) → IsSetAt xs a → IsSetAt ys b → IfOk r (IsMerged a b) → IsSetAt (xs ++ ys) r
    set_both xs ys a b r h k f = IfOk-then r _ _ f (λ (all : IndexSet (Vec ℕ) S) (m : IsMerged a b all).
        both_at xs ys (tuples_in m.left.keys) (tuples_in m.right.keys) (tuples_in all.keys) m.each (subst (λ (x : Result (IndexSet (Vec ℕ) S) E). IsSetAt xs x) m.left_was h) (subst (λ (x : Result (IndexSet (Vec ℕ) S) E). IsSetAt ys x) m.right_was k))

    -- what is made of some sets is what the members at all their places find
    abbrev IsMadeOf : List (Result (IndexSet (Vec ℕ) S) E) → Result (IndexSet (Vec ℕ) S) E → Type 0
    IsMadeOf sets r = (pieces : List (List ℕ)) → AllZip IsSetAt pieces sets → IsSetAt (flat_map (λ l. l) pieces) r

    made_of_none : (r : Result (IndexSet (Vec ℕ) S) E) → IfOk r (λ (s : IndexSet (Vec ℕ) S). s.keys ≡ []) → IsMadeOf [] r
    made_of_none r h [] zipped = IfOk-then r _ _ h (λ (s : IndexSet (Vec ℕ) S) e. empty_at s.keys e)
    made_of_none r h (p ∷ ps) zipped = absurd zipped

    made_of_one : (x : Result (IndexSet (Vec ℕ) S) E) → IsMadeOf (x ∷ []) x
    made_of_one x [] zipped = absurd zipped
    made_of_one x (p ∷ []) zipped = subst (λ (l : List ℕ). IsSetAt l x) (sym (append-nil p)) zipped.0
    made_of_one x (p ∷ q ∷ ps) zipped = absurd zipped.1

    made_of_both : (xs ys : List (Result (IndexSet (Vec ℕ) S) E)) (a b r : Result (IndexSet (Vec ℕ) S) E) → IsMadeOf xs a → IsMadeOf ys b → IfOk r (IsMerged a b) → IsMadeOf (xs ++ ys) r
    made_of_both xs ys a b r h k f pieces zipped =
        let two = cut IsSetAt pieces xs ys zipped in
        let whole : flat_map (λ l. l) pieces ≡ flat_map (λ l. l) two.front ++ flat_map (λ l. l) two.back = ap (λ (ps : List (List ℕ)). flat_map (λ l. l) ps) two.whole ∙ flat_map-append two.front two.back in
        subst (λ (l : List ℕ). IsSetAt l r) (sym whole) (set_both (flat_map (λ l. l) two.front) (flat_map (λ l. l) two.back) a b r (h two.front two.beside_front) (k two.back two.beside_back) f)

    -- the sets of all pieces of the members, put together, are what the union finds
    found_together :
        (pieces : List (List ℕ)) (searches : List (Result Search E)) (sets : List (Result (IndexSet (Vec ℕ) S) E)) (r : Result (IndexSet (Vec ℕ) S) E) →
        flat_map (λ l. l) pieces ≡ range_with_len 0 (length union) →
        AllZip (λ piece u. (e : Result Search E) × IfOk e (λ (s : Search). s.found.keys ≡ []) × Folds (λ a place b. IfOk b (GoesThrough union facts a place)) e piece u) pieces searches →
        AllZip (λ u v. IfOk v (IsFoundBy u)) searches sets →
        Reduces (λ e. IfOk e (λ (s : IndexSet (Vec ℕ) S). s.keys ≡ [])) (λ a b x. IfOk x (IsMerged a b)) sets r →
        IfOk r (λ (s : IndexSet (Vec ℕ) S). AreTuplesOf union facts (tuples_in s.keys))
    found_together pieces searches sets r whole folded shown reduced =
        let each_set : AllZip IsSetAt pieces sets = AllZip-through_middle _ _ IsSetAt (λ piece u v h k. set_of piece u v (piece_found piece u h) k) pieces searches sets folded shown in
        let made : IsMadeOf sets r = Reduces-elim _ _ IsMadeOf made_of_none (λ xs a x y h f. made_of_both xs (x ∷ []) a x y h (made_of_one x) f) made_of_both sets r reduced in
        IfOk-then r _ _ (subst (λ (l : List ℕ). IsSetAt l r) whole (made pieces each_set)) (λ (s : IndexSet (Vec ℕ) S) h. all_places (tuples_in s.keys) h)

    -- the same where the threads were lent the union and the facts
    pub found_by_lent :
        (lent_union : List Query) (lent_facts : List Atom) (pieces : List (List ℕ)) (searches : List (Result Search E)) (sets : List (Result (IndexSet (Vec ℕ) S) E)) (r : Result (IndexSet (Vec ℕ) S) E) →
        flat_map (λ l. l) pieces ≡ range_with_len 0 (length union) →
        AllZip (λ piece u. (e : Result Search E) × IfOk e (λ (s : Search). s.found.keys ≡ []) × Folds (λ a place b. IfOk b (GoesThrough lent_union lent_facts a place)) e piece u) pieces searches →
        AllZip (λ u v. IfOk v (IsFoundBy u)) searches sets →
        Reduces (λ e. IfOk e (λ (s : IndexSet (Vec ℕ) S). s.keys ≡ [])) (λ a b x. IfOk x (IsMerged a b)) sets r →
        lent_union ≡ union →
        lent_facts ≡ facts →
        IfOk r (λ (s : IndexSet (Vec ℕ) S). AreTuplesOf union facts (tuples_in s.keys))
    found_by_lent lent_union lent_facts pieces searches sets r whole folded shown reduced same_union same_facts =
        found_together pieces searches sets r whole
        (subst (λ (base : List Atom). AllZip (λ piece u. (e : Result Search E) × IfOk e (λ (s : Search). s.found.keys ≡ []) × Folds (λ a place b. IfOk b (GoesThrough union base a place)) e piece u) pieces searches) same_facts
        (subst (λ (members : List Query). AllZip (λ piece u. (e : Result Search E) × IfOk e (λ (s : Search). s.found.keys ≡ []) × Folds (λ a place b. IfOk b (GoesThrough members lent_facts a place)) e piece u) pieces searches) same_union folded))
        shown reduced
