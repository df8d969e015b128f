-- The tuples that the members of a union find, one member after another.
use Rattle.std.proofs.Common.{◌≡◌, ◌<◌, ◌+◌, inl, inr, sym, subst, List, [], ◌∷◌, ◌++◌, length, ℕ, get_or, take, map, Contains, Some}
use Rattle.std.specs.Prelude.{slice_get}
use Rattle.std.proofs.lemmas.List.{take_more}
use Rattle.std.proofs.lemmas.List.Elements.{Contains-append_left, Contains-append_right, Contains-append_cases}
use Rattle.std.proofs.lemmas.Option.{get_or_from_slice_get, slice_get_within}
use Rattle.ucq_terms.specs.declared.Term.TheVariants.{Constant}
use Rattle.ucq_terms.specs.Syntax.{Atom, Query}
use Rattle.ucq_terms.specs.Homomorphism.{MapsInto}
use Rattle.ucq_terms.proofs.Lists.{Any-contains, Any-from_contains, Contains-cons_cases, Contains-empty, Contains-first}
use Rattle.ucq_eval.specs.Answers.{AreAnswers, AreTuplesOf, IsAnswer}
use Rattle.ucq_eval.specs.Order.{AreInOrder}
use Rattle.ucq_eval.specs.inner.Join.{IsCollected}

-- before the first member
pub none_found : (facts : List Atom) → AreTuplesOf [] facts []
none_found facts = record {
  each = λ tuple. (
    λ h. absurd (Contains-empty tuple h),
    λ h. let (q, c, m) = Any-contains (λ (q : Query). MapsInto q facts (map Constant tuple)) [] h in absurd (Contains-empty q c),
  );
}

-- after one member more
pub one_member_more : (done : List Query) (q : Query) (facts : List Atom) (old new : List (List ℕ)) → AreTuplesOf done facts old → IsCollected q facts old new → AreTuplesOf (done ++ q ∷ []) facts new
one_member_more done q facts old new found collected = record { each = λ tuple. (forth tuple, back tuple) }
  where
    forth : (tuple : List ℕ) → Contains new tuple → IsAnswer (done ++ q ∷ []) facts tuple
    forth tuple h = elim ((collected.each tuple).0 h) [
      | inl held ↦
          let (x, c, m) = Any-contains (λ (q : Query). MapsInto q facts (map Constant tuple)) done ((found.each tuple).0 held) in
          Any-from_contains (λ (q : Query). MapsInto q facts (map Constant tuple)) (done ++ q ∷ []) x (Contains-append_left done (q ∷ []) x c) m
      | inr maps ↦ Any-from_contains (λ (q : Query). MapsInto q facts (map Constant tuple)) (done ++ q ∷ []) q (Contains-append_right done (q ∷ []) q (Contains-first q [])) maps
    ]

    back : (tuple : List ℕ) → IsAnswer (done ++ q ∷ []) facts tuple → Contains new tuple
    back tuple h =
        let (x, c, m) = Any-contains (λ (q : Query). MapsInto q facts (map Constant tuple)) (done ++ q ∷ []) h in
        elim (Contains-append_cases done (q ∷ []) x c) [
          | inl i ↦ (collected.each tuple).1 (inl ((found.each tuple).1 (Any-from_contains (λ (q : Query). MapsInto q facts (map Constant tuple)) done x i m)))
          | inr i ↦ elim (Contains-cons_cases q [] x i) [
            | inl e ↦ (collected.each tuple).1 (inr (subst (λ (y : Query). MapsInto y facts (map Constant tuple)) (sym e) m))
            | inr j ↦ absurd (Contains-empty x j)
          ]
        ]

-- the same of the members up to a place
pub member_at_place : (union : List Query) (place : ℕ) (q : Query) (facts : List Atom) (old new : List (List ℕ)) → slice_get union place ≡ Some q → AreTuplesOf (take place union) facts old → IsCollected q facts old new → AreTuplesOf (take (place + 1) union) facts new
member_at_place union place q facts old new at found collected =
    let below : place < length union = slice_get_within union place q at in
    let is : get_or union place q ≡ q = get_or_from_slice_get union place q q at in
    let more : take (place + 1) union ≡ take place union ++ q ∷ [] = subst (λ (x : Query). take (place + 1) union ≡ take place union ++ x ∷ []) is (take_more union place q below) in
    subst (λ (done : List Query). AreTuplesOf done facts new) (sym more) (one_member_more (take place union) q facts old new found collected)

-- the tuples found, in order, are the answers
pub in_order_are_answers : (names : List (List ℕ)) (union : List Query) (facts : List Atom) (found tuples : List (List ℕ)) → AreTuplesOf union facts found → AreInOrder names found tuples → AreAnswers names union facts tuples
in_order_are_answers names union facts found tuples all sorted = record {
  each = λ tuple. (λ h. (all.each tuple).0 ((sorted.same tuple).0 h), λ h. (sorted.same tuple).1 ((all.each tuple).1 h));
  order = sorted.order;
}
