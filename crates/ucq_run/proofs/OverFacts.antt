-- Answers over facts and over the atoms that they are made of.
use Rattle.std.proofs.Common.{◌≡◌, ◌<◌, ◌≤◌, ◌+◌, ℕ, Bool, true, false, List, [], ◌∷◌, ◌++◌, length, take, get_or, inl, inr, sym, subst, ap, arith, Contains, All}
use Rattle.std.proofs.lemmas.List.{length-append}
use Rattle.std.proofs.lemmas.List.Elements.{All-contains, All-more, Contains-append_left, Contains-append_right, Contains-append_cases}
use Rattle.std.proofs.lemmas.List.{take_more}
use Rattle.std.proofs.lemmas.List.Sums.{sum_by-append}
use Rattle.std.proofs.lemmas.Option.{get_or_from_slice_get, slice_get_within}
use Rattle.std.specs.Prelude.{Some, slice_get}
use Rattle.ucq_terms.specs.declared.Term.{Term}
use Rattle.ucq_terms.specs.Syntax.{Atom, HasEachOnce, Problem, Query, IsSubset, IsSameSet}
use Rattle.ucq_terms.specs.Homomorphism.{MapsInto}
use Rattle.ucq_terms.specs.Union.{IsExact}
use Rattle.ucq_terms.proofs.Lists.{All-from_contains, Any-contains, Any-from_contains, Contains-cons_cases, Contains-empty, Contains-first}
use Rattle.ucq_facts.specs.Facts.{DoesAdd}
use Rattle.ucq_eval.specs.Answers.{AreAnswers, IsAnswer, constants}
use Rattle.ucq_eval.specs.Laws.{AnswersAreChaseAnswers}
use Rattle.ucq_print.specs.Texts.{atom_count}
use Rattle.ucq_run.specs.Finished.{AreChaseAnswers, AreFactsOf}

-- ---- the same facts

in_subset : (xs ys : List Atom) (a : Atom) → IsSubset xs ys → Contains xs a → Contains ys a
in_subset xs ys a h c = All-contains (Contains ys) xs a h c

-- one atom more, held already or added
one_atom_more : (facts done new : List Atom) (a : Atom) (added : Bool) → IsSameSet facts done → DoesAdd facts a added new → IsSameSet new (done ++ a ∷ [])
one_atom_more facts done new a added same does = go added does
  where
    front : (x : Atom) → Contains facts x → Contains (done ++ a ∷ []) x
    front x c = Contains-append_left done (a ∷ []) x (in_subset facts done x same.0 c)

    whole : (all : List Atom) → ((x : Atom) → Contains facts x → Contains all x) → Contains all a → (x : Atom) → Contains (done ++ a ∷ []) x → Contains all x
    whole all keeps last x c = elim (Contains-append_cases done (a ∷ []) x c) [
      | inl i ↦ keeps x (in_subset done facts x same.1 i)
      | inr i ↦ elim (Contains-cons_cases a [] x i) [
        | inl e ↦ subst (λ (y : Atom). Contains all y) e last
        | inr j ↦ absurd (Contains-empty x j)
      ]
    ]

    go : (added : Bool) → DoesAdd facts a added new → IsSameSet new (done ++ a ∷ [])
    go true h =
        let keeps : (x : Atom) → Contains facts x → Contains new x = λ x c. subst (λ (all : List Atom). Contains all x) (sym h.1) (Contains-append_left facts (a ∷ []) x c) in
        let last : Contains new a = subst (λ (all : List Atom). Contains all a) (sym h.1) (Contains-append_right facts (a ∷ []) a (Contains-first a [])) in (
          All-from_contains (Contains (done ++ a ∷ [])) new (λ x c. elim (Contains-append_cases facts (a ∷ []) x (subst (λ (all : List Atom). Contains all x) h.1 c)) [
            | inl i ↦ front x i
            | inr i ↦ Contains-append_right done (a ∷ []) x i
          ]),
          All-from_contains (Contains new) (done ++ a ∷ []) (whole new keeps last),
        )
    go false h =
        let keeps : (x : Atom) → Contains facts x → Contains new x = λ x c. subst (λ (all : List Atom). Contains all x) (sym h.1) c in (
          All-from_contains (Contains (done ++ a ∷ [])) new (λ x c. front x (subst (λ (all : List Atom). Contains all x) h.1 c)),
          All-from_contains (Contains new) (done ++ a ∷ []) (whole new keeps (keeps a h.0)),
        )

pub one_fact_more : (facts done new : List Atom) (a : Atom) (added : Bool) → AreFactsOf done facts → DoesAdd facts a added new → AreFactsOf (done ++ a ∷ []) new
one_fact_more facts done new a added h does = record { same = one_atom_more facts done new a added h.same does }

pub one_longer : (facts new : List Atom) (a : Atom) (added : Bool) → DoesAdd facts a added new → length new ≤ length facts + 1
one_longer facts new a true does = let e = ap length does.1 in let l = length-append facts (a ∷ []) in omega arith
one_longer facts new a false does = let e = ap length does.1 in omega arith

-- ---- answers

maps_into_more : (q : Query) (xs ys : List Atom) (tuple : List Term) → IsSubset xs ys → MapsInto q xs tuple → MapsInto q ys tuple
maps_into_more q xs ys tuple h m = record {
  mapping = m.mapping;
  homomorphism = record {
    atoms = All-from_contains (Contains ys) _ (λ a c. in_subset xs ys a h (All-contains (Contains xs) _ a m.homomorphism.atoms c));
    answers = m.homomorphism.answers;
  };
}

answer_over_more : (union : List Query) (xs ys : List Atom) (tuple : List ℕ) → IsSubset xs ys → IsAnswer union xs tuple → IsAnswer union ys tuple
answer_over_more union xs ys tuple h a =
    let (q, c, m) = Any-contains (λ (q : Query). MapsInto q xs (constants tuple)) union a in
    Any-from_contains (λ (q : Query). MapsInto q ys (constants tuple)) union q c (maps_into_more q xs ys (constants tuple) h m)

-- the answers of an exact union over facts that are these atoms are those of the chase
pub answers_of_chase : AnswersAreChaseAnswers → (names : List (List ℕ)) (problem : Problem) (union : List Query) (facts atoms : List Atom) (tuples : List (List ℕ)) →
    AreFactsOf atoms facts → IsExact problem union → AreAnswers names union facts tuples → AreChaseAnswers names problem atoms tuples
answers_of_chase law names problem union facts atoms tuples same exact answers =
    let over : AreAnswers names union atoms tuples = record {
      each = λ t. (λ h. answer_over_more union facts atoms t same.same.0 ((answers.each t).0 h), λ h. (answers.each t).1 (answer_over_more union atoms facts t same.same.1 h));
      order = answers.order;
    } in
    record { each = law names problem union atoms tuples exact over; order = answers.order }

-- ---- counts

pub atoms_more : (union : List Query) (place : ℕ) (q : Query) → slice_get union place ≡ Some q → atom_count (take (place + 1) union) ≡ atom_count (take place union) + length q.atoms
atoms_more union place q at =
    let below : place < length union = slice_get_within union place q at in
    let is : get_or union place q ≡ q = get_or_from_slice_get union place q q at in
    let more : take (place + 1) union ≡ take place union ++ q ∷ [] = subst (λ (x : Query). take (place + 1) union ≡ take place union ++ x ∷ []) is (take_more union place q below) in
    let sum : atom_count (take place union ++ q ∷ []) ≡ atom_count (take place union) + (0 + length q.atoms) = sum_by-append (λ (q : Query). length q.atoms) (take place union) (q ∷ []) in
    let whole : atom_count (take (place + 1) union) ≡ atom_count (take place union ++ q ∷ []) = ap atom_count more in
    omega (arith, whole, sum)

-- and no atom stands twice in the members up to a place
pub once_more : (union : List Query) (place : ℕ) (q : Query) → slice_get union place ≡ Some q → All (λ (m : Query). HasEachOnce m.atoms) (take place union) → HasEachOnce q.atoms →
    All (λ (m : Query). HasEachOnce m.atoms) (take (place + 1) union)
once_more union place q at before here =
    let below : place < length union = slice_get_within union place q at in
    let is : get_or union place q ≡ q = get_or_from_slice_get union place q q at in
    All-more (λ (m : Query). HasEachOnce m.atoms) union place q below before (subst (λ (m : Query). HasEachOnce m.atoms) (sym is) here)
