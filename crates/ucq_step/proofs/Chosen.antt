-- Each aggregate is, but for the order of its members, a rising choice of places among all single pieces.
use Rattle.std.proofs.Common.{◌≡◌, ◌≢◌, ℕ, ◌+◌, ◌<◌, Bool, List, [], ◌∷◌, length, filter, All, AllPairs, Contains, get_or, sym, ap, ◌∙◌, subst, arith}
use Rattle.std.proofs.lemmas.List.{get_or_default}
use Rattle.std.proofs.lemmas.List.Elements.{All-contains}
use Rattle.std.proofs.lemmas.List.FromFn.{length-range_with_len, get_or-range_with_len}
use Rattle.std.proofs.lemmas.List.Kept.{AllPairs-from_increasing, IsStrictlyIncreasing-filter}
use Rattle.std.specs.List.{range_with_len}
use Rattle.std.specs.List.Sorted.{IsStrictlyIncreasing}
use Rattle.ucq_terms.specs.Syntax.{Rule, Query}
use Rattle.ucq_terms.specs.Unifier.{IsSinglePiece}
use Rattle.ucq_terms.specs.Rewriting.{Member, rule_at, IsMember, IsAggregate, UsesOnly}
use Rattle.ucq_terms.proofs.Decide.{dec_contains, to_bool, from_to_bool, to_bool-true}
use Rattle.ucq_terms.proofs.Distinct.{IsDistinct}
use Rattle.ucq_terms.proofs.Lists.{Contains-map, Contains-from_map, Contains-filter, Contains-from_filter, All-from_contains}
use Rattle.ucq_terms.proofs.Pairwise.{AllPairs-map}
use Rattle.ucq_unify.specs.Pieces.{AreSinglePieces}
use Rattle.ucq_join.specs.Walk.{piece_member, members_at, IsJoin}
use Rattle.ucq_step.proofs.Renamed.{ArePermuted}
use Rattle.ucq_step.proofs.Permuted.{member_path, member_discrete, move_to, ArePermuted-same_members, IsDistinct-members, IsAggregate-permuted}

-- the numbers below a bound
below : ℕ → List ℕ
below n = range_with_len 0 n

below-at : (n k d : ℕ) → k < n → get_or (below n) k d ≡ k
unfolding below
below-at n k d l = let e = get_or-range_with_len 0 n k d l in omega (arith, e)

length-below : (n : ℕ) → length (below n) ≡ n
unfolding below
length-below n = length-range_with_len 0 n

Contains-below : (n k : ℕ) → k < n → Contains (below n) k
Contains-below n k l = (k, omega (arith, length-below n, l), below-at n k k l)

Contains-from_below : (n k : ℕ) → Contains (below n) k → k < n
Contains-from_below n k (i, l, e) =
    let m : i < n = omega (arith, length-below n, l) in
    let f : get_or (below n) i k ≡ i = below-at n i k m in
    omega (arith, m, e, f)

IsStrictlyIncreasing-below : (n : ℕ) → IsStrictlyIncreasing (below n)
IsStrictlyIncreasing-below n = λ k l.
    let m : k + 1 < n = omega (arith, length-below n, l) in
    let e : get_or (below n) k 0 ≡ k = below-at n k 0 (omega arith) in
    let f : get_or (below n) (k + 1) 0 ≡ k + 1 = below-at n (k + 1) 0 m in
    omega (arith, e, f)

-- different places of pieces, each of which is there once, have different members
pub IsDistinct-members_at : (pieces : List (List (ℕ × ℕ))) (places : List ℕ) → AllPairs (λ (a b : List (ℕ × ℕ)). a ≢ b) pieces →
    AllPairs (λ (a b : ℕ). a < b) places → All (λ p. p < length pieces) places → IsDistinct (members_at pieces places)
IsDistinct-members_at pieces places once rising within =
    AllPairs-map (λ (a b : Member). a ≢ b) (piece_member pieces) places
    (λ i j d l m e. once (get_or places i d) (get_or places j d) [] (rising i j d l m) (within j d m)
    (ap (λ (n : Member). n.pairs) e))

module _ (q : Query) (rule : Rule) (pieces : List (List (ℕ × ℕ))) (S : AreSinglePieces q rule pieces) (members : List Member)
    (uses : UsesOnly 0 members) (A : IsAggregate q (rule ∷ []) members) where
  is_chosen : ℕ → Bool
  is_chosen p = to_bool (dec_contains member_discrete members (piece_member pieces p))

  -- the places of the pieces that are members
  pub chosen_places : List ℕ
  chosen_places = filter is_chosen (below (length pieces))

  chosen_is_member : (p : ℕ) → Contains chosen_places p → (p < length pieces) × Contains members (piece_member pieces p)
  unfolding chosen_places is_chosen
  chosen_is_member p c =
      let (i, e) = Contains-from_filter is_chosen (below (length pieces)) p c in
      (Contains-from_below (length pieces) p i, from_to_bool (dec_contains member_discrete members (piece_member pieces p)) e)

  member_is_chosen : (p : ℕ) → p < length pieces → Contains members (piece_member pieces p) → Contains chosen_places p
  unfolding chosen_places is_chosen
  member_is_chosen p l c =
      Contains-filter is_chosen (below (length pieces)) p (Contains-below (length pieces) p l)
      (to_bool-true (dec_contains member_discrete members (piece_member pieces p)) c)

  chosen_within : All (λ p. p < length pieces) chosen_places
  chosen_within = All-from_contains (λ p. p < length pieces) chosen_places (λ p c. (chosen_is_member p c).0)

  chosen_rising : AllPairs (λ (a b : ℕ). a < b) chosen_places
  unfolding chosen_places
  chosen_rising =
      AllPairs-from_increasing (filter is_chosen (below (length pieces)))
      (IsStrictlyIncreasing-filter is_chosen (below (length pieces)) (IsStrictlyIncreasing-below (length pieces)))

  to_chosen : (m : Member) → Contains members m → Contains (members_at pieces chosen_places) m
  to_chosen m c =
      let zero_rule : m.rule ≡ 0 = All-contains (λ (m : Member). m.rule ≡ 0) members m uses c in
      let M : IsMember q (rule ∷ []) m = All-contains (IsMember q (rule ∷ [])) members m A.each c in
      let (k, l, e) = S.all m.pairs (subst (λ n. IsSinglePiece q (rule_at (rule ∷ []) n) m.pairs) zero_rule M.single) in
      let same : piece_member pieces k ≡ m = member_path (piece_member pieces k) m (sym zero_rule) (get_or_default pieces k [] m.pairs l ∙ e) in
      subst (λ (n : Member). Contains (members_at pieces chosen_places) n) same
      (Contains-map (piece_member pieces) chosen_places k (member_is_chosen k l (subst (λ (n : Member). Contains members n) (sym same) c)))

  from_chosen : (m : Member) → Contains (members_at pieces chosen_places) m → Contains members m
  from_chosen m c =
      let (p, i, e) = Contains-from_map (piece_member pieces) chosen_places m c in
      subst (λ (n : Member). Contains members n) e (chosen_is_member p i).1

  -- the same members in order of place
  pub chosen_permuted : ArePermuted (move_to members (members_at pieces chosen_places)) (move_to (members_at pieces chosen_places) members) members (members_at pieces chosen_places)
  chosen_permuted =
      ArePermuted-same_members members (members_at pieces chosen_places) (IsDistinct-members q (rule ∷ []) members A)
      (IsDistinct-members_at pieces chosen_places S.once chosen_rising chosen_within) to_chosen from_chosen

  pub chosen_join : IsJoin q rule pieces chosen_places
  chosen_join = record {
    rising = chosen_rising;
    within = λ p c. (chosen_is_member p c).0;
    aggregate = IsAggregate-permuted q (rule ∷ []) _ _ members (members_at pieces chosen_places) chosen_permuted A;
  }
