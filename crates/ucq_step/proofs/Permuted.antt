-- Lists of the same members, each once, are one aggregate in two orders.
use Rattle.std.proofs.Common.{◌≡◌, ℕ, ◌<◌, List, length, AllPairs, Contains, get_or, inl, inr, refl, sym, ap, ◌∙◌, subst, arith}
use Rattle.std.specs.List.{enumerate_from}
use Rattle.std.proofs.Math.Decide.{ℕ_discrete}
use Rattle.std.proofs.lemmas.Bool.{cases_order}
use Rattle.std.proofs.lemmas.List.{get_or_default}
use Rattle.std.proofs.lemmas.List.Elements.{All-contains}
use Rattle.ucq_terms.specs.Syntax.{Rule, Query}
use Rattle.ucq_terms.specs.Unifier.{constant, places}
use Rattle.ucq_terms.specs.Rewriting.{Member, AreApart, IsMember, IsAggregate}
use Rattle.ucq_terms.proofs.Decide.{dec_map, dec_and, list_discrete}
use Rattle.ucq_terms.proofs.Distinct.{IsDistinct}
use Rattle.ucq_terms.proofs.Find.{find_place, find_place-holds, find_place-inside}
use Rattle.ucq_terms.proofs.Lists.{All-from_contains, first_element, length-positive}
use Rattle.ucq_terms.proofs.Members.{member_at, member_at-entry, entry_member, AreApart-sym}
use Rattle.ucq_terms.proofs.Pairwise.{AllPairs-at}
use Rattle.ucq_terms.proofs.Places.{Contains-places}
use Rattle.ucq_terms.proofs.Zips.{Contains-enumerate, Contains-from_enumerate}
use Rattle.ucq_step.proofs.Moved.{Moves, AreJoined-moved}
use Rattle.ucq_step.proofs.Renamed.{ArePermuted}

pair_path : (a b : ℕ × ℕ) → a.0 ≡ b.0 → a.1 ≡ b.1 → a ≡ b
pair_path a b p q = λ i. (p i, q i)

pair_discrete : Discrete (ℕ × ℕ)
pair_discrete a b =
    dec_map (λ p. pair_path a b p.0 p.1) (λ e. (ap (λ (p : ℕ × ℕ). p.0) e, ap (λ (p : ℕ × ℕ). p.1) e)) (dec_and (ℕ_discrete a.0 b.0) (ℕ_discrete a.1 b.1))

pub pairs_discrete : Discrete (List (ℕ × ℕ))
pairs_discrete = list_discrete pair_discrete

pub member_path : (a b : Member) → a.rule ≡ b.rule → a.pairs ≡ b.pairs → a ≡ b
member_path a b p q = λ i. record { rule = p i; pairs = q i }

pub member_discrete : Discrete Member
member_discrete a b =
    dec_map (λ p. member_path a b p.0 p.1) (λ e. (ap (λ (m : Member). m.rule) e, ap (λ (m : Member). m.pairs) e))
    (dec_and (ℕ_discrete a.rule b.rule) (pairs_discrete a.pairs b.pairs))

-- where a member stands in a list
place_in : List Member → Member → ℕ
place_in members m = find_place (λ n. n ≡ m) (λ n. member_discrete n m) members

place_in-entry : (members : List Member) (m : Member) → Contains members m → Contains {X = ℕ × Member} (enumerate_from 0 members) (place_in members m, m)
unfolding place_in
place_in-entry members m i =
    let k = find_place (λ n. n ≡ m) (λ n. member_discrete n m) members in
    let l = find_place-inside (λ n. n ≡ m) (λ n. member_discrete n m) members m i refl in
    subst (λ (n : Member). Contains {X = ℕ × Member} (enumerate_from 0 members) (k, n)) (find_place-holds (λ n. n ≡ m) (λ n. member_discrete n m) members m l)
    (Contains-enumerate members k m l)

-- a member stands at one place of a list that has it once
same_place : (members : List Member) (i j : ℕ) (m : Member) → IsDistinct members → Contains {X = ℕ × Member} (enumerate_from 0 members) (i, m) →
    Contains {X = ℕ × Member} (enumerate_from 0 members) (j, m) → i ≡ j
same_place members i j m d c k =
    let (l, e) = Contains-from_enumerate members (i, m) c in
    let (n, f) = Contains-from_enumerate members (j, m) k in
    elim (cases_order i j) [
      | inl s ↦ s
      | inr s ↦ elim s [
        | inl lt ↦ absurd (d i j m lt n (e ∙ sym f))
        | inr gt ↦ absurd (d j i m gt l (f ∙ sym e))
      ]
    ]

-- from a place of the first list to the place of its member in the second
pub move_to : List Member → List Member → ℕ → ℕ
move_to xs ys i = place_in ys (member_at xs i)

Moves-move_to : (xs ys : List Member) → ((m : Member) → Contains xs m → Contains ys m) → Moves (move_to xs ys) xs ys
unfolding move_to
Moves-move_to xs ys f = record {
  each = λ i m e.
      let (l, same) = member_at-entry xs i m e in
      subst (λ (n : Member). Contains {X = ℕ × Member} (enumerate_from 0 ys) (place_in ys n, m)) (sym same)
      (place_in-entry ys m (f m (entry_member xs i m e)));
}

home : (xs ys : List Member) → IsDistinct xs → ((m : Member) → Contains xs m → Contains ys m) → ((m : Member) → Contains ys m → Contains xs m) →
    (i : ℕ) (m : Member) → Contains {X = ℕ × Member} (enumerate_from 0 xs) (i, m) → move_to ys xs (move_to xs ys i) ≡ i
home xs ys d f g i m e =
    let there : Contains {X = ℕ × Member} (enumerate_from 0 ys) (move_to xs ys i, m) = (Moves-move_to xs ys f).each i m e in
    let back : Contains {X = ℕ × Member} (enumerate_from 0 xs) (move_to ys xs (move_to xs ys i), m) = (Moves-move_to ys xs g).each (move_to xs ys i) m there in
    same_place xs (move_to ys xs (move_to xs ys i)) i m d back e

-- Two lists with the same members, each once, are permuted.
pub ArePermuted-same_members : (xs ys : List Member) → IsDistinct xs → IsDistinct ys → ((m : Member) → Contains xs m → Contains ys m) →
    ((m : Member) → Contains ys m → Contains xs m) → ArePermuted (move_to xs ys) (move_to ys xs) xs ys
ArePermuted-same_members xs ys d e f g = record {
  forth = Moves-move_to xs ys f;
  back = Moves-move_to ys xs g;
  home = home xs ys d f g;
  home_too = home ys xs e g f;
}

-- members that are pairwise apart are pairwise different
pub IsDistinct-members : (q : Query) (rules : List Rule) (members : List Member) → IsAggregate q rules members → IsDistinct members
IsDistinct-members q rules members A = λ i j d l m e.
    let M : IsMember q rules (get_or members j d) = A.each j d m in
    let (pair, c) = first_element (get_or members j d).pairs M.single.unifier.matching.nonempty in
    let place : Contains (places (get_or members j d).pairs) pair.0 = Contains-places (get_or members j d).pairs pair c in
    A.apart i j d l m pair.0 (subst (λ (n : Member). Contains (places n.pairs) pair.0) (sym e) place) place

-- An aggregate in another order is an aggregate.
module _ (q : Query) (rules : List Rule) (move return : ℕ → ℕ) (xs ys : List Member) (P : ArePermuted move return xs ys) (A : IsAggregate q rules xs) where
  member_from : (m : Member) → Contains ys m → Contains xs m
  member_from m (i, l, e) =
      let c : Contains {X = ℕ × Member} (enumerate_from 0 ys) (i, m) =
      subst (λ (n : Member). Contains {X = ℕ × Member} (enumerate_from 0 ys) (i, n)) e (Contains-enumerate ys i m l) in
      entry_member xs (return i) m (P.back.each i m c)

  some_member : 0 < length ys
  some_member =
      let (m, (i, l, e)) = first_element xs A.nonempty in
      let c : Contains {X = ℕ × Member} (enumerate_from 0 xs) (i, m) =
      subst (λ (n : Member). Contains {X = ℕ × Member} (enumerate_from 0 xs) (i, n)) e (Contains-enumerate xs i m l) in
      length-positive ys m (entry_member ys (move i) m (P.forth.each i m c))

  apart_after : AllPairs AreApart ys
  apart_after = λ i j d l m.
      let c : Contains {X = ℕ × Member} (enumerate_from 0 ys) (i, get_or ys i d) = Contains-enumerate ys i d (omega arith) in
      let k : Contains {X = ℕ × Member} (enumerate_from 0 ys) (j, get_or ys j d) = Contains-enumerate ys j d m in
      let (a, e) = Contains-from_enumerate xs (return i, get_or ys i d) (P.back.each i (get_or ys i d) c) in
      let (b, f) = Contains-from_enumerate xs (return j, get_or ys j d) (P.back.each j (get_or ys j d) k) in
      let differ : ¬ (return i ≡ return j) = λ s.
      let same : i ≡ j = sym (P.home_too i (get_or ys i d) c) ∙ (ap move s ∙ P.home_too j (get_or ys j d) k) in
      omega arith in
      let x : get_or xs (return i) d ≡ get_or ys i d = get_or_default xs (return i) d (get_or ys i d) a ∙ e in
      let y : get_or xs (return j) d ≡ get_or ys j d = get_or_default xs (return j) d (get_or ys j d) b ∙ f in
      subst (λ (n : Member). AreApart n (get_or ys j d)) x
      (subst (λ (n : Member). AreApart (get_or xs (return i) d) n) y
      (AllPairs-at AreApart xs (return i) (return j) d AreApart-sym A.apart a b differ))

  pub IsAggregate-permuted : IsAggregate q rules ys
  IsAggregate-permuted = record {
    nonempty = some_member;
    each = All-from_contains (IsMember q rules) ys (λ m c. All-contains (IsMember q rules) xs m A.each (member_from m c));
    apart = apart_after;
    no_clash = λ c d j. A.no_clash c d (AreJoined-moved q rules return ys xs P.back (constant c) (constant d) j);
  }
