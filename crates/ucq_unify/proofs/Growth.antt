-- What a growing choice is to the piece-unifiers that have its pairs.
use Rattle.std.proofs.Common.{◌≡◌, ◌≢◌, ℕ, zero, suc, ◌<◌, ◌≤◌, Bool, true, false, not, List, length, Option, None, ◌⊎◌, Contains, refl, sym, ap, ◌∙◌, subst, inl, inr, ⊎_elim, arith}
use Rattle.std.proofs.Math.Decide.{ℕ_discrete}
use Rattle.std.specs.List.Sorted.{IsStrictlyIncreasing}
use Rattle.std.proofs.lemmas.List.Kept.{IsStrictlyIncreasing-filter}
use Rattle.ucq_terms.proofs.Lists.{map-filter}
use Rattle.std.proofs.lemmas.Bool.{cases_Bool}
use Rattle.ucq_terms.specs.declared.Term.TheVariants.{Variable}
use Rattle.ucq_terms.specs.Syntax.{Atom, Query, Rule, OccursIn}
use Rattle.ucq_terms.specs.Chase.{IsExistential}
use Rattle.ucq_terms.specs.Unifier.{Node, constant, of_query, of_copy, atom_at, places, is_place, unmatched, links, AreJoined, KeepsPredicate, IsSeparating, IsNonSeparating, IsPieceUnifier, IsSinglePiece, HasNoClash}
use Rattle.ucq_terms.proofs.Classes.{AreJoined-more, AreJoined-end}
use Rattle.ucq_terms.proofs.Decide.{dec_contains}
use Rattle.ucq_terms.proofs.Lists.{Contains-filter, Contains-from_filter, length-positive, first_element}
use Rattle.ucq_terms.proofs.Matched.{Contains-from_links, Contains-links, link_right, link_not_copy}
use Rattle.ucq_terms.proofs.Places.{Contains-from_places, Contains-places, Contains-unmatched, Contains-from_unmatched, place_from_true, true_from_place}
use Rattle.ucq_terms.proofs.Subsets.{OccursIn-from_atom, OccursIn-atom}
use Rattle.ucq_terms.proofs.Touched.{Touches, touches_too, touches_from, passing, passing_unifies, passes_too}
use Rattle.ucq_unify.specs.inner.Growing.{pairs_of, head_at, with_head, ChoosesAmong, IsAlike, IsGrown, Clashes, HasClash, IsCalledFor}
use Rattle.ucq_unify.proofs.Connected.{connected_single}
use Rattle.ucq_unify.proofs.Choices.{head-no_place, with_head-cases, with_head-older, with_head-newest, Rises, rises_from_rising, pairs_rise, same_pair, same_pairs}

-- Tests that are true together are equal.
same_true : (a b : Bool) → (a ≡ true → b ≡ true) → (b ≡ true → a ≡ true) → a ≡ b
same_true true b h k = sym (h refl)
same_true false true h k = k refl
same_true false false h k = refl

-- the links of some pairs are among those of more pairs
pub links_more : (q : Query) (rule : Rule) (part pairs : List (ℕ × ℕ)) → ((pair : ℕ × ℕ) → Contains part pair → Contains pairs pair) →
    (l : Node × Node) → Contains (links q 0 rule part) l → Contains (links q 0 rule pairs) l
links_more q rule part pairs f l c =
    let r = Contains-from_links q 0 rule part l c in
    let k = r.2 in
    subst (λ (z : Node × Node). Contains (links q 0 rule pairs) z) (λ i. (k.left_is i, k.right_is i))
    (Contains-links q 0 rule pairs r.0 k.left k.right (f r.0 r.1) k.at)

-- what the choice joins is joined in each list that has its pairs
pub joined_within : (q : Query) (rule : Rule) (choice : List (Option ℕ)) (pairs : List (ℕ × ℕ)) → ChoosesAmong choice pairs → {x y : Node} →
    AreJoined (links q 0 rule (pairs_of choice)) x y → AreJoined (links q 0 rule pairs) x y
joined_within q rule choice pairs w j = AreJoined-more (links_more q rule (pairs_of choice) pairs w.each) j

-- A grown choice that is a piece-unifier is a single piece.
pub grown_single : (q : Query) (rule : Rule) (root : ℕ) (choice : List (Option ℕ)) → IsGrown q rule root choice → IsPieceUnifier q rule (pairs_of choice) →
    IsSinglePiece q rule (pairs_of choice)
grown_single q rule root choice g U =
    let P = pairs_of choice in
    let all : ChoosesAmong choice P = record { each = λ p c. c } in
    let (first, i) = first_element P U.matching.nonempty in
    connected_single q rule P U (record {
      root = first;
      rooted = i;
      together = λ f a p c. g.together P f U all a p c ∙ sym (g.together P f U all a first i);
    })

-- A single piece that has the pairs of a choice that is a piece-unifier has no others.
module _ (q : Query) (rule : Rule) (choice : List (Option ℕ)) (U : IsPieceUnifier q rule (pairs_of choice)) (piece : List (ℕ × ℕ))
    (S : IsSinglePiece q rule piece) (w : ChoosesAmong choice piece) where
  chosen : ℕ → Bool
  chosen place = is_place (pairs_of choice) place

  abbrev Front : List (ℕ × ℕ)
  Front = passing chosen piece

  piece_rises : Rises piece
  piece_rises = rises_from_rising piece S.unifier.matching.rising

  in_choice : (p : ℕ × ℕ) → Contains piece p → chosen p.0 ≡ true → Contains (pairs_of choice) p
  unfolding chosen
  in_choice p c t =
      let (r, i, e) = Contains-from_places (pairs_of choice) p.0 (place_from_true (pairs_of choice) p.0 t) in
      subst (λ (z : ℕ × ℕ). Contains (pairs_of choice) z) (same_pair piece r p piece_rises (w.each r i) c e) i

  is_chosen : (p : ℕ × ℕ) → Contains (pairs_of choice) p → chosen p.0 ≡ true
  unfolding chosen
  is_chosen p c = true_from_place (pairs_of choice) p.0 (Contains-places (pairs_of choice) p c)

  front_to : (p : ℕ × ℕ) → Contains Front p → Contains (pairs_of choice) p
  front_to p c = let (i, t) = Contains-from_filter (λ (z : ℕ × ℕ). chosen z.0) piece p c in in_choice p i t

  front_from : (p : ℕ × ℕ) → Contains (pairs_of choice) p → Contains Front p
  front_from p c = Contains-filter (λ (z : ℕ × ℕ). chosen z.0) piece p (w.each p c) (is_chosen p c)

  front_rises : Rises Front
  front_rises =
      rises_from_rising Front (subst (λ (l : List ℕ). IsStrictlyIncreasing l) (sym (map-filter (λ (p : ℕ × ℕ). p.0) chosen piece))
      (IsStrictlyIncreasing-filter chosen (places piece) S.unifier.matching.rising))

  front_unifies : IsPieceUnifier q rule Front
  front_unifies =
      subst (IsPieceUnifier q rule) (same_pairs (pairs_of choice) Front (rises_from_rising (pairs_of choice) (pairs_rise choice)) front_rises front_from front_to) U

  alike : (a b : ℕ × ℕ) (u : ℕ) → Contains piece a → Contains piece b → Touches q rule a u → Touches q rule b u → chosen a.0 ≡ chosen b.0
  alike a b u c d s t =
      same_true (chosen a.0) (chosen b.0) (λ e. passes_too q rule piece chosen S.unifier.matching.each front_unifies a b u c d s t e)
      (λ e. passes_too q rule piece chosen S.unifier.matching.each front_unifies b a u d c t s e)

  none_left : (p : ℕ × ℕ) → Contains piece p → chosen p.0 ≡ true
  none_left p c = elim (cases_Bool (chosen p.0)) [
    | inl e ↦ e
    | inr e ↦
        let some : 0 < length (passing (λ place. not (chosen place)) piece) =
        length-positive (passing (λ place. not (chosen place)) piece) p (Contains-filter (λ (z : ℕ × ℕ). not (chosen z.0)) piece p c (ap not e)) in
        absurd (S.whole chosen front_unifies
        (passing_unifies q rule piece (λ place. not (chosen place)) S.unifier (λ a b u i j s t. ap not (alike a b u i j s t)) some))
  ]

  pub piece_is_choice : piece ≡ pairs_of choice
  piece_is_choice =
      same_pairs piece (pairs_of choice) piece_rises (rises_from_rising (pairs_of choice) (pairs_rise choice))
      (λ z i. in_choice z i (none_left z i)) w.each

-- A piece-unifier that has the choice's pairs has a pair at each place that they call for.
pub called_for : (q : Query) (rule : Rule) (choice : List (Option ℕ)) (place : ℕ) (pairs : List (ℕ × ℕ)) → IsPieceUnifier q rule pairs →
    ChoosesAmong choice pairs → place < length q.atoms → IsCalledFor q rule choice place → (head : ℕ) × Contains {X = ℕ × ℕ} pairs (place, head)
called_for q rule choice place pairs U w l c = elim (dec_contains ℕ_discrete (places pairs) place) [
  | yes i ↦
      let (pair, j, e) = Contains-from_places pairs place i in
      let same : pair ≡ (place, pair.1) = λ k. (e k, pair.1) in
      (pair.1, subst (λ (p : ℕ × ℕ). Contains pairs p) same j)
  | no n ↦
      let p = c.private_variable in
      let u = c.variable in
      ⊎_elim (λ e. cc) (λ (z : ¬ IsSeparating q pairs u). absurd (z (inl
      (OccursIn-from_atom (unmatched q pairs) (Variable u) (atom_at q.atoms place) (Contains-unmatched q pairs place l n) c.there))))
      (U.existential p.variable (of_query u) p.existential (joined_within q rule choice pairs w p.joined))
]

-- constants that the choice's pairs join are joined by all piece-unifiers that have them
pub unlike_blocks : (q : Query) (rule : Rule) (choice : List (Option ℕ)) (pairs : List (ℕ × ℕ)) → (HasNoClash (links q 0 rule (pairs_of choice)) → ⊥) →
    IsPieceUnifier q rule pairs → ChoosesAmong choice pairs → ⊥
unlike_blocks q rule choice pairs h U w = h (λ c d j. U.no_clash c d (joined_within q rule choice pairs w j))

-- a clash of the choice's pairs is one of all piece-unifiers that have them
pub clash_blocks : (q : Query) (rule : Rule) (choice : List (Option ℕ)) (pairs : List (ℕ × ℕ)) → HasClash q rule (links q 0 rule (pairs_of choice)) → IsPieceUnifier q rule pairs →
    ChoosesAmong choice pairs → ⊥
clash_blocks q rule choice pairs h U w = go h.left h.right (joined_within q rule choice pairs w h.joined) h.clashes
  where
    copies : (v n w : ℕ) → (of_copy n w ≡ of_copy 0 v) ⊎ IsNonSeparating q pairs (of_copy n w) → v ≢ w → ⊥
    copies v n w (inl e) d = let f : v ≡ w = cc in d f
    copies v n w (inr p) d = p

    go : (x y : Node) → AreJoined (links q 0 rule pairs) x y → Clashes q rule x y → ⊥
    go (constant c) (constant d) j k = k (U.no_clash c d j)
    go (constant c) (of_query u) j k = k
    go (constant c) (of_copy n w) j k = k
    go (of_query u) y j k = k
    go (of_copy zero v) (constant d) j k = ⊎_elim (λ e. cc) (λ p. p) (U.existential v (constant d) k j)
    go (of_copy zero v) (of_query u) j k = ⊎_elim (λ e. cc) (λ (p : ¬ IsSeparating q pairs u). p (inr k.1)) (U.existential v (of_query u) k.0 j)
    go (of_copy zero v) (of_copy n w) j k = copies v n w (U.existential v (of_copy n w) k.0 j) k.1
    go (of_copy (suc m) v) y j k = k

-- a choice without pairs that clash, which calls for no further place, is a piece-unifier
pub closed_unifies : (q : Query) (rule : Rule) (root : ℕ) (choice : List (Option ℕ)) → IsGrown q rule root choice → 0 < length (pairs_of choice) →
    ((x y : Node) → AreJoined (links q 0 rule (pairs_of choice)) x y → Clashes q rule x y → ⊥) →
    ((place : ℕ) → place < length q.atoms → head_at choice place ≡ None → IsCalledFor q rule choice place → ⊥) → IsPieceUnifier q rule (pairs_of choice)
closed_unifies q rule root choice g some clear closed = record {
  matching = record { nonempty = some; rising = pairs_rise choice; each = g.keeps };
  no_clash = λ c d j. elim (ℕ_discrete c d) [ yes e ↦ e | no n ↦ absurd (clear (constant c) (constant d) j n) ];
  existential = λ v x e j. existential v x e j;
}
  where
    at_copy : (v m w : ℕ) → IsExistential rule v → AreJoined (links q 0 rule (pairs_of choice)) (of_copy 0 v) (of_copy m w) →
        (of_copy 0 v ≡ of_copy m w) ⊎ ((z : Node) × (Contains (links q 0 rule (pairs_of choice)) (z, of_copy m w) ⊎ Contains (links q 0 rule (pairs_of choice)) (of_copy m w, z))) →
        of_copy m w ≡ of_copy 0 v
    at_copy v m w e j (inl r) = sym r
    at_copy v m w e j (inr r) = ⊎_elim
        (λ c. let o = link_right q 0 rule (pairs_of choice) r.0 m w g.keeps c in
        elim (ℕ_discrete v w) [ yes d ↦ let k : m ≡ 0 = o.0 in cc | no n ↦ absurd (clear (of_copy 0 v) (of_copy m w) j (e, n)) ])
        (λ c. absurd (link_not_copy q 0 rule (pairs_of choice) r.0 m w c)) r.1

    apart : (v u : ℕ) → IsExistential rule v → AreJoined (links q 0 rule (pairs_of choice)) (of_copy 0 v) (of_query u) →
        OccursIn (unmatched q (pairs_of choice)) (Variable u) → ⊥
    apart v u e j o =
        let a = OccursIn-atom (unmatched q (pairs_of choice)) (Variable u) o in
        let m = Contains-from_unmatched q (pairs_of choice) a.0 a.1 in
        closed m.0 m.1 (head-no_place choice m.0 m.3)
        (record {
          variable = u;
          private_variable = record { variable = v; existential = e; joined = j };
          there = subst (λ (b : Atom). Contains b.terms (Variable u)) (sym m.2) a.2;
        })

    existential : (v : ℕ) (x : Node) → IsExistential rule v → AreJoined (links q 0 rule (pairs_of choice)) (of_copy 0 v) x →
        (x ≡ of_copy 0 v) ⊎ IsNonSeparating q (pairs_of choice) x
    existential v (constant c) e j = absurd (clear (of_copy 0 v) (constant c) j e)
    existential v (of_query u) e j = inr (λ s. ⊎_elim (λ o. apart v u e j o) (λ a. clear (of_copy 0 v) (of_query u) j (e, a)) s)
    existential v (of_copy m w) e j = inl (at_copy v m w e j (AreJoined-end j))

-- A choice grows by a head for a place that it calls for.
pub grown_more : (q : Query) (rule : Rule) (root : ℕ) (choice : List (Option ℕ)) (place head : ℕ) → IsGrown q rule root choice → root ≤ place →
    head_at choice place ≡ None → place < length choice → IsCalledFor q rule choice place → KeepsPredicate q rule (place, head) →
    IsGrown q rule root (with_head choice place head)
grown_more q rule root choice place head g r free l c k = record {
  root_least = record {
    each = λ pair i. ⊎_elim (λ e. subst (λ (p : ℕ × ℕ). root ≤ p.0) (sym e) r) (λ j. g.root_least.each pair j) (with_head-cases choice place head pair i);
  };
  keeps = λ pair i. ⊎_elim (λ e. subst (KeepsPredicate q rule) (sym e) k) (λ j. g.keeps pair j) (with_head-cases choice place head pair i);
  together = λ pairs f U w a pair i. together pairs f U w a pair (with_head-cases choice place head pair i);
}
  where
    older : (pairs : List (ℕ × ℕ)) → ChoosesAmong (with_head choice place head) pairs → ChoosesAmong choice pairs
    older pairs w = record { each = λ p i. w.each p (with_head-older choice place head p free i) }

    newest : (pairs : List (ℕ × ℕ)) (f : ℕ → Bool) → IsPieceUnifier q rule pairs → ChoosesAmong (with_head choice place head) pairs → IsAlike q rule pairs f →
        f place ≡ f root
    newest pairs f U w a =
        let v = c.private_variable.variable in
        let u = c.variable in
        let e = c.private_variable.existential in
        let o = older pairs w in
        let i = w.each (place, head) (with_head-newest choice place head l) in
        let far = joined_within q rule choice pairs o c.private_variable.joined in
        let t = touches_too q rule pairs U v u (place, head) e far i c.there in
        let (b, j, s) = touches_from q rule pairs U (pairs_of choice) o.each (links_more q rule (pairs_of choice) pairs o.each) v u e c.private_variable.joined in
        a.same (place, head) b u i (o.each b j) t s ∙ g.together pairs f U o a b j

    together : (pairs : List (ℕ × ℕ)) (f : ℕ → Bool) → IsPieceUnifier q rule pairs → ChoosesAmong (with_head choice place head) pairs → IsAlike q rule pairs f →
        (pair : ℕ × ℕ) → (pair ≡ (place, head)) ⊎ Contains (pairs_of choice) pair → f pair.0 ≡ f root
    together pairs f U w a pair (inl e) = ap (λ (p : ℕ × ℕ). f p.0) e ∙ newest pairs f U w a
    together pairs f U w a pair (inr i) = g.together pairs f U (older pairs w) a pair i

-- and from nothing by a head for the root
pub grown_first : (q : Query) (rule : Rule) (root head : ℕ) (choice : List (Option ℕ)) → ((pair : ℕ × ℕ) → Contains (pairs_of choice) pair → ⊥) →
    KeepsPredicate q rule (root, head) → IsGrown q rule root (with_head choice root head)
grown_first q rule root head choice none k = record {
  root_least = record { each = λ pair i. subst (λ (p : ℕ × ℕ). root ≤ p.0) (sym (only pair i)) (omega arith) };
  keeps = λ pair i. subst (KeepsPredicate q rule) (sym (only pair i)) k;
  together = λ pairs f U w a pair i. ap (λ (p : ℕ × ℕ). f p.0) (only pair i);
}
  where
    only : (pair : ℕ × ℕ) → Contains (pairs_of (with_head choice root head)) pair → pair ≡ (root, head)
    only pair i = ⊎_elim (λ e. e) (λ j. absurd (none pair j)) (with_head-cases choice root head pair i)
