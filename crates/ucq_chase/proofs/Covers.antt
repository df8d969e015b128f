-- A query that covers another covers the other's rewritings, itself or by a rewriting of its own.
use Rattle.std.proofs.Common.{◌≡◌, ℕ, ◌<◌, ◌≤◌, List, length, ◌⊎◌, Contains, refl, sym, ap, ◌∙◌, subst, inl, inr, ⊎_elim, arith}
use Rattle.std.specs.List.{enumerate_from}
use Rattle.std.proofs.Math.Decide.{ℕ_discrete}
use Rattle.std.proofs.lemmas.Bool.{cases_lt}
use Rattle.std.proofs.lemmas.List.Elements.{Contains-get_or}
use Rattle.ucq_terms.specs.declared.Term.{Term}
use Rattle.ucq_terms.specs.declared.Term.TheVariants.{Constant, Variable}
use Rattle.ucq_terms.specs.Syntax.{Atom, Rule, Query, IsSubset, term_image, terms_image, atom_image, atoms_image}
use Rattle.ucq_terms.specs.Homomorphism.{MapsInto, Covers, IsHomomorphism}
use Rattle.ucq_terms.specs.Chase.{IsExistential}
use Rattle.ucq_terms.specs.Unifier.{Node, constant, of_copy, query_node, copy_node, atom_at, places, unmatched, alone, forth}
use Rattle.ucq_terms.specs.Unifier.{KeepsPredicate, IsMatching, IsSeparating, IsNonSeparating, IsPieceUnifier}
use Rattle.ucq_terms.specs.Rewriting.{Member, rule_at, all_pairs, AreApart, UsesOnly, Rewrites, IsOneStepWith}
use Rattle.ucq_chase.specs.Laws.{CoversIsKept}
use Rattle.ucq_terms.proofs.Decide.{atom_path, atom_discrete, dec_contains}
use Rattle.ucq_terms.proofs.Images.{composite, terms_image-composite, atom_image-composite, IsSubset-from_image, IsSubset-image}
use Rattle.ucq_terms.proofs.Lists.{Contains-map, length-positive}
use Rattle.ucq_terms.proofs.Matched.{AreBeside, Fits, maps_unify, KeepsPredicate-from_fits}
use Rattle.ucq_terms.proofs.Pairwise.{AllPairs-at}
use Rattle.ucq_terms.proofs.Places.{place_of, Contains-from_places, Contains-places, Contains-unmatched, Contains-from_unmatched}
use Rattle.ucq_terms.proofs.Subsets.{OccursIn-from_atom, OccursIn-atom}
use Rattle.ucq_terms.proofs.Zips.{map-same_zip, Contains-enumerate}
use Rattle.ucq_chase.proofs.Choice.{IsChoice, choose}
use Rattle.ucq_terms.proofs.Find.{find_place, find_place-holds, find_place-inside, some_positive}
use Rattle.ucq_chase.proofs.Joined.{unifiers_map}
use Rattle.ucq_terms.proofs.Members.{member_at, member_at-entry, matched_at, Contains-all_links, AreApart-sym, entry_unifier, class_of_existential}
use Rattle.ucq_terms.proofs.Parts.{query_names, copy_names, term_image-query_names, term_image-copy_names, body_in, unmatched_in, answers_named}
use Rattle.ucq_terms.proofs.Split.{AreDisjoint}

-- the members with the rule of that number
module _ (rules : List Rule) (number : ℕ) (b result : Query) (members : List Member) (uses : UsesOnly number members)
    (R : Rewrites b rules members result) where
  abbrev rule : Rule
  rule = rule_at rules number

  of_number : (i : ℕ) → i < length members → (member_at members i).rule ≡ number
  of_number i l = uses i _ l

  entry : (i : ℕ) → i < length members → Contains {X = ℕ × Member} (enumerate_from 0 members) (i, member_at members i)
  entry i l = Contains-enumerate members i _ l

  unifier_at : (i : ℕ) → i < length members → IsPieceUnifier b rule (member_at members i).pairs
  unifier_at i l =
      subst (λ n. IsPieceUnifier b (rule_at rules n) (member_at members i).pairs) (of_number i l)
      (entry_unifier b rules members i (member_at members i) R.aggregate (entry i l))

  -- where the members' copies go
  abbrev place : ℕ → ℕ → Term
  place = copy_names R.name

  -- what a pair of a member names alike
  pair_named : (i : ℕ) (pair : ℕ × ℕ) → i < length members → Contains (member_at members i).pairs pair →
      terms_image (query_names R.name) (atom_at b.atoms pair.0).terms ≡ terms_image (place i) (atom_at rule.heads pair.1).terms
  pair_named i pair l c =
      map-same_zip (term_image (query_names R.name)) (term_image (place i)) (atom_at b.atoms pair.0).terms (atom_at rule.heads pair.1).terms
      ((unifier_at i l).matching.each pair c).arity
      (λ s t z. term_image-query_names R.name R.names.constants s ∙ (named s t z ∙ sym (term_image-copy_names R.name R.names.constants i t)))
    where
      named : (s t : Term) → AreBeside b rule pair s t → R.name (query_node s) ≡ R.name (copy_node i t)
      named s t z =
          (R.names.classes (query_node s) (copy_node i t)).1
          (forth (Contains-all_links b rules members i (member_at members i) pair s t (entry i l) c
          (subst (λ n. AreBeside b (rule_at rules n) pair s t) (sym (of_number i l)) z)) alone)

  -- the class of an existential variable
  class_at : (i v : ℕ) (x : Node) → i < length members → IsExistential rule v → R.name (of_copy i v) ≡ R.name x →
      (x ≡ of_copy i v) ⊎ IsNonSeparating b (member_at members i).pairs x
  class_at i v x l E e =
      class_of_existential b rules members R.aggregate i (member_at members i) v x (entry i l)
      (subst (λ n. IsExistential (rule_at rules n) v) (sym (of_number i l)) E) ((R.names.classes (of_copy i v) x).0 e)

  bodies_in : (i : ℕ) → i < length members → IsSubset (atoms_image (place i) rule.body) result.atoms
  bodies_in i l =
      subst (λ n. IsSubset (atoms_image (place i) (rule_at rules n).body) result.atoms) (of_number i l)
      (body_in b rules members result R i (member_at members i) (entry i l))

  -- the member that matches a place
  owner : ℕ → ℕ
  owner place = find_place (λ (m : Member). Contains (places m.pairs) place) (λ (m : Member). dec_contains ℕ_discrete (places m.pairs) place) members

  owner_holds : (k : ℕ) → owner k < length members → Contains (places (member_at members (owner k)).pairs) k
  unfolding owner
  owner_holds k l = find_place-holds (λ (m : Member). Contains (places m.pairs) k) (λ (m : Member). dec_contains ℕ_discrete (places m.pairs) k) members _ l

  owner_inside : (k i : ℕ) → i < length members → Contains (places (member_at members i).pairs) k → owner k < length members
  unfolding owner
  owner_inside k i l c =
      find_place-inside (λ (m : Member). Contains (places m.pairs) k) (λ (m : Member). dec_contains ℕ_discrete (places m.pairs) k) members
      (member_at members i) (Contains-get_or members i _ l) c

  owner_only : (k i : ℕ) → i < length members → Contains (places (member_at members i).pairs) k → owner k ≡ i
  owner_only k i l c = elim (ℕ_discrete (owner k) i) [
    | yes e ↦ e
    | no e ↦ let m = owner_inside k i l c in absurd (AllPairs-at AreApart members (owner k) i _ AreApart-sym R.aggregate.apart m l e k (owner_holds k m) c)
  ]

  no_owner : (k : ℕ) → length members ≤ owner k → ¬ Contains (places (all_pairs members)) k
  no_owner k h c =
      let w = matched_at members k c in
      let e = member_at-entry members w.copy w.member w.entry in
      let m : Contains (places w.member.pairs) k = subst (λ k. Contains (places w.member.pairs) k) w.at (Contains-places w.member.pairs w.pair w.matched) in
      let l = owner_inside k w.copy e.0 (subst (λ (m : Member). Contains (places m.pairs) k) (sym e.1) m) in
      omega (arith, l, h)

  module _ (a : Query) (g : ℕ → Term) (G : IsHomomorphism g a b.atoms b.answers) where
    -- from the covering query by way of the covered one into the rewriting
    abbrev to_result : ℕ → Term
    to_result = composite (query_names R.name) g

    -- where an atom's image stands
    spot : ℕ → ℕ
    spot k = find_place (λ (x : Atom). atom_image g (atom_at a.atoms k) ≡ x) (λ x. atom_discrete (atom_image g (atom_at a.atoms k)) x) b.atoms

    spot_inside : (k : ℕ) → k < length a.atoms → spot k < length b.atoms
    unfolding spot
    spot_inside k l =
        find_place-inside (λ (x : Atom). atom_image g (atom_at a.atoms k) ≡ x) (λ x. atom_discrete (atom_image g (atom_at a.atoms k)) x) b.atoms
        (atom_image g (atom_at a.atoms k))
        (IsSubset-image g a.atoms b.atoms G.atoms (atom_at a.atoms k) (Contains-get_or a.atoms k _ l)) refl

    spot_is : (k : ℕ) → k < length a.atoms → atom_image g (atom_at a.atoms k) ≡ atom_at b.atoms (spot k)
    unfolding spot
    spot_is k l =
        find_place-holds (λ (x : Atom). atom_image g (atom_at a.atoms k) ≡ x) (λ x. atom_discrete (atom_image g (atom_at a.atoms k)) x) b.atoms _
        (spot_inside k l)

    image_spot : (k : ℕ) → k < length a.atoms → atom_image to_result (atom_at a.atoms k) ≡ atom_image (query_names R.name) (atom_at b.atoms (spot k))
    image_spot k l = sym (atom_image-composite (query_names R.name) g (atom_at a.atoms k)) ∙ ap (atom_image (query_names R.name)) (spot_is k l)

    -- An atom of the covering query is matched for the member that matches the atom it is sent to, with the same atom of the head.
    abbrev Passes : ℕ → ℕ → Type 0
    Passes i k = ¬ (owner (spot k) ≡ i)

    abbrev Joins : ℕ → ℕ → ℕ → Type 0
    Joins i k j = (owner (spot k) ≡ i) × (i < length members → Contains (member_at members i).pairs (spot k, j))

    partner : (i k : ℕ) → owner (spot k) ≡ i → (j : ℕ) × Joins i k j
    partner i k e = ⊎_elim
        (λ l.
        let c = subst (λ i. Contains (places (member_at members i).pairs) (spot k)) e (owner_holds (spot k) (subst (λ i. i < length members) (sym e) l)) in
        let p = Contains-from_places (member_at members i).pairs (spot k) c in
        (p.0.1, (e, λ m. subst (λ s. Contains {X = ℕ × ℕ} (member_at members i).pairs (s, p.0.1)) p.2 p.1)))
        (λ h. (0, (e, λ m. absurd (omega arith))))
        (cases_lt i (length members))

    decide : (i k : ℕ) → Passes i k ⊎ ((j : ℕ) × Joins i k j)
    decide i k = elim (ℕ_discrete (owner (spot k)) i) [ yes e ↦ inr (partner i k e) | no n ↦ inl n ]

    choice_at : (i : ℕ) → (pairs : List (ℕ × ℕ)) × IsChoice (Passes i) (Joins i) 0 (length a.atoms) pairs
    choice_at i = choose (Passes i) (Joins i) (length a.atoms) 0 (length a.atoms) (omega arith) (λ k l m. decide i k)

    pairs_at : ℕ → List (ℕ × ℕ)
    pairs_at i = (choice_at i).0

    choice : (i : ℕ) → IsChoice (Passes i) (Joins i) 0 (length a.atoms) (pairs_at i)
    unfolding pairs_at
    choice i = (choice_at i).1

    owner_at : (i k : ℕ) → Contains (places (pairs_at i)) k → owner (spot k) ≡ i
    owner_at i k c = let p = Contains-from_places (pairs_at i) k c in subst (λ k. owner (spot k) ≡ i) p.2 ((choice i).each p.0 p.1).0

    disjoint : (i j : ℕ) → ¬ (i ≡ j) → AreDisjoint (pairs_at i) (pairs_at j)
    disjoint i j n = λ k c d. n (sym (owner_at i k c) ∙ owner_at j k d)

    keeps : (i : ℕ) (p : ℕ × ℕ) → i < length members → Contains (pairs_at i) p → KeepsPredicate b rule (spot p.0, p.1)
    keeps i p l c = (unifier_at i l).matching.each (spot p.0, p.1) (((choice i).each p c).1 l)

    -- the matched atoms go where the copy's head goes
    fits : (i : ℕ) (p : ℕ × ℕ) → i < length members → Contains (pairs_at i) p → Fits to_result (place i) a rule p
    fits i p l c = image_spot p.0 ((choice i).within p c).1 ∙ atom_path _ _ (keeps i p l c).name (pair_named i (spot p.0, p.1) l (((choice i).each p c).1 l))

    matching : (i : ℕ) → i < length members → 0 < length (pairs_at i) → IsMatching a rule (pairs_at i)
    matching i l some = record {
      nonempty = some;
      rising = (choice i).rising;
      each = λ p c. KeepsPredicate-from_fits to_result (place i) a rule p ((choice i).within p c).1 (keeps i p l c).in_head (fits i p l c);
    }

    not_private : (i v : ℕ) (t : Term) → (query_node t ≡ of_copy i v) ⊎ IsNonSeparating b (member_at members i).pairs (query_node t) →
        ((x : ℕ) → t ≡ Variable x → IsSeparating b (member_at members i).pairs x) → ⊥
    not_private i v (Constant c) (inl e) f = cc
    not_private i v (Constant c) (inr p) f = p
    not_private i v (Variable x) (inl e) f = cc
    not_private i v (Variable x) (inr p) f = p (f x refl)

    -- a separating variable goes to no existential variable's class
    separating : (i v u : ℕ) → i < length members → IsExistential rule v → IsSeparating a (pairs_at i) u → ¬ (place i v ≡ to_result u)
    separating i v u l E (inl o) s =
        let r = OccursIn-atom (unmatched a (pairs_at i)) (Variable u) o in
        let m = Contains-from_unmatched a (pairs_at i) r.0 r.1 in
        let n = (choice i).rest m.0 (omega arith) m.1 m.3 in
        let d : Contains (atom_at a.atoms m.0).terms (Variable u) = subst (λ (x : Atom). Contains x.terms (Variable u)) (sym m.2) r.2 in
        let e : Contains (atom_at b.atoms (spot m.0)).terms (g u) =
        subst (λ (x : Atom). Contains x.terms (g u)) (spot_is m.0 m.1) (Contains-map (term_image g) (atom_at a.atoms m.0).terms (Variable u) d) in
        let f : Contains (unmatched b (member_at members i).pairs) (atom_at b.atoms (spot m.0)) =
        Contains-unmatched b (member_at members i).pairs (spot m.0) (spot_inside m.0 m.1) (λ c. n (owner_only (spot m.0) i l c)) in
        not_private i v (g u) (class_at i v (query_node (g u)) l E (s ∙ term_image-query_names R.name R.names.constants (g u)))
        (λ x z. inl (OccursIn-from_atom (unmatched b (member_at members i).pairs) (Variable x) (atom_at b.atoms (spot m.0)) f
        (subst (λ t. Contains (atom_at b.atoms (spot m.0)).terms t) z e)))
    separating i v u l E (inr c) s =
        let d : Contains b.answers (g u) = subst (λ l. Contains l (g u)) G.answers (Contains-map (term_image g) a.answers (Variable u) c) in
        not_private i v (g u) (class_at i v (query_node (g u)) l E (s ∙ term_image-query_names R.name R.names.constants (g u)))
        (λ x z. inr (subst (λ t. Contains b.answers t) z d))

    no_constant : (i v c : ℕ) → i < length members → IsExistential rule v → ¬ (place i v ≡ Constant c)
    no_constant i v c l E s = not_private i v (Constant c) (class_at i v (constant c) l E (s ∙ sym (R.names.constants c))) (λ x z. absurd (cc))

    no_other : (i v w : ℕ) → i < length members → IsExistential rule v → place i v ≡ place i w → v ≡ w
    no_other i v w l E s = ⊎_elim (λ e. cc) (λ p. absurd p) (class_at i v (of_copy i w) l E s)

    -- so each member gives a piece-unifier of the covering query, unless nothing is matched for it
    unifies : (i : ℕ) → i < length members → 0 < length (pairs_at i) → IsPieceUnifier a rule (pairs_at i)
    unifies i l some = maps_unify to_result (place i) a rule (pairs_at i) (matching i l some) (λ p c. fits i p l c)
        (λ v c E. no_constant i v c l E) (λ v w E o e. no_other i v w l E e) (λ v u E s. separating i v u l E s)

    rest : (k : ℕ) → k < length a.atoms → ((i : ℕ) → i < length members → ¬ Contains (places (pairs_at i)) k) →
        Contains result.atoms (atom_image to_result (atom_at a.atoms k))
    rest k l f =
        let out : length members ≤ owner (spot k) =
        ⊎_elim (λ m. absurd ((choice (owner (spot k))).rest k (omega arith) l (f (owner (spot k)) m) refl)) (λ m. m)
        (cases_lt (owner (spot k)) (length members)) in
        subst (λ (x : Atom). Contains result.atoms x) (sym (image_spot k l))
        (IsSubset-image (query_names R.name) (unmatched b (all_pairs members)) result.atoms (unmatched_in b rules members result R)
        (atom_at b.atoms (spot k)) (Contains-unmatched b (all_pairs members) (spot k) (spot_inside k l) (no_owner (spot k) out)))

    answers_to : terms_image to_result a.answers ≡ result.answers
    answers_to =
        sym (terms_image-composite (query_names R.name) g a.answers) ∙
        (ap (terms_image (query_names R.name)) G.answers ∙ answers_named b rules members result R)

    empty_or_unifies : (i : ℕ) → i < length members → (length (pairs_at i) ≤ 0) ⊎ IsPieceUnifier a rule (pairs_at i)
    empty_or_unifies i l = ⊎_elim (λ m. inr (unifies i l m)) (λ m. inl m) (cases_lt 0 (length (pairs_at i)))

    -- where something is matched, the covering query has a rewriting that covers
    by_rewriting : number < length rules → (i : ℕ) × (i < length members) × (0 < length (pairs_at i)) →
        (w : Query) × IsOneStepWith rules number a w × Covers w result
    by_rewriting inside some = subst (λ t. (w : Query) × IsOneStepWith rules number a w × MapsInto w result.atoms t) answers_to
        (unifiers_map rules number a to_result place result.atoms (length members) pairs_at inside (record {
          disjoint = disjoint;
          unifies = empty_or_unifies;
          fits = λ i l p c. fits i p l c;
          body = bodies_in;
          rest = rest;
          some = some;
        }))

    -- where nothing is, it covers by itself
    by_itself : ((i : ℕ) → i < length members → length (pairs_at i) ≤ 0) → Covers a result
    by_itself none = record {
      mapping = to_result;
      homomorphism = record {
        atoms = IsSubset-from_image to_result a.atoms result.atoms (λ x c.
            let k = place_of a.atoms x c in
            let i =
            rest k.0 k.1 (λ i l d. let p = Contains-from_places (pairs_at i) k.0 d in let n = length-positive (pairs_at i) p.0 p.1 in
            let z = none i l in omega (arith, n, z)) in
            subst (λ (x : Atom). Contains result.atoms (atom_image to_result x)) k.2 i);
        answers = answers_to;
      };
    }

    kept : number < length rules → Covers a result ⊎ ((w : Query) × IsOneStepWith rules number a w × Covers w result)
    kept inside = ⊎_elim (λ s. inr (by_rewriting inside s)) (λ n. inl (by_itself n)) (some_positive (λ i. length (pairs_at i)) (length members))

pub covers_is_kept : CoversIsKept
covers_is_kept rules number a b result c s =
    let members = s.members in
    let R = s.rewrites in
    let some = R.aggregate.nonempty in
    let inside : number < length rules =
    subst (λ n. n < length rules) (of_number rules number b result members s.uses_only R 0 some) (R.aggregate.each 0 _ some).rule in
    kept rules number b result members s.uses_only R a c.mapping c.homomorphism inside
