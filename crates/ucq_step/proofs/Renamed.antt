-- The rewritings by one aggregate are one query up to renaming, whatever the names and the order of the members.
use Rattle.std.proofs.Common.{◌≡◌, ℕ, List, map, ◌⊎◌, Contains, refl, sym, ap, ◌∙◌, subst, inl, inr}
use Rattle.std.specs.List.{enumerate_from}
use Rattle.ucq_terms.specs.declared.Term.{Term}
use Rattle.ucq_terms.specs.declared.Term.TheVariants.{Constant, Variable}
use Rattle.ucq_terms.specs.Syntax.{Atom, Rule, Query, term_image, terms_image, atom_image, atoms_image}
use Rattle.ucq_terms.specs.Homomorphism.{AreIsomorphic}
use Rattle.ucq_terms.specs.Unifier.{Node, constant, of_query, of_copy, query_node, copy_node, unmatched, AreJoined}
use Rattle.ucq_terms.specs.Rewriting.{Member, rule_at, all_links, all_pairs, Rewrites}
use Rattle.ucq_terms.proofs.Decide.{atom_path}
use Rattle.ucq_terms.proofs.Images.{Contains-image, IsSubset-from_image}
use Rattle.ucq_terms.proofs.Lists.{Contains-map, Contains-from_map, map-map, map-same_on}
use Rattle.ucq_terms.proofs.Subsets.{IsSubset-from_contains, OccursIn-from_atom}
use Rattle.ucq_fold.proofs.Renamings.{beside, beside-at, IsFunctional}
use Rattle.ucq_step.specs.inner.Building.{atom_named}
use Rattle.ucq_step.proofs.Standing.{Stands, nodes, Contains-of_query, Contains-of_copy, Stands-answer, Stands-atom, Stands-body, OccursIn-unmatched}
use Rattle.ucq_step.proofs.Standing.{IsOfBody, IsOfRest, named_atom, body_named, rest_named, standing_variable}
use Rattle.ucq_step.proofs.Moved.{Moves, moved, moved-query_node, moved-copy_node, AreJoined-moved, unmatched-moved}

-- Two lists have the same members, and the maps lead from places of the one to places of the other and back.
pub record ArePermuted (move return : ℕ → ℕ) (xs ys : List Member) : Type 0 where
  pub forth : Moves move xs ys
  pub back : Moves return ys xs
  pub home : (i : ℕ) (m : Member) → Contains {X = ℕ × Member} (enumerate_from 0 xs) (i, m) → return (move i) ≡ i
  pub home_too : (i : ℕ) (m : Member) → Contains {X = ℕ × Member} (enumerate_from 0 ys) (i, m) → move (return i) ≡ i

pub ArePermuted-sym : (move return : ℕ → ℕ) (xs ys : List Member) → ArePermuted move return xs ys → ArePermuted return move ys xs
ArePermuted-sym move return xs ys p = record { forth = p.back; back = p.forth; home = p.home_too; home_too = p.home }

variable_or_constant : (t : Term) → ((w : ℕ) × (t ≡ Variable w)) ⊎ ((c : ℕ) × (t ≡ Constant c))
variable_or_constant (Constant c) = inr (c, refl)
variable_or_constant (Variable w) = inl (w, refl)

-- the map's image of an atom that is named, by the names' images
image_named : (h : ℕ → Term) (f g : Term → Term) (a : Atom) → ((t : Term) → Contains a.terms t → term_image h (f t) ≡ g t) →
    atom_image h (atom_named f a) ≡ atom_named g a
image_named h f g a e =
    atom_path _ _ refl
    (map-map (term_image h) f (λ t. term_image h (f t)) a.terms (λ t. refl) ∙ map-same_on (λ t. term_image h (f t)) g a.terms e)

module _ (q : Query) (rules : List Rule) (move return : ℕ → ℕ) (xs ys : List Member) (P : ArePermuted move return xs ys) (a b : Query)
    (A : Rewrites q rules xs a) (B : Rewrites q rules ys b) where
  abbrev name : Node → Term
  name = A.name

  abbrev named : Node → Term
  named = B.name

  -- Nodes with one name have one name after the move, and the other way round.
  same_after : (x y : Node) → name x ≡ name y → named (moved move x) ≡ named (moved move y)
  same_after x y e = (B.names.classes (moved move x) (moved move y)).1 (AreJoined-moved q rules move xs ys P.forth x y ((A.names.classes x y).0 e))

  returned : (x : Node) → Stands q rules xs x → moved return (moved move x) ≡ x
  returned (constant c) s = refl
  returned (of_query v) s = refl
  returned (of_copy i v) s = ap (λ (j : ℕ). of_copy j v) (P.home i s.0 s.1)

  same_before : (x y : Node) → Stands q rules xs x → Stands q rules xs y → named (moved move x) ≡ named (moved move y) → name x ≡ name y
  same_before x y s t e =
      let here : AreJoined (all_links q rules xs) (moved return (moved move x)) (moved return (moved move y)) =
      AreJoined-moved q rules return ys xs P.back (moved move x) (moved move y) ((B.names.classes (moved move x) (moved move y)).0 e) in
      (A.names.classes x y).1
      (subst (λ (z : Node). AreJoined (all_links q rules xs) x z) (returned y t)
      (subst (λ (z : Node). AreJoined (all_links q rules xs) z (moved return (moved move y))) (returned x s) here))

  -- each name beside the name after the move
  names_beside : List (Term × Term)
  names_beside = map (λ x. (name x, named (moved move x))) (nodes q rules xs)

  functional : IsFunctional names_beside
  unfolding names_beside
  functional = record {
    same = λ a b i j e.
        let (x, k, d) = Contains-from_map {Y = Term × Term} (λ x. (name x, named (moved move x))) (nodes q rules xs) a i in
        let (y, l, f) = Contains-from_map {Y = Term × Term} (λ x. (name x, named (moved move x))) (nodes q rules xs) b j in
        let same : name x ≡ name y = ap (λ (p : Term × Term). p.0) d ∙ (e ∙ sym (ap (λ (p : Term × Term). p.0) f)) in
        sym (ap (λ (p : Term × Term). p.1) d) ∙
        (same_after x y same ∙ ap (λ (p : Term × Term). p.1) f);
  }

  -- the renaming
  rename : ℕ → Term
  rename = beside names_beside

  rename-variable : (x : Node) (v : ℕ) → Contains (nodes q rules xs) x → name x ≡ Variable v → rename v ≡ named (moved move x)
  unfolding rename names_beside
  rename-variable x v i e =
      beside-at names_beside v (named (moved move x)) functional
      (subst (λ (t : Term). Contains {X = Term × Term} names_beside (t, named (moved move x))) e
      (Contains-map {Y = Term × Term} (λ x. (name x, named (moved move x))) (nodes q rules xs) x i))

  constant_after : (x : Node) (c : ℕ) → name x ≡ Constant c → named (moved move x) ≡ Constant c
  constant_after x c e = same_after x (constant c) (e ∙ sym (A.names.constants c)) ∙ B.names.constants c

  rename-listed : (x : Node) → Contains (nodes q rules xs) x → term_image rename (name x) ≡ named (moved move x)
  rename-listed x i = elim (variable_or_constant (name x)) [
    | inl (v, e) ↦ ap (term_image rename) e ∙ rename-variable x v i e
    | inr (c, e) ↦ ap (term_image rename) e ∙ sym (constant_after x c e)
  ]

  rename-name : (x : Node) → Stands q rules xs x → term_image rename (name x) ≡ named (moved move x)
  rename-name (constant c) s = ap (term_image rename) (A.names.constants c) ∙ sym (B.names.constants c)
  rename-name (of_query v) s = rename-listed (of_query v) (Contains-of_query q rules xs v s)
  rename-name (of_copy i v) s = rename-listed (of_copy i v) (Contains-of_copy q rules xs i v s)

  rename-query : (t : Term) → Stands q rules xs (query_node t) → term_image rename (name (query_node t)) ≡ named (query_node t)
  rename-query t s = rename-name (query_node t) s ∙ ap named (moved-query_node move t)

  rename-copy : (i : ℕ) (t : Term) → Stands q rules xs (copy_node i t) → term_image rename (name (copy_node i t)) ≡ named (copy_node (move i) t)
  rename-copy i t s = rename-name (copy_node i t) s ∙ ap named (moved-copy_node move i t)

  renames_node : (x : Node) (v : ℕ) → Stands q rules xs x → name x ≡ Variable v → (w : ℕ) × (rename v ≡ Variable w)
  renames_node x v s e =
      let at : rename v ≡ named (moved move x) = ap (term_image rename) (sym e) ∙ rename-name x s in
      elim (variable_or_constant (named (moved move x))) [
        | inl (w, f) ↦ (w, at ∙ f)
        | inr (c, f) ↦
            let bad : Variable v ≡ Constant c = sym e ∙ (same_before x (constant c) s tt (f ∙ sym (B.names.constants c)) ∙ A.names.constants c) in
            absurd cc
      ]

  apart_nodes : (x y : Node) (v w : ℕ) → Stands q rules xs x → Stands q rules xs y → name x ≡ Variable v → name y ≡ Variable w → rename v ≡ rename w → v ≡ w
  apart_nodes x y v w s t d e f =
      let at : rename v ≡ named (moved move x) = ap (term_image rename) (sym d) ∙ rename-name x s in
      let at_other : rename w ≡ named (moved move y) = ap (term_image rename) (sym e) ∙ rename-name y t in
      let same : Variable v ≡ Variable w = sym d ∙ (same_before x y s t (sym at ∙ (f ∙ at_other)) ∙ e) in
      cc

  image_of_body : (i : ℕ) (m : Member) (c : Atom) → Contains {X = ℕ × Member} (enumerate_from 0 xs) (i, m) → Contains (rule_at rules m.rule).body c →
      atom_image rename (atom_named (λ t. name (copy_node i t)) c) ≡ atom_named (λ t. named (copy_node (move i) t)) c
  image_of_body i m c e k =
      image_named rename (λ t. name (copy_node i t)) (λ t. named (copy_node (move i) t)) c
      (λ t j. rename-copy i t (Stands-body q rules xs i m t e (OccursIn-from_atom (rule_at rules m.rule).body t c k j)))

  image_of_rest : (c : Atom) → Contains (unmatched q (all_pairs xs)) c →
      atom_image rename (atom_named (λ t. name (query_node t)) c) ≡ atom_named (λ t. named (query_node t)) c
  image_of_rest c k =
      image_named rename (λ t. name (query_node t)) (λ t. named (query_node t)) c
      (λ t j. rename-query t (Stands-atom q rules xs t (OccursIn-unmatched q (all_pairs xs) c t k j)))

  image_in : (x : Atom) → IsOfBody name rules xs x ⊎ IsOfRest name q xs x → Contains b.atoms (atom_image rename x)
  image_in x (inl o) =
      subst (λ (y : Atom). Contains b.atoms y) (sym (image_of_body o.copy o.member o.atom o.entry o.inside) ∙ ap (atom_image rename) o.is)
      (body_named q rules ys b B (move o.copy) o.member o.atom (P.forth.each o.copy o.member o.entry) o.inside)
  image_in x (inr o) =
      subst (λ (y : Atom). Contains b.atoms y) (sym (image_of_rest o.atom o.left_out) ∙ ap (atom_image rename) o.is)
      (rest_named q rules ys b B o.atom (unmatched-moved q rules return ys xs P.back o.atom o.left_out))

  image_from : (x : Atom) → IsOfBody named rules ys x ⊎ IsOfRest named q ys x → Contains (atoms_image rename a.atoms) x
  image_from x (inl o) =
      let i = return o.copy in
      let e : Contains {X = ℕ × Member} (enumerate_from 0 xs) (i, o.member) = P.back.each o.copy o.member o.entry in
      let there : atom_image rename (atom_named (λ t. name (copy_node i t)) o.atom) ≡ x =
      image_of_body i o.member o.atom e o.inside ∙
      (ap (λ (j : ℕ). atom_named (λ t. named (copy_node j t)) o.atom) (P.home_too o.copy o.member o.entry) ∙ o.is) in
      subst (λ (y : Atom). Contains (atoms_image rename a.atoms) y) there
      (Contains-image rename a.atoms (atom_named (λ t. name (copy_node i t)) o.atom) (body_named q rules xs a A i o.member o.atom e o.inside))
  image_from x (inr o) =
      let k = unmatched-moved q rules move xs ys P.forth o.atom o.left_out in
      subst (λ (y : Atom). Contains (atoms_image rename a.atoms) y) (image_of_rest o.atom k ∙ o.is)
      (Contains-image rename a.atoms (atom_named (λ t. name (query_node t)) o.atom) (rest_named q rules xs a A o.atom k))

  answers_renamed : terms_image rename a.answers ≡ b.answers
  answers_renamed =
      ap (terms_image rename) A.answers ∙
      (map-map (term_image rename) (λ t. name (query_node t)) (λ t. term_image rename (name (query_node t))) q.answers (λ t. refl) ∙
      (map-same_on (λ t. term_image rename (name (query_node t))) (λ t. named (query_node t)) q.answers
      (λ t i. rename-query t (Stands-answer q rules xs t i)) ∙ sym B.answers))

  -- the two are one query up to renaming
  pub AreIsomorphic-rewritten : AreIsomorphic a b
  AreIsomorphic-rewritten = record {
    renaming = rename;
    isomorphism = record {
      renames = λ v o. let (x, s, e) = standing_variable q rules xs a A v o in renames_node x v s e;
      apart =
          λ v w o u f. let (x, s, d) = standing_variable q rules xs a A v o in let (y, t, e) = standing_variable q rules xs a A w u in
          apart_nodes x y v w s t d e f;
      answers = answers_renamed;
      atoms = (
        IsSubset-from_image rename a.atoms b.atoms (λ x i. image_in x (named_atom q rules xs a A x i)),
        IsSubset-from_contains b.atoms (atoms_image rename a.atoms) (λ x i. image_from x (named_atom q rules ys b B x i)),
      );
    };
  }
