-- The piece of a piece-unifier that a pair is in, which is single, and the rest.
use Rattle.std.proofs.Common.{◌≡◌, ℕ, ◌<◌, Bool, true, false, not, List, map, length, ◌⊎◌, Contains, filter, flat_map, refl, sym, ap, ◌∙◌, subst, inl, inr}
use Rattle.std.proofs.lemmas.Bool.{not-true}
use Rattle.ucq_terms.specs.declared.Term.{Term}
use Rattle.ucq_terms.specs.declared.Term.TheVariants.{Constant, Variable}
use Rattle.ucq_terms.specs.Syntax.{Rule, Query}
use Rattle.ucq_terms.specs.Chase.{IsExistential}
use Rattle.ucq_terms.specs.Unifier.{Node, constant, of_query, of_copy, query_node, alone, back, IsNonSeparating, IsPieceUnifier, IsSinglePiece}
use Rattle.ucq_terms.proofs.Classes.{AreJoined-keeps, rep, rep-link, AreJoined-from_rep}
use Rattle.ucq_terms.proofs.Decide.{to_bool, from_to_bool, to_bool-true, node_discrete, dec_existential}
use Rattle.ucq_terms.proofs.Lists.{Contains-map, Contains-from_map, Contains-flat_map, Contains-from_flat_map, Contains-filter}
use Rattle.ucq_terms.proofs.Lists.{Contains-from_filter, length-positive, first_element}
use Rattle.ucq_terms.proofs.Matched.{beside, AreBeside, Contains-links}
use Rattle.ucq_terms.proofs.Touched.{Touches, passing_unifies, passes_too}

-- the link's second term is an existential variable
ends_existential : Rule → Term × Term → Bool
ends_existential rule (s, Constant c) = false
ends_existential rule (s, Variable v) = to_bool (dec_existential rule v)

-- Joins the places of pairs to the variables that they link to existential ones. A place is written as a variable of copy 1.
glue_of : Query → Rule → ℕ × ℕ → List (Node × Node)
glue_of q rule pair = map (λ (l : Term × Term). (of_copy 1 pair.0, query_node l.0)) (filter (ends_existential rule) (beside q rule pair))

glue : Query → Rule → List (ℕ × ℕ) → List (Node × Node)
glue q rule pairs = flat_map (glue_of q rule) pairs

Contains-glue : (q : Query) (rule : Rule) (pairs : List (ℕ × ℕ)) (pair : ℕ × ℕ) (u : ℕ) → Contains pairs pair → Touches q rule pair u →
    Contains (glue q rule pairs) (of_copy 1 pair.0, of_query u)
unfolding glue glue_of ends_existential
Contains-glue q rule pairs pair u c t =
    Contains-flat_map (glue_of q rule) pairs pair (of_copy 1 pair.0, of_query u) c
    (Contains-map (λ (l : Term × Term). (of_copy 1 pair.0, query_node l.0)) (filter (ends_existential rule) (beside q rule pair))
    (Variable u, Variable t.variable)
    (Contains-filter (ends_existential rule) (beside q rule pair) (Variable u, Variable t.variable) t.at
    (to_bool-true (dec_existential rule t.variable) t.existential)))

ends_existential-true : (rule : Rule) (t s : Term) → ends_existential rule (s, t) ≡ true → (v : ℕ) × IsExistential rule v × (t ≡ Variable v)
unfolding ends_existential
ends_existential-true rule (Constant c) s e = cc
ends_existential-true rule (Variable v) s e = (v, from_to_bool (dec_existential rule v) e, refl)

-- a term in the class of an existential variable is a variable
private_is_variable : (q : Query) (rule : Rule) (pairs : List (ℕ × ℕ)) (s : Term) (v : ℕ) →
    (query_node s ≡ of_copy 0 v) ⊎ IsNonSeparating q pairs (query_node s) → (u : ℕ) × (s ≡ Variable u)
private_is_variable q rule pairs (Constant c) v (inl k) = cc
private_is_variable q rule pairs (Constant c) v (inr k) = absurd k
private_is_variable q rule pairs (Variable u) v k = (u, refl)

-- a pair's two terms, of which the second is existential, are two variables
touches_at : (q : Query) (rule : Rule) (pairs : List (ℕ × ℕ)) → IsPieceUnifier q rule pairs → (pair : ℕ × ℕ) (s t : Term) → Contains pairs pair →
    AreBeside q rule pair s t → ends_existential rule (s, t) ≡ true → (u : ℕ) × Touches q rule pair u × (s ≡ Variable u)
touches_at q rule pairs U pair s t c i f =
    let v = ends_existential-true rule t s f in
    let j : AreBeside q rule pair s (Variable v.0) = subst (λ t. AreBeside q rule pair s t) v.2 i in
    let u =
    private_is_variable q rule pairs s v.0 (U.existential v.0 (query_node s) v.1 (back (Contains-links q 0 rule pairs pair s (Variable v.0) c j) alone)) in
    (u.0, record { variable = v.0; existential = v.1; at = subst (λ s. AreBeside q rule pair s (Variable v.0)) u.1 j }, u.1)

-- the glue joins places of pairs to variables that these pairs touch, and nothing else
Contains-from_glue : (q : Query) (rule : Rule) (pairs : List (ℕ × ℕ)) → IsPieceUnifier q rule pairs → (l : Node × Node) →
    Contains (glue q rule pairs) l → (pair : ℕ × ℕ) × (u : ℕ) × Contains pairs pair × Touches q rule pair u × ((of_copy 1 pair.0, of_query u) ≡ l)
unfolding glue glue_of
Contains-from_glue q rule pairs U l h =
    let r = Contains-from_flat_map (glue_of q rule) pairs l h in
    from_pair r.0 r.1 (Contains-from_map (λ (l : Term × Term). (of_copy 1 r.0.0, query_node l.0)) (filter (ends_existential rule) (beside q rule r.0)) l r.2)
  where
    from_pair : (pair : ℕ × ℕ) → Contains pairs pair →
        (m : Term × Term) × Contains (filter (ends_existential rule) (beside q rule pair)) m × ((of_copy 1 pair.0, query_node m.0) ≡ l) →
        (pair : ℕ × ℕ) × (u : ℕ) × Contains pairs pair × Touches q rule pair u × ((of_copy 1 pair.0, of_query u) ≡ l)
    from_pair pair c m =
        let f = Contains-from_filter (ends_existential rule) (beside q rule pair) m.0 m.1 in
        let t = touches_at q rule pairs U pair m.0.0 m.0.1 c f.0 f.1 in
        (pair, t.0, c, t.1, ap (λ s. (of_copy 1 pair.0, query_node s)) (sym t.2) ∙ m.2)

not_true_too : (a b : Bool) → (a ≡ true → b ≡ true) → (not a ≡ true → not b ≡ true) → a ≡ b
not_true_too true b h k = sym (h refl)
not_true_too false b h k = sym (not-true b (k refl))

-- the place is glued to the root's
pub in_piece : Query → Rule → List (ℕ × ℕ) → ℕ → ℕ → Bool
in_piece q rule pairs root place = to_bool (node_discrete (rep (glue q rule pairs) (of_copy 1 place)) (rep (glue q rule pairs) (of_copy 1 root)))

same_rep_from_in_piece : (q : Query) (rule : Rule) (pairs : List (ℕ × ℕ)) (root place : ℕ) → in_piece q rule pairs root place ≡ true →
    rep (glue q rule pairs) (of_copy 1 place) ≡ rep (glue q rule pairs) (of_copy 1 root)
unfolding in_piece
same_rep_from_in_piece q rule pairs root place e =
    from_to_bool (node_discrete (rep (glue q rule pairs) (of_copy 1 place)) (rep (glue q rule pairs) (of_copy 1 root))) e

in_piece-same_rep : (q : Query) (rule : Rule) (pairs : List (ℕ × ℕ)) (root place : ℕ) →
    rep (glue q rule pairs) (of_copy 1 place) ≡ rep (glue q rule pairs) (of_copy 1 root) → in_piece q rule pairs root place ≡ true
unfolding in_piece
in_piece-same_rep q rule pairs root place e =
    to_bool-true (node_discrete (rep (glue q rule pairs) (of_copy 1 place)) (rep (glue q rule pairs) (of_copy 1 root))) e

-- pairs that touch one variable are glued together
glued : (q : Query) (rule : Rule) (pairs : List (ℕ × ℕ)) (a b : ℕ × ℕ) (u : ℕ) → Contains pairs a → Contains pairs b → Touches q rule a u →
    Touches q rule b u → rep (glue q rule pairs) (of_copy 1 a.0) ≡ rep (glue q rule pairs) (of_copy 1 b.0)
glued q rule pairs a b u c d s t =
    rep-link (glue q rule pairs) (of_copy 1 a.0, of_query u) (Contains-glue q rule pairs a u c s) ∙
    sym (rep-link (glue q rule pairs) (of_copy 1 b.0, of_query u) (Contains-glue q rule pairs b u d t))

in_piece_alike : (q : Query) (rule : Rule) (pairs : List (ℕ × ℕ)) (root : ℕ) (a b : ℕ × ℕ) (u : ℕ) → Contains pairs a → Contains pairs b →
    Touches q rule a u → Touches q rule b u → in_piece q rule pairs root a.0 ≡ in_piece q rule pairs root b.0
unfolding in_piece
in_piece_alike q rule pairs root a b u c d s t =
    ap (λ x. to_bool (node_discrete x (rep (glue q rule pairs) (of_copy 1 root)))) (glued q rule pairs a b u c d s t)

-- the pairs that are glued to the root, and the others
abbrev pub piece_of : Query → Rule → List (ℕ × ℕ) → ℕ → List (ℕ × ℕ)
piece_of q rule pairs root = filter (λ p. in_piece q rule pairs root p.0) pairs

abbrev pub rest_of : Query → Rule → List (ℕ × ℕ) → ℕ → List (ℕ × ℕ)
rest_of q rule pairs root = filter (λ p. not (in_piece q rule pairs root p.0)) pairs

-- the node's place is in the piece and on that side, or such a pair touches the variable
abbrev OnSide : Query → Rule → List (ℕ × ℕ) → ℕ → (ℕ → Bool) → Bool → Node → Type 0
OnSide q rule pairs root left b (constant c) = ⊥
OnSide q rule pairs root left b (of_query u) = (a : ℕ × ℕ) × Contains (piece_of q rule pairs root) a × Touches q rule a u × (left a.0 ≡ b)
OnSide q rule pairs root left b (of_copy m place) = (in_piece q rule pairs root place ≡ true) × (left place ≡ b)

module _ (q : Query) (rule : Rule) (pairs : List (ℕ × ℕ)) (U : IsPieceUnifier q rule pairs) (root : ℕ × ℕ) (rooted : Contains pairs root) where
  in_piece_root : in_piece q rule pairs root.0 root.0 ≡ true
  in_piece_root = in_piece-same_rep q rule pairs root.0 root.0 refl

  pub root_in : Contains (piece_of q rule pairs root.0) root
  root_in = Contains-filter (λ (p : ℕ × ℕ). in_piece q rule pairs root.0 p.0) pairs root rooted in_piece_root

  -- the piece is a piece-unifier, and so is the rest if anything is left
  piece_unifies : IsPieceUnifier q rule (piece_of q rule pairs root.0)
  piece_unifies =
      passing_unifies q rule pairs (in_piece q rule pairs root.0) U (in_piece_alike q rule pairs root.0)
      (length-positive (piece_of q rule pairs root.0) root root_in)

  pub rest_unifies : 0 < length (rest_of q rule pairs root.0) → IsPieceUnifier q rule (rest_of q rule pairs root.0)
  rest_unifies some =
      passing_unifies q rule pairs (λ place. not (in_piece q rule pairs root.0 place)) U
      (λ a b u c d s t. ap not (in_piece_alike q rule pairs root.0 a b u c d s t)) some

  -- a split of the piece that no touched variable crosses has the whole piece on the root's side
  one_side : (left : ℕ → Bool) →
      ((a b : ℕ × ℕ) (u : ℕ) → Contains (piece_of q rule pairs root.0) a → Contains (piece_of q rule pairs root.0) b → Touches q rule a u →
      Touches q rule b u → left a.0 ≡ left b.0) →
      (p : ℕ × ℕ) → Contains (piece_of q rule pairs root.0) p → left p.0 ≡ left root.0
  one_side left alike p c =
      (AreJoined-keeps (OnSide q rule pairs root.0 left (left root.0)) forward backward
      (AreJoined-from_rep (glue q rule pairs) (of_copy 1 root.0) (of_copy 1 p.0)
      (sym (same_rep_from_in_piece q rule pairs root.0 p.0 (Contains-from_filter (λ (p : ℕ × ℕ). in_piece q rule pairs root.0 p.0) pairs p c).1)))
      (in_piece_root, refl)).1
    where
      forward : (l : Node × Node) → Contains (glue q rule pairs) l → OnSide q rule pairs root.0 left (left root.0) l.0 →
          OnSide q rule pairs root.0 left (left root.0) l.1
      forward l i =
          let g = Contains-from_glue q rule pairs U l i in
          subst (λ (z : Node × Node). OnSide q rule pairs root.0 left (left root.0) z.0 → OnSide q rule pairs root.0 left (left root.0) z.1) g.4
          (λ s. (g.0, Contains-filter (λ (p : ℕ × ℕ). in_piece q rule pairs root.0 p.0) pairs g.0 g.2 s.0, g.3, s.1))

      backward : (l : Node × Node) → Contains (glue q rule pairs) l → OnSide q rule pairs root.0 left (left root.0) l.1 →
          OnSide q rule pairs root.0 left (left root.0) l.0
      backward l i =
          let g = Contains-from_glue q rule pairs U l i in
          subst (λ (z : Node × Node). OnSide q rule pairs root.0 left (left root.0) z.1 → OnSide q rule pairs root.0 left (left root.0) z.0) g.4
          (λ s.
          let k = Contains-from_filter (λ (p : ℕ × ℕ). in_piece q rule pairs root.0 p.0) pairs s.0 s.1 in
          let e : in_piece q rule pairs root.0 g.0.0 ≡ true = in_piece_alike q rule pairs root.0 g.0 s.0 g.1 g.2 k.0 g.3 s.2 ∙ k.1 in
          (e, alike g.0 s.0 g.1 (Contains-filter (λ (p : ℕ × ℕ). in_piece q rule pairs root.0 p.0) pairs g.0 g.2 e) s.1 g.3 s.2 ∙ s.3))

  -- so the piece can't be split
  pub piece_single : IsSinglePiece q rule (piece_of q rule pairs root.0)
  piece_single = record {
    unifier = piece_unifies;
    whole = λ left L R. no_split left L R;
  }
    where
      no_split : (left : ℕ → Bool) → IsPieceUnifier q rule (filter (λ p. left p.0) (piece_of q rule pairs root.0)) →
          IsPieceUnifier q rule (filter (λ p. not (left p.0)) (piece_of q rule pairs root.0)) → ⊥
      no_split left L R =
          let P = piece_of q rule pairs root.0 in
          let alike : (a b : ℕ × ℕ) (u : ℕ) → Contains P a → Contains P b → Touches q rule a u → Touches q rule b u → left a.0 ≡ left b.0 =
          λ a b u c d s t. not_true_too (left a.0) (left b.0) (passes_too q rule P left piece_unifies.matching.each L a b u c d s t)
          (passes_too q rule P (λ place. not (left place)) piece_unifies.matching.each R a b u c d s t) in
          let x = first_element (filter (λ p. left p.0) P) L.matching.nonempty in
          let y = first_element (filter (λ p. not (left p.0)) P) R.matching.nonempty in
          let i = Contains-from_filter (λ (p : ℕ × ℕ). left p.0) P x.0 x.1 in
          let j = Contains-from_filter (λ (p : ℕ × ℕ). not (left p.0)) P y.0 y.1 in
          let e : true ≡ false = sym i.1 ∙ (one_side left alike x.0 i.0 ∙ (sym (one_side left alike y.0 j.0) ∙ not-true _ j.1)) in
          cc
