-- Queries and rules whose variables are numbered by first occurrence.
use Rattle.std.proofs.Common.{◌*◌, ◌≡◌, ◌≢◌, ℕ, ◌+◌, ◌<◌, ◌≤◌, nat_eq, List, [], ◌∷◌, ◌++◌, length, Contains, get_or, refl, sym, ap, ap₂, ◌∙◌, subst}
use Rattle.std.proofs.Common.{inl, inr, ⊎_elim, arith}
use Rattle.std.specs.List.{position_or_len}
use Rattle.std.proofs.lemmas.List.{length-map}
use Rattle.std.proofs.lemmas.List.Elements.{Contains-get_or, Contains-append_left, Contains-append_right}
use Rattle.ucq_terms.specs.declared.Term.{Term}
use Rattle.ucq_terms.specs.declared.Term.TheVariants.{Constant, Variable}
use Rattle.ucq_terms.specs.declared.TheConstants.{ATOMS, VARIABLES}
use Rattle.ucq_terms.specs.Syntax.{Atom, Query, OccursIn, HasEachOnce, IsVariableOf, IsSafe, IsSameSet, term_image, terms_image, atom_image, atoms_image}
use Rattle.ucq_terms.specs.Homomorphism.{IsIsomorphism, AreIsomorphic}
use Rattle.ucq_terms.specs.Query.{IsStored, IsNumberedFrom}
use Rattle.ucq_terms.specs.Numbering.{terms_of, order_with, query_order, numbered_term, numbered_terms, numbered_atom, numbered_atoms, numbered_query}
use Rattle.ucq_terms.proofs.Decide.{atom_path}
use Rattle.ucq_terms.proofs.Equality.{IsEquality-nat_eq}
use Rattle.ucq_terms.proofs.Lists.{Contains-first, Contains-rest, Contains-from_map, map-same_on, Contains-map}
use Rattle.ucq_terms.proofs.Numbering.{position_same, position_below, any_from_contains}
use Rattle.ucq_terms.proofs.Orders.{order_with-append, Contains-order_with, Contains-terms_of, numbered_terms-with}
use Rattle.ucq_terms.proofs.Pairwise.{AllPairs-map}
use Rattle.ucq_terms.proofs.Subsets.{OccursIn-from_atom, OccursIn-atom, IsSameSet-refl}

-- the order has each variable of the terms
abbrev pub HasVariables : List ℕ → List Term → Type 0
HasVariables order terms = (v : ℕ) → Contains terms (Variable v) → Contains order v

-- the renaming that numbering is
abbrev pub numbering : List ℕ → ℕ → Term
numbering order v = Variable (position_or_len (nat_eq v) order)

pub numbered_term-image : (order : List ℕ) (t : Term) → numbered_term order t ≡ term_image (numbering order) t
numbered_term-image order (Constant c) = refl
numbered_term-image order (Variable v) = refl

pub numbered_terms-image : (order : List ℕ) (ts : List Term) → numbered_terms order ts ≡ terms_image (numbering order) ts
numbered_terms-image order ts = map-same_on (numbered_term order) (term_image (numbering order)) ts (λ t i. numbered_term-image order t)

pub numbered_atom-image : (order : List ℕ) (a : Atom) → numbered_atom order a ≡ atom_image (numbering order) a
numbered_atom-image order a = atom_path _ _ refl (numbered_terms-image order a.terms)

pub numbered_atoms-image : (order : List ℕ) (atoms : List Atom) → numbered_atoms order atoms ≡ atoms_image (numbering order) atoms
numbered_atoms-image order atoms = map-same_on (numbered_atom order) (atom_image (numbering order)) atoms (λ a i. numbered_atom-image order a)

-- Numbering is one to one on terms whose variables the order has.
pub numbered_term_same : (order : List ℕ) (s t : Term) → ((v : ℕ) → s ≡ Variable v → Contains order v) → ((v : ℕ) → t ≡ Variable v → Contains order v) →
    numbered_term order s ≡ numbered_term order t → s ≡ t
numbered_term_same order (Constant c) (Constant d) h k e = e
numbered_term_same order (Constant c) (Variable w) h k e = absurd cc
numbered_term_same order (Variable v) (Constant d) h k e = absurd cc
numbered_term_same order (Variable v) (Variable w) h k e =
    let f : position_or_len (nat_eq v) order ≡ position_or_len (nat_eq w) order = cc in
    ap Variable (position_same nat_eq IsEquality-nat_eq order v w (h v refl) (k w refl) f)

pub numbered_terms_same : (order : List ℕ) (ss ts : List Term) → HasVariables order ss → HasVariables order ts → numbered_terms order ss ≡ numbered_terms order ts → ss ≡ ts
numbered_terms_same order [] [] h k e = refl
numbered_terms_same order [] (t ∷ ts) h k e = absurd cc
numbered_terms_same order (s ∷ ss) [] h k e = absurd cc
numbered_terms_same order (s ∷ ss) (t ∷ ts) h k e =
    let first : numbered_term order s ≡ numbered_term order t = cc in
    let rest : numbered_terms order ss ≡ numbered_terms order ts = cc in
    ap₂ (λ x xs. x ∷ xs)
    (numbered_term_same order s t (λ v f. h v (subst (λ (x : Term). Contains (s ∷ ss) x) f (Contains-first s ss)))
    (λ v f. k v (subst (λ (x : Term). Contains (t ∷ ts) x) f (Contains-first t ts))) first)
    (numbered_terms_same order ss ts (λ v i. h v (Contains-rest s ss (Variable v) i)) (λ v i. k v (Contains-rest t ts (Variable v) i)) rest)

pub numbered_atom_same : (order : List ℕ) (a b : Atom) → HasVariables order a.terms → HasVariables order b.terms → numbered_atom order a ≡ numbered_atom order b → a ≡ b
numbered_atom_same order a b h k e =
    atom_path a b (ap (λ (x : Atom). x.name) e) (numbered_terms_same order a.terms b.terms h k (ap (λ (x : Atom). x.terms) e))

-- so atoms that differ still do
pub HasEachOnce-numbered : (order : List ℕ) (atoms : List Atom) → ((v : ℕ) → OccursIn atoms (Variable v) → Contains order v) → HasEachOnce atoms →
    HasEachOnce (numbered_atoms order atoms)
HasEachOnce-numbered order atoms h once = AllPairs-map (λ (a b : Atom). a ≢ b) (numbered_atom order) atoms
    (λ i j d l m e. once i j d l m (numbered_atom_same order (get_or atoms i d) (get_or atoms j d) (known i d (omega arith)) (known j d m) e))
  where
    known : (i : ℕ) (d : Atom) → i < length atoms → HasVariables order (get_or atoms i d).terms
    known i d l v k = h v (OccursIn-from_atom atoms (Variable v) (get_or atoms i d) (Contains-get_or atoms i d l) k)

-- the variables of numbered terms are below the length of the order
pub numbered_term_below : (order : List ℕ) (t : Term) (w : ℕ) → ((v : ℕ) → t ≡ Variable v → Contains order v) → numbered_term order t ≡ Variable w → w < length order
numbered_term_below order (Constant c) w h e = absurd cc
numbered_term_below order (Variable v) w h e =
    let f : position_or_len (nat_eq v) order ≡ w = cc in
    let l = position_below nat_eq order v (any_from_contains nat_eq IsEquality-nat_eq order v (h v refl)) in
    subst (λ k. k < length order) f l

pub numbered_terms_below : (order : List ℕ) (ts : List Term) (w : ℕ) → HasVariables order ts → Contains (numbered_terms order ts) (Variable w) → w < length order
numbered_terms_below order ts w h i =
    let (t, j, e) = Contains-from_map (numbered_term order) ts (Variable w) i in
    numbered_term_below order t w (λ v f. h v (subst (λ (x : Term). Contains ts x) f j)) e

pub numbered_atoms_below : (order : List ℕ) (atoms : List Atom) (w : ℕ) → ((v : ℕ) → OccursIn atoms (Variable v) → Contains order v) →
    OccursIn (numbered_atoms order atoms) (Variable w) → w < length order
numbered_atoms_below order atoms w h o =
    let (b, i, j) = OccursIn-atom (numbered_atoms order atoms) (Variable w) o in
    let (a, k, e) = Contains-from_map (numbered_atom order) atoms b i in
    numbered_terms_below order a.terms w (λ v l. h v (OccursIn-from_atom atoms (Variable v) a k l))
    (subst (λ (c : Atom). Contains c.terms (Variable w)) (sym e) j)

-- A query's order has its variables.
pub Contains-query_order : (q : Query) (v : ℕ) → IsVariableOf q v → Contains (query_order q) v
Contains-query_order q v s = Contains-order_with [] (q.answers ++ terms_of q.atoms) v (⊎_elim
    (λ o. Contains-append_right q.answers (terms_of q.atoms) (Variable v) (Contains-terms_of q.atoms (Variable v) o))
    (λ i. Contains-append_left q.answers (terms_of q.atoms) (Variable v) i) s)

query_path : (a b : Query) → a.answers ≡ b.answers → a.atoms ≡ b.atoms → a ≡ b
query_path a b p q = λ i. record { answers = p i; atoms = q i }

-- numbering the answers first, and then the atoms by the longer order, numbers the query
pub numbered_query-parts : (q : Query) (first last : List ℕ) (answers : List Term) (atoms : List Atom) → first ≡ order_with [] q.answers →
    last ≡ order_with first (terms_of q.atoms) → answers ≡ numbered_terms first q.answers → atoms ≡ numbered_atoms last q.atoms →
    (last ≡ query_order q) × ((record { answers = answers; atoms = atoms }) ≡ numbered_query q)
numbered_query-parts q first last answers atoms e f g h =
    let whole : last ≡ query_order q = f ∙ (ap (λ o. order_with o (terms_of q.atoms)) e ∙ sym (order_with-append [] q.answers (terms_of q.atoms))) in
    let early : answers ≡ numbered_terms (query_order q) q.answers =
    g ∙ (ap (λ o. numbered_terms o q.answers) e ∙ (numbered_terms-with [] q.answers (terms_of q.atoms) ∙
    ap (λ o. numbered_terms o q.answers) (sym (order_with-append [] q.answers (terms_of q.atoms))))) in
    (whole, query_path _ _ early (h ∙ ap (λ o. numbered_atoms o q.atoms) whole))

-- a numbered query is isomorphic to the query
pub IsIsomorphism-numbered : (q : Query) → IsIsomorphism (numbering (query_order q)) q (numbered_query q)
IsIsomorphism-numbered q = record {
  renames = λ v i. (position_or_len (nat_eq v) (query_order q), refl);
  apart = λ v w i j e.
      let f : position_or_len (nat_eq v) (query_order q) ≡ position_or_len (nat_eq w) (query_order q) = cc in
      position_same nat_eq IsEquality-nat_eq (query_order q) v w (Contains-query_order q v i) (Contains-query_order q w j) f;
  answers = sym (numbered_terms-image (query_order q) q.answers);
  atoms = subst (λ l. IsSameSet (atoms_image (numbering (query_order q)) q.atoms) l) (sym (numbered_atoms-image (query_order q) q.atoms))
      (IsSameSet-refl (atoms_image (numbering (query_order q)) q.atoms));
}

pub AreIsomorphic-numbered : (q : Query) → AreIsomorphic q (numbered_query q)
AreIsomorphic-numbered q = record { renaming = numbering (query_order q); isomorphism = IsIsomorphism-numbered q }

-- a numbered query is safe where the query is
pub IsSafe-numbered : (q : Query) → IsSafe q → IsSafe (numbered_query q)
IsSafe-numbered q s = record {
  nonempty = let l = s.nonempty in omega (arith, length-map q.atoms (numbered_atom (query_order q)));
  answers = λ w i.
      let (t, j, e) = Contains-from_map (numbered_term (query_order q)) q.answers (Variable w) i in
      subst (λ (x : Term). OccursIn (numbered_atoms (query_order q) q.atoms) x) e (occurs t w j e);
}
  where
    numbered_occurs : (t : Term) → OccursIn q.atoms t → OccursIn (numbered_atoms (query_order q) q.atoms) (numbered_term (query_order q) t)
    numbered_occurs t o =
        let (a, i, j) = OccursIn-atom q.atoms t o in
        OccursIn-from_atom (numbered_atoms (query_order q) q.atoms) (numbered_term (query_order q) t) (numbered_atom (query_order q) a)
        (Contains-map (numbered_atom (query_order q)) q.atoms a i) (Contains-map (numbered_term (query_order q)) a.terms t j)

    occurs : (t : Term) (w : ℕ) → Contains q.answers t → numbered_term (query_order q) t ≡ Variable w → OccursIn (numbered_atoms (query_order q) q.atoms) (numbered_term (query_order q) t)
    occurs (Constant c) w i e = absurd cc
    occurs (Variable v) w i e = numbered_occurs (Variable v) (s.answers v i)

-- and it is stored where it is small
pub IsStored-numbered : (q : Query) → IsSafe q → HasEachOnce q.atoms → length q.answers ≤ 16 → length q.atoms ≤ ATOMS → length (query_order q) ≤ VARIABLES →
    IsStored (numbered_query q)
IsStored-numbered q safe once few_answers few_atoms few = record {
  safe = IsSafe-numbered q safe;
  once = HasEachOnce-numbered (query_order q) q.atoms (λ v o. Contains-query_order q v (inl o)) once;
  few_atoms = subst (λ n. n ≤ ATOMS) (sym (length-map q.atoms (numbered_atom (query_order q)))) few_atoms;
  few_answers = subst (λ n. n ≤ 16) (sym (length-map q.answers (numbered_term (query_order q)))) few_answers;
  variables = λ w s.
      let below : w < length (query_order q) = ⊎_elim
      (λ o. numbered_atoms_below (query_order q) q.atoms w (λ v p. Contains-query_order q v (inl p)) o)
      (λ i. numbered_terms_below (query_order q) q.answers w (λ v j. Contains-query_order q v (inr j)) i) s in
      omega arith;
}

-- what a function that numbers in place makes of a query's parts
pub record IsMadeBy (q : Query) (first last : List ℕ) (answers : List Term) (atoms : List Atom) : Type 0 where
  pub first_is : first ≡ order_with [] q.answers
  pub last_is : last ≡ order_with first (terms_of q.atoms)
  pub answers_are : answers ≡ numbered_terms first q.answers
  pub atoms_are : atoms ≡ numbered_atoms last q.atoms
  pub few_first : length first ≤ length q.answers
  pub few_last : length last ≤ length first + 16 * length q.atoms

-- is the numbered query
pub IsNumberedFrom-made : (q : Query) (first last : List ℕ) (answers : List Term) (atoms : List Atom) → IsMadeBy q first last answers atoms →
    length q.answers ≤ 16 → length q.atoms ≤ ATOMS → IsNumberedFrom q (record { answers = answers; atoms = atoms })
IsNumberedFrom-made q first last answers atoms m few_answers few_atoms =
    let (order, same) = numbered_query-parts q first last answers atoms m.first_is m.last_is m.answers_are m.atoms_are in
    record { same = same; few = subst (λ o. length o ≤ VARIABLES) order (omega (arith, m.few_first, m.few_last)) }

-- and stored
pub IsStored-from : (q numbered : Query) → IsNumberedFrom q numbered → IsSafe q → HasEachOnce q.atoms → length q.answers ≤ 16 → length q.atoms ≤ ATOMS → IsStored numbered
IsStored-from q numbered n safe once few_answers few_atoms = subst IsStored (sym n.same) (IsStored-numbered q safe once few_answers few_atoms n.few)

-- the same for equal lists
pub IsNumberedFrom-same : (answers next_answers made next_made : List Term) (atoms next_atoms kept next_kept : List Atom) → answers ≡ next_answers → atoms ≡ next_atoms →
    next_made ≡ made → next_kept ≡ kept → IsNumberedFrom (record { answers = answers; atoms = atoms }) (record { answers = made; atoms = kept }) →
    IsNumberedFrom (record { answers = next_answers; atoms = next_atoms }) (record { answers = next_made; atoms = next_kept })
IsNumberedFrom-same answers next_answers made next_made atoms next_atoms kept next_kept e f g h n =
    let from = query_path (record { answers = answers; atoms = atoms }) (record { answers = next_answers; atoms = next_atoms }) e f in
    let to = query_path (record { answers = next_made; atoms = next_kept }) (record { answers = made; atoms = kept }) g h in
    subst (λ q. IsNumberedFrom q (record { answers = next_made; atoms = next_kept })) from
    (subst (λ q. IsNumberedFrom (record { answers = answers; atoms = atoms }) q) (sym to) n)
