-- What numbering and keeping each atom once make of a query, they leave as it is.
use Rattle.std.proofs.Common.{◌≡◌, ◌≢◌, ℕ, ◌<◌, Bool, true, false, nat_eq, List, [], ◌∷◌, ◌++◌, map, length, Contains, get_or, refl, sym, ap, ap₂}
use Rattle.std.proofs.Common.{◌∙◌, subst, append_assoc, arith, ◌⊎◌, inl, inr, ⊎_elim}
use Rattle.std.specs.List.{list_any, position_or_len, filter_map}
use Rattle.std.proofs.lemmas.Bool.{cases_eq}
use Rattle.std.proofs.lemmas.List.{map-append, length-map, append-nil, get_or_default}
use Rattle.std.proofs.Math.ListN.{get_or-map}
use Rattle.std.proofs.lemmas.List.Elements.{Contains-get_or, Contains-append_cases}
use Rattle.ucq_terms.specs.declared.Term.{Term}
use Rattle.ucq_terms.specs.declared.Term.TheVariants.{Constant, Variable}
use Rattle.ucq_terms.specs.Syntax.{Atom, Query, HasEachOnce, IsVariableOf, atom_image, atoms_image}
use Rattle.ucq_terms.specs.Homomorphism.{AreIsomorphic}
use Rattle.ucq_terms.specs.Numbering.{variable_of, terms_of, order_with, query_order, numbered_term, numbered_terms, numbered_atoms, atom_eq}
use Rattle.ucq_terms.specs.Numbering.{first_occurrences, each_once, numbered_query, normal_query}
use Rattle.ucq_terms.proofs.Decide.{atom_path}
use Rattle.ucq_terms.proofs.Distinct.{IsDistinct}
use Rattle.ucq_terms.proofs.Equality.{IsEquality, IsEquality-nat_eq, IsEquality-atom_eq}
use Rattle.ucq_terms.proofs.Images.{IsSubset-from_image, Contains-from_image, Contains-image}
use Rattle.ucq_terms.proofs.Lists.{Contains-first, Contains-rest, Contains-cons_cases, Contains-empty, Contains-map, Contains-from_map}
use Rattle.ucq_terms.proofs.Normal.{HasVariables, numbering, HasEachOnce-numbered}
use Rattle.ucq_terms.proofs.Normal.{Contains-query_order, IsIsomorphism-numbered}
use Rattle.ucq_terms.proofs.Numbering.{with_element, with_elements, with_element-held, with_element-new, Contains-from_any, any_from_contains}
use Rattle.ucq_terms.proofs.Numbering.{position_below, position_same, get_or-position, IsDistinct-first_occurrences, Contains-with_element_cases}
use Rattle.ucq_terms.proofs.Once.{IsSameSet-each_once, HasEachOnce-each_once, OccursIn-each_once}
use Rattle.ucq_terms.proofs.Orders.{Contains-from_variables, OccursIn-terms_of}
use Rattle.ucq_terms.proofs.Pairwise.{AllPairs-first, AllPairs-rest, AllPairs-at}
use Rattle.ucq_terms.proofs.Subsets.{IsSubset-contains, IsSubset-from_contains, OccursIn-from_atom}

-- A list without repetition has each of its elements once already.
module _ {A : Type 0} (eq : A → A → Bool) (same : IsEquality eq) where
  pub with_elements-distinct : (seen xs : List A) → IsDistinct xs → ((x : A) → Contains xs x → ¬ Contains seen x) → with_elements eq seen xs ≡ seen ++ xs
  with_elements-distinct seen [] d h = sym (append-nil seen)
  with_elements-distinct seen (x ∷ xs) d h =
      let grown = with_element-new eq same seen x (h x (Contains-first x xs)) in
      ap (λ l. with_elements eq l xs) grown ∙
      (with_elements-distinct (seen ++ x ∷ []) xs (AllPairs-rest (λ (a b : A). a ≢ b) x xs d)
      (λ y i j. elim (Contains-append_cases seen (x ∷ []) y j) [
        | inl k ↦ h y (Contains-rest x xs y i) k
        | inr k ↦ elim (Contains-cons_cases x [] y k) [ inl e ↦ AllPairs-first (λ (a b : A). a ≢ b) x xs y d i e | inr l ↦ absurd (Contains-empty y l) ]
      ]) ∙
      append_assoc seen (x ∷ []) xs)

  pub first_occurrences-distinct : (xs : List A) → IsDistinct xs → first_occurrences eq xs ≡ xs
  first_occurrences-distinct xs d = with_elements-distinct [] xs d (λ x i j. Contains-empty x j)

pub each_once-same : (atoms : List Atom) → HasEachOnce atoms → each_once atoms ≡ atoms
each_once-same atoms once = first_occurrences-distinct atom_eq IsEquality-atom_eq atoms once

-- A map that is one to one on the elements keeps first occurrences.
module _ {A B : Type 0} (eq : A → A → Bool) (eq' : B → B → Bool) (same : IsEquality eq) (same' : IsEquality eq') (f : A → B) where
  pub with_element-map : (seen : List A) (x : A) → ((y : A) → Contains seen y → f y ≡ f x → y ≡ x) →
      with_element eq' (map f seen) (f x) ≡ map f (with_element eq seen x)
  with_element-map seen x one = go (list_any (eq x) seen) refl
    where
      go : (b : Bool) → list_any (eq x) seen ≡ b → with_element eq' (map f seen) (f x) ≡ map f (with_element eq seen x)
      go true e =
          let i = Contains-from_any eq same seen x e in
          with_element-held eq' same' (map f seen) (f x) (Contains-map f seen x i) ∙ ap (map f) (sym (with_element-held eq same seen x i))
      go false e =
          let off : ¬ Contains seen x = λ i. let bad : true ≡ false = sym (any_from_contains eq same seen x i) ∙ e in absurd cc in
          with_element-new eq' same' (map f seen) (f x)
          (λ i. let (y, j, g) = Contains-from_map f seen (f x) i in off (subst (λ (z : A). Contains seen z) (one y j g) j)) ∙
          (sym (map-append f seen (x ∷ [])) ∙ ap (map f) (sym (with_element-new eq same seen x off)))

  pub with_elements-map : (seen xs : List A) → ((x y : A) → Contains seen x ⊎ Contains xs x → Contains seen y ⊎ Contains xs y → f x ≡ f y → x ≡ y) →
      with_elements eq' (map f seen) (map f xs) ≡ map f (with_elements eq seen xs)
  with_elements-map seen [] one = refl
  with_elements-map seen (x ∷ xs) one =
      let here : (y : A) → Contains seen y → f y ≡ f x → y ≡ x = λ y i e. one y x (inl i) (inr (Contains-first x xs)) e in
      let back : (y : A) → Contains (with_element eq seen x) y ⊎ Contains xs y → Contains seen y ⊎ Contains (x ∷ xs) y =
      λ y s. ⊎_elim
      (λ i. ⊎_elim (λ j. inl j) (λ e. inr (subst (λ (z : A). Contains (x ∷ xs) z) e (Contains-first x xs))) (Contains-with_element_cases eq same seen x y i))
      (λ i. inr (Contains-rest x xs y i)) s in
      ap (λ l. with_elements eq' l (map f xs)) (with_element-map seen x here) ∙
      with_elements-map (with_element eq seen x) xs (λ y z i j e. one y z (back y i) (back z j) e)

-- an element of a list without repetition has the place where it stands
pub position-distinct : {A : Type 0} (eq : A → A → Bool) → IsEquality eq → (xs : List A) (i : ℕ) (d : A) → IsDistinct xs → i < length xs →
    position_or_len (eq (get_or xs i d)) xs ≡ i
position-distinct {A} eq same xs i d once l =
    let x = get_or xs i d in
    let within : Contains xs x = Contains-get_or xs i d l in
    let below = position_below eq xs x (any_from_contains eq same xs x within) in
    elim (cases_eq (position_or_len (eq x) xs) i) [
      | inl e ↦ e
      | inr n ↦ absurd (AllPairs-at (λ (a b : A). a ≢ b) xs (position_or_len (eq x) xs) i d (λ a b h e. h (sym e)) once below l n (get_or-position eq same xs x d within))
    ]

-- The variables of numbered terms.
variables-numbered : (order : List ℕ) (ts : List Term) →
    filter_map variable_of (numbered_terms order ts) ≡ map (λ v. position_or_len (nat_eq v) order) (filter_map variable_of ts)
variables-numbered order [] = refl
variables-numbered order (Constant c ∷ ts) = variables-numbered order ts
variables-numbered order (Variable v ∷ ts) = ap (λ l. position_or_len (nat_eq v) order ∷ l) (variables-numbered order ts)

terms_of-numbered : (order : List ℕ) (atoms : List Atom) → terms_of (numbered_atoms order atoms) ≡ numbered_terms order (terms_of atoms)
terms_of-numbered order [] = refl
terms_of-numbered order (a ∷ atoms) =
    ap (λ l. numbered_terms order a.terms ++ l) (terms_of-numbered order atoms) ∙ sym (map-append (numbered_term order) a.terms (terms_of atoms))

-- the query's variables are 0, 1, 2 and so on, in order of first occurrence
pub record IsInOrder (q : Query) : Type 0 where
  pub at : (place : ℕ) → place < length (query_order q) → get_or (query_order q) place 0 ≡ place

-- the order of a numbered query
pub query_order-numbered : (q : Query) → query_order (numbered_query q) ≡ map (λ v. position_or_len (nat_eq v) (query_order q)) (query_order q)
query_order-numbered q =
    let order = query_order q in
    let all = q.answers ++ terms_of q.atoms in
    let place : ℕ → ℕ = λ v. position_or_len (nat_eq v) order in
    let terms : numbered_terms order q.answers ++ terms_of (numbered_atoms order q.atoms) ≡ numbered_terms order all =
    ap (λ l. numbered_terms order q.answers ++ l) (terms_of-numbered order q.atoms) ∙ sym (map-append (numbered_term order) q.answers (terms_of q.atoms)) in
    let known : (v : ℕ) → Contains {X = ℕ} [] v ⊎ Contains (filter_map variable_of all) v → Contains order v =
    λ v s. ⊎_elim (λ i. absurd (Contains-empty v i)) (λ i. kept q v (Contains-from_variables all v i)) s in
    ap (order_with []) terms ∙ (ap (with_elements nat_eq []) (variables-numbered order all) ∙
    with_elements-map nat_eq nat_eq IsEquality-nat_eq IsEquality-nat_eq place [] (filter_map variable_of all)
    (λ v w i j e. position_same nat_eq IsEquality-nat_eq order v w (known v i) (known w j) e))
  where
    kept : (q : Query) (v : ℕ) → Contains (q.answers ++ terms_of q.atoms) (Variable v) → Contains (query_order q) v
    kept q v i = Contains-query_order q v (elim (Contains-append_cases q.answers (terms_of q.atoms) (Variable v) i) [
      | inl j ↦ inr j
      | inr j ↦ inl (OccursIn-terms_of q.atoms (Variable v) j)
    ])

pub IsInOrder-numbered : (q : Query) → IsInOrder (numbered_query q)
IsInOrder-numbered q = record {
  at = λ k l.
      let order = query_order q in
      let place : ℕ → ℕ = λ v. position_or_len (nat_eq v) order in
      let e = query_order-numbered q in
      let m : k < length order = omega (arith, ap length e, length-map order place) in
      let n : k < length (map place order) = omega (arith, length-map order place) in
      ap (λ o. get_or o k 0) e ∙ (get_or_default (map place order) k 0 (place 0) n ∙ get_or-map place order k 0 ∙
      position-distinct nat_eq IsEquality-nat_eq order k 0 (IsDistinct-first_occurrences nat_eq IsEquality-nat_eq (filter_map variable_of (q.answers ++ terms_of q.atoms))) m);
}

-- A query whose variables are numbered so stays as it is.
pub numbered_query-same : (q : Query) → IsInOrder q → numbered_query q ≡ q
numbered_query-same q h = λ i. record { answers = answers i; atoms = atoms i }
  where
    term : (t : Term) → ((v : ℕ) → t ≡ Variable v → Contains (query_order q) v) → numbered_term (query_order q) t ≡ t
    term (Constant c) k = refl
    term (Variable v) k =
        let i = k v refl in
        let l = position_below nat_eq (query_order q) v (any_from_contains nat_eq IsEquality-nat_eq (query_order q) v i) in
        ap Variable (sym (h.at (position_or_len (nat_eq v) (query_order q)) l) ∙ get_or-position nat_eq IsEquality-nat_eq (query_order q) v 0 i)

    terms : (ts : List Term) → HasVariables (query_order q) ts → numbered_terms (query_order q) ts ≡ ts
    terms [] k = refl
    terms (t ∷ ts) k =
        ap₂ (λ x xs. x ∷ xs) (term t (λ v e. k v (subst (λ (x : Term). Contains (t ∷ ts) x) e (Contains-first t ts)))) (terms ts (λ v i. k v (Contains-rest t ts (Variable v) i)))

    answers : numbered_terms (query_order q) q.answers ≡ q.answers
    answers = terms q.answers (λ v i. Contains-query_order q v (inr i))

    atoms_same : (xs : List Atom) → ((a : Atom) → Contains xs a → Contains q.atoms a) → numbered_atoms (query_order q) xs ≡ xs
    atoms_same [] k = refl
    atoms_same (a ∷ xs) k =
        ap₂ (λ x ys. x ∷ ys)
        (atom_path _ _ refl (terms a.terms (λ v i. Contains-query_order q v (inl (OccursIn-from_atom q.atoms (Variable v) a (k a (Contains-first a xs)) i)))))
        (atoms_same xs (λ b i. k b (Contains-rest a xs b i)))

    atoms : numbered_atoms (query_order q) q.atoms ≡ q.atoms
    atoms = atoms_same q.atoms (λ a i. i)

pub normal_query-same : (q : Query) → HasEachOnce q.atoms → IsInOrder q → normal_query q ≡ q
normal_query-same q once h =
    ap (λ (atoms : List Atom). numbered_query (record { answers = q.answers; atoms = atoms })) (each_once-same q.atoms once) ∙ numbered_query-same q h

-- So both are idempotent.
pub numbered_query-numbered : (q : Query) → numbered_query (numbered_query q) ≡ numbered_query q
numbered_query-numbered q = numbered_query-same (numbered_query q) (IsInOrder-numbered q)

pub HasEachOnce-normal : (q : Query) → HasEachOnce (normal_query q).atoms
HasEachOnce-normal q =
    let p : Query = record { answers = q.answers; atoms = each_once q.atoms } in
    HasEachOnce-numbered (query_order p) (each_once q.atoms) (λ v o. Contains-query_order p v (inl o)) (HasEachOnce-each_once q.atoms)

pub IsInOrder-normal : (q : Query) → IsInOrder (normal_query q)
IsInOrder-normal q = IsInOrder-numbered (record { answers = q.answers; atoms = each_once q.atoms })

pub normal_query-normal : (q : Query) → normal_query (normal_query q) ≡ normal_query q
normal_query-normal q = normal_query-same (normal_query q) (HasEachOnce-normal q) (IsInOrder-normal q)

-- the normal query is isomorphic to the query
pub AreIsomorphic-normal : (q : Query) → AreIsomorphic q (normal_query q)
AreIsomorphic-normal q =
    let once = each_once q.atoms in
    let p : Query = record { answers = q.answers; atoms = once } in
    let i = IsIsomorphism-numbered p in
    let h = numbering (query_order p) in
    let moved : (v : ℕ) → IsVariableOf q v → IsVariableOf p v = λ v s. ⊎_elim (λ o. inl (OccursIn-each_once q.atoms (Variable v) o)) (λ j. inr j) s in
    record {
      renaming = h;
      isomorphism = record {
        renames = λ v s. i.renames v (moved v s);
        apart = λ v w s t e. i.apart v w (moved v s) (moved w t) e;
        answers = i.answers;
        atoms = (
          IsSubset-from_image h q.atoms (numbered_atoms (query_order p) once)
              (λ a j. IsSubset-contains (atoms_image h once) (numbered_atoms (query_order p) once) (atom_image h a) i.atoms.0
              (Contains-image h once a (IsSubset-contains q.atoms once a (IsSameSet-each_once q.atoms).1 j))),
          IsSubset-from_contains (numbered_atoms (query_order p) once) (atoms_image h q.atoms)
              (λ b j. let (a, k, e) = Contains-from_image h once b (IsSubset-contains (numbered_atoms (query_order p) once) (atoms_image h once) b i.atoms.1 j) in
              subst (λ (c : Atom). Contains (atoms_image h q.atoms) c) e (Contains-image h q.atoms a (IsSubset-contains once q.atoms a (IsSameSet-each_once q.atoms).0 k))),
        );
      };
    }
