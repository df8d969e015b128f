-- Orders of variables, and what terms and atoms become when their variables are numbered by them.
use Rattle.std.proofs.Common.{drop, get_or, ◌≡◌, ℕ, suc, ◌+◌, ◌<◌, ◌≤◌, nat_eq, List, [], ◌∷◌, ◌++◌, length, Contains, refl, sym, ap, ◌∙◌, subst, arith, inl, inr}
use Rattle.std.specs.List.{filter_map}
use Rattle.std.proofs.lemmas.List.Elements.{filter_map-append}
use Rattle.ucq_terms.specs.declared.Term.{Term}
use Rattle.ucq_terms.specs.declared.Term.TheVariants.{Constant, Variable}
use Rattle.ucq_terms.specs.Syntax.{Atom, OccursIn}
use Rattle.ucq_terms.specs.Numbering.{variable_of, terms_of, order_with, numbered_term, numbered_terms, numbered_atom, numbered_atoms}
use Rattle.ucq_terms.proofs.Decide.{atom_path}
use Rattle.ucq_terms.proofs.Equality.{IsEquality-nat_eq}
use Rattle.std.proofs.Math.ListN.{set}
use Rattle.std.proofs.Math.Seq.{drop-cons}
use Rattle.ucq_terms.proofs.Mapped.{mapped, get_or-mapped, set-mapped}
use Rattle.ucq_terms.proofs.Lists.{Contains-first, Contains-rest, Contains-cons_cases, Contains-empty, Contains-flat_map, Contains-from_flat_map, map-same_on}
use Rattle.ucq_terms.proofs.Numbering.{with_elements, with_elements-append, with_elements_keep, length-with_elements, position_keeps, any_from_contains}
use Rattle.ucq_terms.proofs.Numbering.{Contains-kept, Contains-with_elements}
use Rattle.ucq_terms.proofs.Subsets.{OccursIn-from_atom, OccursIn-atom}

-- The variables of a list of terms.
pub Contains-variables : (ts : List Term) (v : ℕ) → Contains ts (Variable v) → Contains (filter_map variable_of ts) v
Contains-variables [] v h = absurd (Contains-empty (Variable v) h)
Contains-variables (Constant c ∷ ts) v h = elim (Contains-cons_cases (Constant c) ts (Variable v) h) [
  | inl e ↦ absurd cc
  | inr i ↦ Contains-variables ts v i
]
Contains-variables (Variable w ∷ ts) v h = elim (Contains-cons_cases (Variable w) ts (Variable v) h) [
  | inl e ↦ let f : w ≡ v = cc in subst (λ z. Contains (w ∷ filter_map variable_of ts) z) f (Contains-first w (filter_map variable_of ts))
  | inr i ↦ Contains-rest w (filter_map variable_of ts) v (Contains-variables ts v i)
]

pub Contains-from_variables : (ts : List Term) (v : ℕ) → Contains (filter_map variable_of ts) v → Contains ts (Variable v)
Contains-from_variables [] v h = absurd (Contains-empty v h)
Contains-from_variables (Constant c ∷ ts) v h = Contains-rest (Constant c) ts (Variable v) (Contains-from_variables ts v h)
Contains-from_variables (Variable w ∷ ts) v h = elim (Contains-cons_cases w (filter_map variable_of ts) v h) [
  | inl e ↦ subst (λ z. Contains (Variable w ∷ ts) (Variable z)) e (Contains-first (Variable w) ts)
  | inr i ↦ Contains-rest (Variable w) ts (Variable v) (Contains-from_variables ts v i)
]

pub length-variables : (ts : List Term) → length (filter_map variable_of ts) ≤ length ts
length-variables [] = omega arith
length-variables (Constant c ∷ ts) = omega (arith, length-variables ts)
length-variables (Variable w ∷ ts) = omega (arith, length-variables ts)

-- Orders grow at their end.
pub order_with-append : (order : List ℕ) (ts us : List Term) → order_with order (ts ++ us) ≡ order_with (order_with order ts) us
order_with-append order ts us =
    ap (with_elements nat_eq order) (filter_map-append variable_of ts us) ∙
    with_elements-append nat_eq order (filter_map variable_of ts) (filter_map variable_of us)

pub order_with_keeps : (order : List ℕ) (ts : List Term) → (more : List ℕ) × (order_with order ts ≡ order ++ more)
order_with_keeps order ts = with_elements_keep nat_eq order (filter_map variable_of ts)

pub length-order_with : (order : List ℕ) (ts : List Term) → length (order_with order ts) ≤ length order + length ts
length-order_with order ts = omega (arith, length-with_elements nat_eq order (filter_map variable_of ts), length-variables ts)

pub Contains-order_kept : (order : List ℕ) (ts : List Term) (v : ℕ) → Contains order v → Contains (order_with order ts) v
Contains-order_kept order ts v h = Contains-kept nat_eq order (filter_map variable_of ts) v h

pub Contains-order_with : (order : List ℕ) (ts : List Term) (v : ℕ) → Contains ts (Variable v) → Contains (order_with order ts) v
Contains-order_with order ts v h = Contains-with_elements nat_eq IsEquality-nat_eq order (filter_map variable_of ts) v (Contains-variables ts v h)

-- the terms of a list of atoms
pub Contains-terms_of : (atoms : List Atom) (t : Term) → OccursIn atoms t → Contains (terms_of atoms) t
Contains-terms_of atoms t o = let (a, i, j) = OccursIn-atom atoms t o in Contains-flat_map (λ (a : Atom). a.terms) atoms a t i j

pub OccursIn-terms_of : (atoms : List Atom) (t : Term) → Contains (terms_of atoms) t → OccursIn atoms t
OccursIn-terms_of atoms t h = let (a, i, j) = Contains-from_flat_map (λ (a : Atom). a.terms) atoms t h in OccursIn-from_atom atoms t a i j

-- What the order has already keeps its number in a longer one.
pub numbered_term-longer : (order more : List ℕ) (t : Term) → ((v : ℕ) → t ≡ Variable v → Contains order v) →
    numbered_term (order ++ more) t ≡ numbered_term order t
numbered_term-longer order more (Constant c) h = refl
numbered_term-longer order more (Variable v) h =
    ap Variable (position_keeps nat_eq order more v (any_from_contains nat_eq IsEquality-nat_eq order v (h v refl)))

pub numbered_terms-longer : (order more : List ℕ) (ts : List Term) → ((v : ℕ) → Contains ts (Variable v) → Contains order v) →
    numbered_terms (order ++ more) ts ≡ numbered_terms order ts
numbered_terms-longer order more ts h =
    map-same_on (numbered_term (order ++ more)) (numbered_term order) ts
    (λ t i. numbered_term-longer order more t (λ v e. h v (subst (λ (s : Term). Contains ts s) e i)))

pub numbered_atom-longer : (order more : List ℕ) (a : Atom) → ((v : ℕ) → Contains a.terms (Variable v) → Contains order v) →
    numbered_atom (order ++ more) a ≡ numbered_atom order a
numbered_atom-longer order more a h = atom_path _ _ refl (numbered_terms-longer order more a.terms h)

-- Terms that are numbered by an order that has them are as later orders number them.
pub numbered_terms-with : (order : List ℕ) (ts us : List Term) →
    numbered_terms (order_with order ts) ts ≡ numbered_terms (order_with (order_with order ts) us) ts
numbered_terms-with order ts us =
    let (more, e) = order_with_keeps (order_with order ts) us in
    sym (ap (λ o. numbered_terms o ts) e ∙ numbered_terms-longer (order_with order ts) more ts (λ v i. Contains-order_with order ts v i))

pub numbered_atoms-with : (order : List ℕ) (atoms : List Atom) (us : List Term) →
    numbered_atoms (order_with order (terms_of atoms)) atoms ≡ numbered_atoms (order_with (order_with order (terms_of atoms)) us) atoms
numbered_atoms-with order atoms us =
    let first = order_with order (terms_of atoms) in
    let (more, e) = order_with_keeps first us in
    sym (ap (λ o. numbered_atoms o atoms) e ∙
    map-same_on (numbered_atom (first ++ more)) (numbered_atom first) atoms
    (λ a i. numbered_atom-longer first more a
    (λ v j. Contains-order_with order (terms_of atoms) v (Contains-flat_map (λ (b : Atom). b.terms) atoms a (Variable v) i j))))

-- One step of a loop over a list, each element of which has terms and is numbered by its order.
pub record IsNumberedBy {X : Type 0} (terms : X → List Term) (numbered : List ℕ → X → X) : Type 0 where
  pub longer : (order more : List ℕ) (x : X) → ((v : ℕ) → Contains (terms x) (Variable v) → Contains order v) → numbered (order ++ more) x ≡ numbered order x

pub IsNumberedBy-term : IsNumberedBy (λ t. t ∷ []) numbered_term
IsNumberedBy-term = record { longer = λ order more t h. numbered_term-longer order more t (λ v e. h v (subst (λ (s : Term). Contains (t ∷ []) s) e (Contains-first t []))) }

pub IsNumberedBy-atom : IsNumberedBy (λ (a : Atom). a.terms) numbered_atom
IsNumberedBy-atom = record { longer = numbered_atom-longer }

module _ {X : Type 0} (terms : X → List Term) (numbered : List ℕ → X → X) (by : IsNumberedBy terms numbered) where
  -- the order after an element and the elements behind it numbers it as the order after it does
  pub numbered-last : (order : List ℕ) (x : X) (ts : List Term) →
      numbered (order_with order (terms x)) x ≡ numbered (order_with order (terms x ++ ts)) x
  numbered-last order x ts =
      let first = order_with order (terms x) in
      let (more, e) = order_with_keeps first ts in
      sym (ap (λ o. numbered o x) (order_with-append order (terms x) ts ∙ e) ∙ by.longer first more x (λ v i. Contains-order_with order (terms x) v i))

  module _ (all : List X → List Term) (split : (x : X) (xs : List X) → all (x ∷ xs) ≡ terms x ++ all xs) where
    -- a loop has numbered the first elements by the order that all of them make, and its own order makes that one with the rest
    pub numbering_step : (first order next : List ℕ) (xs now : List X) (i : ℕ) (x y d : X) → i < length xs →
        order_with order (all (drop i xs)) ≡ order_with first (all xs) → now ≡ mapped (numbered (order_with first (all xs))) i xs →
        x ≡ get_or now i d → next ≡ order_with order (terms x) → y ≡ numbered next x →
        (order_with next (all (drop (i + 1) xs)) ≡ order_with first (all xs)) × (set now i y ≡ mapped (numbered (order_with first (all xs))) (i + 1) xs)
    numbering_step first order next xs now i x y d l made done is grown new =
        let final = order_with first (all xs) in
        let rest = all (drop (suc i) xs) in
        let at : x ≡ get_or xs i d = is ∙ (ap (λ z. get_or z i d) done ∙ get_or-mapped (numbered final) xs i d l) in
        let parts : drop i xs ≡ x ∷ drop (suc i) xs = drop-cons xs i d l ∙ ap (λ z. z ∷ drop (suc i) xs) (sym at) in
        let whole : order_with order (terms x ++ rest) ≡ final = ap (order_with order) (sym (split x (drop (suc i) xs))) ∙ (ap (λ z. order_with order (all z)) (sym parts) ∙ made) in
        let later : order_with next rest ≡ final = ap (λ o. order_with o rest) grown ∙ (sym (order_with-append order (terms x) rest) ∙ whole) in
        let value : y ≡ numbered final (get_or xs i d) =
        new ∙ (ap (λ o. numbered o x) grown ∙ (numbered-last order x rest ∙ (ap (λ o. numbered o x) whole ∙ ap (numbered final) at))) in
        let one : i + 1 ≡ suc i = omega arith in (
          ap (λ n. order_with next (all (drop n xs))) one ∙ later,
          ap (λ z. set z i y) done ∙ (ap (set (mapped (numbered final) i xs) i) value ∙
              (set-mapped (numbered final) xs i d l ∙ ap (λ n. mapped (numbered final) n xs) (sym one))),
        )

-- the steps for terms and for atoms
pub terms_step : (first order next : List ℕ) (xs now : List Term) (i : ℕ) (x y d : Term) → i < length xs →
    order_with order (drop i xs) ≡ order_with first xs → now ≡ mapped (numbered_term (order_with first xs)) i xs →
    x ≡ get_or now i d → next ≡ order_with order (x ∷ []) → y ≡ numbered_term next x →
    (order_with next (drop (i + 1) xs) ≡ order_with first xs) × (set now i y ≡ mapped (numbered_term (order_with first xs)) (i + 1) xs)
terms_step = numbering_step (λ t. t ∷ []) numbered_term IsNumberedBy-term (λ ts. ts) (λ t ts. refl)

pub atoms_step : (first order next : List ℕ) (xs now : List Atom) (i : ℕ) (x y d : Atom) → i < length xs →
    order_with order (terms_of (drop i xs)) ≡ order_with first (terms_of xs) → now ≡ mapped (numbered_atom (order_with first (terms_of xs))) i xs →
    x ≡ get_or now i d → next ≡ order_with order x.terms → y ≡ numbered_atom next x →
    (order_with next (terms_of (drop (i + 1) xs)) ≡ order_with first (terms_of xs)) ×
    (set now i y ≡ mapped (numbered_atom (order_with first (terms_of xs))) (i + 1) xs)
atoms_step = numbering_step (λ (a : Atom). a.terms) numbered_atom IsNumberedBy-atom terms_of (λ a rest. refl)
