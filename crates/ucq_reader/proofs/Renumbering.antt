-- Variables that are numbered by first occurrence keep their numbers when they are numbered again.
use Rattle.std.proofs.Common.{◌≡◌, ℕ, Bool, true, false, cond, not, ◌+◌, List, [], ◌∷◌, ◌++◌, map, refl, sym, ap, ap₂, ◌∙◌, subst, Contains, nat_eq, append_assoc, inl, inr, ⊎_elim}
use Rattle.std.specs.List.{list_any, position_or_len, filter_map}
use Rattle.std.specs.Str.{bytes_eq}
use Rattle.std.proofs.lemmas.Bool.Decides.{same_from_decides}
use Rattle.std.proofs.lemmas.List.{append-nil, map-append}
use Rattle.std.proofs.lemmas.List.Elements.{Contains-append_left, Contains-append_right}
use Rattle.ucq_terms.specs.declared.Term.{Term}
use Rattle.ucq_terms.specs.declared.Term.TheVariants.{Variable}
use Rattle.ucq_terms.specs.Syntax.{Atom, Rule, HasEachOnce, IsSameSet}
use Rattle.ucq_terms.specs.Numbering.{variable_of, terms_of, order_with, each_once, atom_eq, numbered_term, numbered_terms, numbered_atom, numbered_atoms, numbered_rule, normal_query}
use Rattle.ucq_terms.specs.Numbering.{variables_in as numbers_in}
use Rattle.ucq_terms.proofs.Decide.{atom_path}
use Rattle.ucq_terms.proofs.Equality.{IsEquality-nat_eq, IsEquality-atom_eq, eq_same, eq_refl}
use Rattle.ucq_terms.proofs.Idempotence.{with_elements-map}
use Rattle.ucq_terms.proofs.Lists.{Contains-first, Contains-rest, Contains-cons_cases, Contains-empty, Contains-flat_map, map-same_on}
use Rattle.ucq_terms.proofs.Numbering.{with_element, with_elements, Contains-first_occurrences, Contains-from_first_occurrences, Contains-from_any, position_same, position_or_len-map}
use Rattle.ucq_terms.proofs.Numbering.{with_element-held}
use Rattle.ucq_terms.proofs.Once.{IsSameSet-each_once, HasEachOnce-each_once}
use Rattle.ucq_terms.proofs.Orders.{order_with-append, Contains-order_with, Contains-from_variables}
use Rattle.ucq_terms.proofs.Texts.{IsEquality-bytes_eq}
use Rattle.ucq_reader.specs.Names.{number, in_order}
use Rattle.ucq_reader.specs.Meaning.{Symbol, constant, variable, SymbolAtom, SymbolRule, SymbolQuery}
use Rattle.ucq_reader.specs.Input.{variable_text, variables_in, terms_in, term_value, atom_value, rule_value, IsQueryOf}

-- two tests that agree find one place
position-agree : {A : Type 0} (p q : A → Bool) (xs : List A) → ((y : A) → Contains xs y → p y ≡ q y) → position_or_len p xs ≡ position_or_len q xs
position-agree p q [] h = refl
position-agree p q (x ∷ xs) h =
    ap₂ (λ b k. cond (not b) (1 + k) 0) (h x (Contains-first x xs)) (position-agree p q xs (λ y i. h y (Contains-rest x xs y i)))

-- The numbers of texts by first occurrence.
module _ (texts : List (List ℕ)) where
  place_apart : (x y : List ℕ) → Contains texts x → Contains texts y → number (in_order texts) x ≡ number (in_order texts) y → x ≡ y
  place_apart x y i j e =
      position_same bytes_eq IsEquality-bytes_eq (in_order texts) x y (Contains-first_occurrences bytes_eq IsEquality-bytes_eq texts x i)
      (Contains-first_occurrences bytes_eq IsEquality-bytes_eq texts y j) e

  -- are in order themselves
  numbers-in_order : with_elements nat_eq [] (map (number (in_order texts)) texts) ≡ map (number (in_order texts)) (in_order texts)
  numbers-in_order =
      with_elements-map bytes_eq nat_eq IsEquality-bytes_eq IsEquality-nat_eq (number (in_order texts)) [] texts
      (λ x y s t e. place_apart x y (⊎_elim (λ i. absurd (Contains-empty x i)) (λ i. i) s) (⊎_elim (λ i. absurd (Contains-empty y i)) (λ i. i) t) e)

  -- and each stands at its own place
  number-again : (x : List ℕ) → Contains texts x → position_or_len (nat_eq (number (in_order texts) x)) (with_elements nat_eq [] (map (number (in_order texts)) texts)) ≡ number (in_order texts) x
  number-again x i =
      let place = number (in_order texts) in
      ap (position_or_len (nat_eq (place x))) numbers-in_order ∙ (sym (position_or_len-map place (nat_eq (place x)) (in_order texts)) ∙
      position-agree (λ y. nat_eq (place x) (place y)) (bytes_eq x) (in_order texts)
      (λ y j. same_from_decides (nat_eq (place x) (place y)) (bytes_eq x y)
      (IsEquality-nat_eq.decides (place x) (place y)) (
        λ e. ap place (eq_same bytes_eq IsEquality-bytes_eq x y e),
        λ e. subst (λ z. bytes_eq x z ≡ true) (place_apart x y i (Contains-from_first_occurrences bytes_eq IsEquality-bytes_eq texts y j) e) (eq_refl bytes_eq IsEquality-bytes_eq x),
      )))

-- the variables of values
variables-values : (names : List (List ℕ)) (place : List ℕ → ℕ) (ts : List Symbol) → filter_map variable_of (map (term_value names place) ts) ≡ map place (filter_map variable_text ts)
variables-values names place [] = refl
variables-values names place (constant text ∷ ts) = variables-values names place ts
variables-values names place (variable text ∷ ts) = ap (λ l. place text ∷ l) (variables-values names place ts)

-- the terms of values
pub terms-values : (names : List (List ℕ)) (place : List ℕ → ℕ) (atoms : List SymbolAtom) → terms_of (map (atom_value names place) atoms) ≡ map (term_value names place) (terms_in atoms)
terms-values names place [] = refl
terms-values names place (a ∷ atoms) =
    ap (λ l. map (term_value names place) a.terms ++ l) (terms-values names place atoms) ∙ sym (map-append (term_value names place) a.terms (terms_in atoms))

pub Contains-variable_texts : (ts : List Symbol) (x : List ℕ) → Contains ts (variable x) → Contains (filter_map variable_text ts) x
Contains-variable_texts [] x h = absurd (Contains-empty (variable x) h)
Contains-variable_texts (constant text ∷ ts) x h = elim (Contains-cons_cases (constant text) ts (variable x) h) [
  | inl e ↦ absurd cc
  | inr i ↦ Contains-variable_texts ts x i
]
Contains-variable_texts (variable text ∷ ts) x h = elim (Contains-cons_cases (variable text) ts (variable x) h) [
  | inl e ↦ let f : text ≡ x = cc in subst (λ z. Contains (text ∷ filter_map variable_text ts) z) f (Contains-first text (filter_map variable_text ts))
  | inr i ↦ Contains-rest text (filter_map variable_text ts) x (Contains-variable_texts ts x i)
]

-- Values of symbols whose variables are numbered by first occurrence among all of these.
module _ (names : List (List ℕ)) (all : List Symbol) where
  term-again : (t : Symbol) → ((x : List ℕ) → t ≡ variable x → Contains all (variable x)) →
      numbered_term (numbers_in (map (term_value names (number (variables_in all))) all)) (term_value names (number (variables_in all)) t) ≡ term_value names (number (variables_in all)) t
  term-again (constant text) h = refl
  term-again (variable text) h =
      ap Variable (ap (λ l. position_or_len (nat_eq (number (variables_in all) text)) (with_elements nat_eq [] l)) (variables-values names (number (variables_in all)) all) ∙
      number-again (filter_map variable_text all) text (Contains-variable_texts all text (h text refl)))

  pub terms-again : (ts : List Symbol) → ((t : Symbol) → Contains ts t → Contains all t) →
      numbered_terms (numbers_in (map (term_value names (number (variables_in all))) all)) (map (term_value names (number (variables_in all))) ts) ≡ map (term_value names (number (variables_in all))) ts
  terms-again [] h = refl
  terms-again (t ∷ ts) h =
      ap₂ (λ x xs. x ∷ xs) (term-again t (λ x e. subst (λ s. Contains all s) e (h t (Contains-first t ts)))) (terms-again ts (λ s i. h s (Contains-rest t ts s i)))

  pub atoms-again : (atoms : List SymbolAtom) → ((t : Symbol) → Contains (terms_in atoms) t → Contains all t) →
      numbered_atoms (numbers_in (map (term_value names (number (variables_in all))) all)) (map (atom_value names (number (variables_in all))) atoms) ≡ map (atom_value names (number (variables_in all))) atoms
  atoms-again [] h = refl
  atoms-again (a ∷ atoms) h =
      ap₂ (λ x xs. x ∷ xs) (atom_path _ _ refl (terms-again a.terms (λ t i. h t (Contains-append_left a.terms (terms_in atoms) t i))))
      (atoms-again atoms (λ t i. h t (Contains-append_right a.terms (terms_in atoms) t i)))

rule_path : (r s : Rule) → r.heads ≡ s.heads → r.body ≡ s.body → r ≡ s
rule_path r s p q = λ i. record { heads = p i; body = q i }

-- A rule's value stays.
pub rule-again : (names : List (List ℕ)) (r : SymbolRule) → numbered_rule (rule_value names r) ≡ rule_value names r
rule-again names r =
    let all = terms_in r.heads ++ terms_in r.body in
    let f = term_value names (number (variables_in all)) in
    let g = atom_value names (number (variables_in all)) in
    let terms : terms_of (map g r.heads) ++ terms_of (map g r.body) ≡ map f all =
    ap₂ (λ l m. l ++ m) (terms-values names (number (variables_in all)) r.heads) (terms-values names (number (variables_in all)) r.body) ∙ sym (map-append f (terms_in r.heads) (terms_in r.body)) in
    rule_path _ _
    (ap (λ o. numbered_atoms (numbers_in o) (map g r.heads)) terms ∙ atoms-again names all r.heads (λ t i. Contains-append_left (terms_in r.heads) (terms_in r.body) t i))
    (ap (λ o. numbered_atoms (numbers_in o) (map g r.body)) terms ∙ atoms-again names all r.body (λ t i. Contains-append_right (terms_in r.heads) (terms_in r.body) t i))

-- ---- atoms that stand twice

-- variables that the order has add nothing
with_held : (order xs : List ℕ) → ((v : ℕ) → Contains xs v → Contains order v) → with_elements nat_eq order xs ≡ order
with_held order [] h = refl
with_held order (x ∷ xs) h =
    ap (λ o. with_elements nat_eq o xs) (with_element-held nat_eq IsEquality-nat_eq order x (h x (Contains-first x xs))) ∙ with_held order xs (λ v i. h v (Contains-rest x xs v i))

terms_of-append : (xs ys : List Atom) → terms_of (xs ++ ys) ≡ terms_of xs ++ terms_of ys
terms_of-append [] ys = refl
terms_of-append (x ∷ xs) ys = ap (λ l. x.terms ++ l) (terms_of-append xs ys) ∙ sym (append_assoc x.terms (terms_of xs) (terms_of ys))

-- one more atom makes the order longer by its variables, whether it is there or not
order-with_atom : (order : List ℕ) (seen : List Atom) (a : Atom) → order_with order (terms_of (with_element atom_eq seen a)) ≡ order_with (order_with order (terms_of seen)) a.terms
order-with_atom order seen a = go (list_any (atom_eq a) seen) refl
  where
    go : (b : Bool) → list_any (atom_eq a) seen ≡ b → order_with order (terms_of (cond b seen (seen ++ a ∷ []))) ≡ order_with (order_with order (terms_of seen)) a.terms
    go true e =
        sym (with_held (order_with order (terms_of seen)) (filter_map variable_of a.terms)
        (λ v i. Contains-order_with order (terms_of seen) v
        (Contains-flat_map (λ (b : Atom). b.terms) seen a (Variable v) (Contains-from_any atom_eq IsEquality-atom_eq seen a e) (Contains-from_variables a.terms v i))))
    go false e =
        ap (order_with order) (terms_of-append seen (a ∷ []) ∙ ap (λ l. terms_of seen ++ l) (append-nil a.terms)) ∙ order_with-append order (terms_of seen) a.terms

order-with_atoms : (order : List ℕ) (seen atoms : List Atom) → order_with order (terms_of (with_elements atom_eq seen atoms)) ≡ order_with (order_with order (terms_of seen)) (terms_of atoms)
order-with_atoms order seen [] = refl
order-with_atoms order seen (a ∷ atoms) =
    order-with_atoms order (with_element atom_eq seen a) atoms ∙ (ap (λ o. order_with o (terms_of atoms)) (order-with_atom order seen a) ∙
    sym (order_with-append (order_with order (terms_of seen)) a.terms (terms_of atoms)))

-- so a query's order stays
order-each_once : (answers : List Term) (atoms : List Atom) → numbers_in (answers ++ terms_of (each_once atoms)) ≡ numbers_in (answers ++ terms_of atoms)
order-each_once answers atoms =
    order_with-append [] answers (terms_of (each_once atoms)) ∙ (order-with_atoms (order_with [] answers) [] atoms ∙ sym (order_with-append [] answers (terms_of atoms)))

-- numbering goes by what stands in a list
numbered_atoms-same : (order : List ℕ) (xs ys : List Atom) → numbered_atoms order ys ≡ ys → ((a : Atom) → Contains xs a → Contains ys a) → numbered_atoms order xs ≡ xs
numbered_atoms-same order xs ys e within = map-same_on (numbered_atom order) (λ a. a) xs (λ a i. each a ys e (within a i)) ∙ map-same xs
  where
    each : (a : Atom) (ys : List Atom) → numbered_atoms order ys ≡ ys → Contains ys a → numbered_atom order a ≡ a
    each a [] e i = absurd (Contains-empty a i)
    each a (y ∷ ys) e i = elim (Contains-cons_cases y ys a i) [
      | inl f ↦ let h : numbered_atom order y ≡ y = cc in subst (λ b. numbered_atom order b ≡ b) f h
      | inr j ↦ let h : numbered_atoms order ys ≡ ys = cc in each a ys h j
    ]

    map-same : (xs : List Atom) → map (λ a. a) xs ≡ xs
    map-same [] = refl
    map-same (x ∷ xs) = ap (λ l. x ∷ l) (map-same xs)

-- The normal query of a query's values is the query.
pub query-again : (names : List (List ℕ)) (q : SymbolQuery) (answers : List Term) (atoms : List Atom) →
    answers ≡ map (term_value names (number (variables_in (q.answers ++ terms_in q.atoms)))) q.answers → atoms ≡ map (atom_value names (number (variables_in (q.answers ++ terms_in q.atoms)))) q.atoms →
    IsQueryOf names q (normal_query (record { answers = answers; atoms = atoms }))
query-again names q answers atoms are_answers are_atoms =
    let all = q.answers ++ terms_in q.atoms in
    let f = term_value names (number (variables_in all)) in
    let g = atom_value names (number (variables_in all)) in
    let values = map g q.atoms in
    let terms : map f q.answers ++ terms_of values ≡ map f all = ap (λ l. map f q.answers ++ l) (terms-values names (number (variables_in all)) q.atoms) ∙ sym (map-append f q.answers (terms_in q.atoms)) in
    let order : numbers_in (map f q.answers ++ terms_of (each_once values)) ≡ numbers_in (map f all) = order-each_once (map f q.answers) values ∙ ap numbers_in terms in
    let kept : numbered_atoms (numbers_in (map f all)) (each_once values) ≡ each_once values =
    numbered_atoms-same (numbers_in (map f all)) (each_once values) values (atoms-again names all q.atoms (λ t i. Contains-append_right q.answers (terms_in q.atoms) t i))
    (λ a i. Contains-from_first_occurrences atom_eq IsEquality-atom_eq values a i) in
    let same_atoms : numbered_atoms (numbers_in (map f q.answers ++ terms_of (each_once values))) (each_once values) ≡ each_once values = ap (λ o. numbered_atoms o (each_once values)) order ∙ kept in
    let made : IsQueryOf names q (normal_query (record { answers = map f q.answers; atoms = values })) = record {
      answers = ap (λ o. numbered_terms o (map f q.answers)) order ∙ terms-again names all q.answers (λ t i. Contains-append_left q.answers (terms_in q.atoms) t i);
      atoms = subst (λ l. IsSameSet l values) (sym same_atoms) (IsSameSet-each_once values);
      once = subst HasEachOnce (sym same_atoms) (HasEachOnce-each_once values);
    } in
    subst (λ l. IsQueryOf names q (normal_query (record { answers = l; atoms = atoms }))) (sym are_answers)
    (subst (λ m. IsQueryOf names q (normal_query (record { answers = map f q.answers; atoms = m }))) (sym are_atoms) made)
