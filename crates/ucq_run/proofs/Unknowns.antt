-- The facts of inputs of one meaning differ in the numbers of unknown values alone, so they have the same answers.
use Rattle.std.proofs.Common.{◌≡◌, ℕ, List, [], ◌∷◌, map, get_or, Contains, refl, sym, ap, ap₂, ◌∙◌, subst, inl, inr, cond, eqb}
use Rattle.std.specs.List.{flat_map, enumerate_from}
use Rattle.std.proofs.lemmas.Bool.{cases_eq, cond-true, cond-false, eq-eqb, ne_eqb}
use Rattle.std.proofs.lemmas.List.Elements.{All-contains}
use Rattle.std.proofs.lemmas.List.{get_or_default}
use Rattle.ucq_terms.specs.declared.Term.{Term}
use Rattle.ucq_terms.specs.declared.Term.TheVariants.{Constant, Variable}
use Rattle.ucq_terms.specs.Syntax.{Atom, Query, Problem, IsSubset, term_image, terms_image, atom_image, atoms_image}
use Rattle.ucq_terms.specs.Homomorphism.{MapsInto}
use Rattle.ucq_terms.specs.Chase.{IsChaseAnswer}
use Rattle.ucq_terms.specs.Union.{IsExact, IsSound}
use Rattle.ucq_terms.proofs.Images.{composite, terms_image-composite, IsSubset-composite, IsSubset-from_image}
use Rattle.ucq_terms.proofs.Lists.{Any-contains, Contains-cons_cases, Contains-empty, Contains-first, Contains-rest, Contains-map, Contains-from_map, Contains-flat_map, Contains-from_flat_map, map-map, map-same_on}
use Rattle.ucq_terms.proofs.Zips.{Contains-from_enumerate}
use Rattle.ucq_chase.proofs.Replay.{sound_is_carried}
use Rattle.ucq_reader.specs.Meaning.{Symbol, constant, variable, SymbolAtom, Meant}
use Rattle.ucq_reader.specs.Input.{terms_in, term_value, atom_value, StandsIn, InputValue, HasNumbersOf}
use Rattle.ucq_eval.specs.Answers.{constants}
use Rattle.ucq_eval.proofs.Sorting.{tuple_cmp_total}
use Rattle.ucq_eval.proofs.Unique.{one_sorted_list}
use Rattle.ucq_run.specs.Finished.{AreChaseAnswers}

-- ---- the variables of fact statements

-- a fact statement's number, and the text of a variable
abbrev Unknown : Type 0
Unknown = ℕ × List ℕ

abbrev variables_of : List Symbol → List (List ℕ)
variables_of [] = []
variables_of (constant t ∷ ts) = variables_of ts
variables_of (variable x ∷ ts) = x ∷ variables_of ts

Contains-variables : (ts : List Symbol) (x : List ℕ) → Contains ts (variable x) → Contains (variables_of ts) x
Contains-variables [] x i = absurd (Contains-empty (variable x) i)
Contains-variables (constant t ∷ ts) x i = elim (Contains-cons_cases (constant t) ts (variable x) i) [
  | inl e ↦ absurd cc
  | inr j ↦ Contains-variables ts x j
]
Contains-variables (variable y ∷ ts) x i = elim (Contains-cons_cases (variable y) ts (variable x) i) [
  | inl e ↦ let same : y ≡ x = cc in subst (λ (z : List ℕ). Contains (y ∷ variables_of ts) z) same (Contains-first y (variables_of ts))
  | inr j ↦ Contains-rest y (variables_of ts) x (Contains-variables ts x j)
]

Contains-from_variables : (ts : List Symbol) (x : List ℕ) → Contains (variables_of ts) x → Contains ts (variable x)
Contains-from_variables [] x i = absurd (Contains-empty x i)
Contains-from_variables (constant t ∷ ts) x i = Contains-rest (constant t) ts (variable x) (Contains-from_variables ts x i)
Contains-from_variables (variable y ∷ ts) x i = elim (Contains-cons_cases y (variables_of ts) x i) [
  | inl e ↦ subst (λ (z : List ℕ). Contains (variable y ∷ ts) (variable z)) e (Contains-first (variable y) ts)
  | inr j ↦ Contains-rest (variable y) ts (variable x) (Contains-from_variables ts x j)
]

abbrev unknowns_of : ℕ × List SymbolAtom → List Unknown
unknowns_of f = map (λ (x : List ℕ). (f.0, x)) (variables_of (terms_in f.1))

abbrev unknowns_in : List (List SymbolAtom) → List Unknown
unknowns_in facts = flat_map unknowns_of (enumerate_from 0 facts)

-- each stands in its fact statement
stands_there : (facts : List (List SymbolAtom)) (p : Unknown) → Contains (unknowns_in facts) p → StandsIn facts p.0 p.1
stands_there facts p i =
    let (f, j, k) = Contains-from_flat_map unknowns_of (enumerate_from 0 facts) p i in
    let (x, l, e) = Contains-from_map (λ (x : List ℕ). (f.0, x)) (variables_of (terms_in f.1)) p k in
    let (below, at) = Contains-from_enumerate facts f j in
    let here : get_or facts f.0 [] ≡ f.1 = sym (get_or_default facts f.0 f.1 [] below) ∙ at in
    let there : Contains (terms_in (get_or facts f.0 [])) (variable x) =
    subst (λ (atoms : List SymbolAtom). Contains (terms_in atoms) (variable x)) (sym here) (Contains-from_variables (terms_in f.1) x l) in
    subst (λ (q : Unknown). StandsIn facts q.0 q.1) e there

-- ---- from the numbers of the one to those of the other

module _ (one two : ℕ → List ℕ → ℕ) where
  abbrev renamed : List Unknown → ℕ → Term
  renamed [] v = Variable v
  renamed (p ∷ ps) v = cond (eqb (one p.0 p.1) v) (Variable (two p.0 p.1)) (renamed ps v)

  -- where no two of them have one number
  abbrev AreApart : List Unknown → Type 0
  AreApart ps = (p q : Unknown) → Contains ps p → Contains ps q → one p.0 p.1 ≡ one q.0 q.1 → p ≡ q

  renamed_at : (ps : List Unknown) (p : Unknown) → AreApart ps → Contains ps p → renamed ps (one p.0 p.1) ≡ Variable (two p.0 p.1)
  renamed_at [] p apart i = absurd (Contains-empty p i)
  renamed_at (q ∷ ps) p apart i = elim (cases_eq (one q.0 q.1) (one p.0 p.1)) [
    | inl e ↦
        let same : q ≡ p = apart q p (Contains-first q ps) i e in
        cond-true (eqb (one q.0 q.1) (one p.0 p.1)) (Variable (two q.0 q.1)) (renamed ps (one p.0 p.1)) (eq-eqb (one q.0 q.1) (one p.0 p.1) e) ∙
        ap (λ (r : Unknown). Variable (two r.0 r.1)) same
    | inr ne ↦
        cond-false (eqb (one q.0 q.1) (one p.0 p.1)) (Variable (two q.0 q.1)) (renamed ps (one p.0 p.1)) (ne_eqb (one q.0 q.1) (one p.0 p.1) ne) ∙
        (elim (Contains-cons_cases q ps p i) [
          | inl e ↦ absurd (ne (ap (λ (r : Unknown). one r.0 r.1) e))
          | inr j ↦ renamed_at ps p (λ a b c d. apart a b (Contains-rest q ps a c) (Contains-rest q ps b d)) j
        ])
  ]

  term_renamed : (names : List (List ℕ)) (i : ℕ) (h : ℕ → Term) (t : Symbol) → ((x : List ℕ) → t ≡ variable x → h (one i x) ≡ Variable (two i x)) →
      term_image h (term_value names (one i) t) ≡ term_value names (two i) t
  term_renamed names i h (constant t) e = refl
  term_renamed names i h (variable x) e = e x refl

  atom_renamed : (names : List (List ℕ)) (i : ℕ) (h : ℕ → Term) (a : SymbolAtom) → ((x : List ℕ) → Contains a.terms (variable x) → h (one i x) ≡ Variable (two i x)) →
      atom_image h (atom_value names (one i) a) ≡ atom_value names (two i) a
  atom_renamed names i h a e =
      let terms : map (term_image h) (map (term_value names (one i)) a.terms) ≡ map (term_value names (two i)) a.terms =
      map-map (term_image h) (term_value names (one i)) (λ t. term_image h (term_value names (one i) t)) a.terms (λ t. refl) ∙
      map-same_on (λ t. term_image h (term_value names (one i) t)) (term_value names (two i)) a.terms
      (λ t j. term_renamed names i h t (λ x is. e x (subst (λ (s : Symbol). Contains a.terms s) is j))) in
      ap (λ (ts : List Term). record { name = (atom_value names (one i) a).name; terms = ts }) terms

abbrev fact_atoms : List (List ℕ) → (ℕ → List ℕ → ℕ) → ℕ × List SymbolAtom → List Atom
fact_atoms names unknown f = map (atom_value names (unknown f.0)) f.1

-- the facts of the one map onto those of the other
facts_move : (meant : Meant) (a b : InputValue) → HasNumbersOf meant a → HasNumbersOf meant b → (h : ℕ → Term) × IsSubset (atoms_image h a.facts) b.facts
facts_move meant a b m n = (h, IsSubset-from_image h a.facts b.facts each)
  where
    all : List Unknown
    all = unknowns_in meant.facts

    h : ℕ → Term
    h = renamed m.unknown n.unknown all

    apart : AreApart m.unknown n.unknown all
    apart p q i j e =
        let same = m.apart p.0 q.0 p.1 q.1 (stands_there meant.facts p i) (stands_there meant.facts q j) e in
        ap₂ (λ (number : ℕ) (text : List ℕ). (number, text)) same.0 same.1

    names : b.names ≡ a.names
    names = n.names ∙ sym m.names

    each : (x : Atom) → Contains a.facts x → Contains b.facts (atom_image h x)
    each x i =
        let (f, j, k) = Contains-from_flat_map (fact_atoms a.names m.unknown) (enumerate_from 0 meant.facts) x (subst (λ (atoms : List Atom). Contains atoms x) m.facts i) in
        let (s, l, e) = Contains-from_map (atom_value a.names (m.unknown f.0)) f.1 x k in
        let moved : atom_image h (atom_value a.names (m.unknown f.0) s) ≡ atom_value a.names (n.unknown f.0) s =
        atom_renamed m.unknown n.unknown a.names f.0 h s (λ y p.
        renamed_at m.unknown n.unknown all (f.0, y) apart
        (Contains-flat_map unknowns_of (enumerate_from 0 meant.facts) f (f.0, y) j
        (Contains-map (λ (z : List ℕ). (f.0, z)) (variables_of (terms_in f.1)) y
        (Contains-variables (terms_in f.1) y (Contains-flat_map (λ (c : SymbolAtom). c.terms) f.1 s (variable y) l p))))) in
        let there : Contains (flat_map (fact_atoms a.names n.unknown) (enumerate_from 0 meant.facts)) (atom_value a.names (n.unknown f.0) s) =
        Contains-flat_map (fact_atoms a.names n.unknown) (enumerate_from 0 meant.facts) f (atom_value a.names (n.unknown f.0) s) j
        (Contains-map (atom_value a.names (n.unknown f.0)) f.1 s l) in
        let here : Contains b.facts (atom_value a.names (n.unknown f.0) s) =
        subst (λ (atoms : List Atom). Contains atoms (atom_value a.names (n.unknown f.0) s)) (sym n.facts)
        (subst (λ (ns : List (List ℕ)). Contains (flat_map (fact_atoms ns n.unknown) (enumerate_from 0 meant.facts)) (atom_value a.names (n.unknown f.0) s)) (sym names) there) in
        subst (λ (y : Atom). Contains b.facts y) (sym moved ∙ ap (atom_image h) e) here

-- ---- answers

constants_stay : (h : ℕ → Term) (tuple : List ℕ) → terms_image h (constants tuple) ≡ constants tuple
constants_stay h tuple = map-map (term_image h) Constant Constant tuple (λ c. refl)

maps_along : (q : Query) (xs ys : List Atom) (tuple : List ℕ) (h : ℕ → Term) → IsSubset (atoms_image h xs) ys → MapsInto q xs (constants tuple) → MapsInto q ys (constants tuple)
maps_along q xs ys tuple h into m = record {
  mapping = composite h m.mapping;
  homomorphism = record {
    atoms = IsSubset-composite h m.mapping q.atoms xs ys m.homomorphism.atoms into;
    answers = sym (terms_image-composite h m.mapping q.answers) ∙ (ap (terms_image h) m.homomorphism.answers ∙ constants_stay h tuple);
  };
}

-- a union that is exact for two problems answers as their chases do, so a tuple of constants is carried along
answer_along : (p r : Problem) (union : List Query) (xs ys : List Atom) (tuple : List ℕ) (h : ℕ → Term) → IsExact p union → IsExact r union → IsSubset (atoms_image h xs) ys →
    IsChaseAnswer p xs (constants tuple) → IsChaseAnswer r ys (constants tuple)
answer_along p r union xs ys tuple h of_p of_r into answer =
    let (q, c, m) = Any-contains (λ (q : Query). MapsInto q xs (constants tuple)) union (of_p.complete.finds xs (constants tuple) answer) in
    sound_is_carried r q ys (constants tuple) (All-contains (IsSound r) union q of_r.sound c) (maps_along q xs ys tuple h into m)

-- the answers over the facts of the one are those over the facts of the other
pub answers_move : (meant : Meant) (a b : InputValue) (p r : Problem) (union : List Query) (tuples : List (List ℕ)) → HasNumbersOf meant a → HasNumbersOf meant b →
    IsExact p union → IsExact r union → AreChaseAnswers a.names p a.facts tuples → AreChaseAnswers b.names r b.facts tuples
answers_move meant a b p r union tuples m n of_p of_r answers =
    let forth = facts_move meant a b m n in
    let back = facts_move meant b a n m in
    subst (λ (names : List (List ℕ)). AreChaseAnswers names r b.facts tuples) (m.names ∙ sym n.names) (record {
      each = λ t. (
        λ i. answer_along p r union a.facts b.facts t forth.0 of_p of_r forth.1 ((answers.each t).0 i),
        λ chased. (answers.each t).1 (answer_along r p union b.facts a.facts t back.0 of_r of_p back.1 chased),
      );
      order = answers.order;
    })

-- and over the facts of one input there is one list of them
pub one_answers : (names : List (List ℕ)) (problem : Problem) (facts : List Atom) (one two : List (List ℕ)) → AreChaseAnswers names problem facts one →
    AreChaseAnswers names problem facts two → one ≡ two
one_answers names problem facts one two a b =
    one_sorted_list (tuple_cmp_total names) one two a.order b.order (λ t i. (b.each t).1 ((a.each t).0 i)) (λ t i. (a.each t).1 ((b.each t).0 i))
