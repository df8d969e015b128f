-- What is gathered, with one more statement.
use Rattle.std.proofs.Common.{◌≡◌, ℕ, zero, suc, ◌+◌, ◌≤◌, ◌<◌, cond, nat_lt, Bool, true, false, List, [], ◌∷◌, ◌++◌, map, length, take, drop, Contains, refl, sym, ap, ap₂, ◌∙◌, subst, arith, append_assoc, inl, inr, ◌⊎◌}
use Rattle.std.specs.Prelude.{Option, Some, None}
use Rattle.std.specs.List.{AllZip, filter_map, flat_map, enumerate_from, cons_option}
use Rattle.std.specs.Str.{bytes_eq}
use Rattle.std.proofs.lemmas.Bool.{lt-ltb, le-ltb, ltb-true, ltb-false}
use Rattle.std.proofs.lemmas.List.{append-nil, map-append, length-append, take_all, take-append-le, take-append-drop}
use Rattle.std.proofs.lemmas.List.Concat.{flat_map-append}
use Rattle.std.proofs.lemmas.List.Elements.{filter_map-append, Contains-append_left, Contains-append_right}
use Rattle.ucq_terms.specs.declared.TheConstants.{QUERIES}
use Rattle.ucq_terms.specs.declared.Term.TheVariants.{Constant}
use Rattle.ucq_terms.specs.Syntax.{Atom, Query, IsSameSet}
use Rattle.ucq_terms.proofs.Decide.{atom_path}
use Rattle.ucq_terms.proofs.Lists.{Contains-first, Contains-rest, Contains-cons_cases, Contains-empty, Contains-flat_map, map-same_on}
use Rattle.ucq_terms.proofs.Numbering.{with_elements-append, with_elements_keep, position_keeps, position_below, position_same, any_from_contains, Contains-first_occurrences, length-with_elements}
use Rattle.ucq_terms.proofs.Texts.{IsEquality-bytes_eq}
use Rattle.ucq_reader.specs.declared.input.Asked.{Asked}
use Rattle.ucq_reader.specs.Names.{number, in_order}
use Rattle.ucq_reader.specs.Meaning.{Symbol, constant, variable, SymbolAtom, SymbolRule, SymbolQuery, SymbolAsked, Placed, texts_of, rule_of, asked_of, fact_of}
use Rattle.ucq_reader.specs.Input.{variable_text, variables_in, terms_in, term_value, atom_value, rule_value, IsQueryOf, IsAskedOf, StandsIn}
use Rattle.ucq_reader.specs.Gathered.{GatheredValue, AreGatheredFacts, IsGathered}
use Rattle.ucq_reader.specs.Building.{constants_of, atom_symbols, symbols_in, query_symbols, with_names, place_in, AddsFact, AddsRule, AddsQuery}
use Rattle.ucq_reader.proofs.Built.{length-constants, length-variables}
use Rattle.ucq_reader.proofs.Renumbering.{Contains-variable_texts}
use Rattle.ucq_reader.proofs.Spelled.{fact_texts, rule_texts, query_texts}

-- ---- values stay as names come

-- the names have the texts of these symbols
pub record Holds (names : List (List ℕ)) (symbols : List Symbol) : Type 0 where
  pub held : (t : List ℕ) → Contains (constants_of symbols) t → Contains names t

holds_left : (names : List (List ℕ)) (xs ys : List Symbol) → Holds names (xs ++ ys) → Holds names xs
holds_left names xs ys h = record { held = λ t i. h.held t (subst (λ l. Contains l t) (sym (filter_map-append _ xs ys)) (Contains-append_left (constants_of xs) (constants_of ys) t i)) }

holds_right : (names : List (List ℕ)) (xs ys : List Symbol) → Holds names (xs ++ ys) → Holds names ys
holds_right names xs ys h = record { held = λ t i. h.held t (subst (λ l. Contains l t) (sym (filter_map-append _ xs ys)) (Contains-append_right (constants_of xs) (constants_of ys) t i)) }

number_kept : (names more : List (List ℕ)) (t : List ℕ) → Contains names t → number (names ++ more) t ≡ number names t
number_kept names more t i = position_keeps bytes_eq names more t (any_from_contains bytes_eq IsEquality-bytes_eq names t i)

terms_kept : (names more : List (List ℕ)) (place : List ℕ → ℕ) (ts : List Symbol) → Holds names ts → map (term_value (names ++ more) place) ts ≡ map (term_value names place) ts
terms_kept names more place [] h = refl
terms_kept names more place (constant text ∷ ts) h =
    ap₂ (λ x xs. x ∷ xs) (ap Constant (number_kept names more text (h.held text (Contains-first text (constants_of ts)))))
    (terms_kept names more place ts (record { held = λ t i. h.held t (Contains-rest text (constants_of ts) t i) }))
terms_kept names more place (variable text ∷ ts) h = ap (λ xs. term_value names place (variable text) ∷ xs) (terms_kept names more place ts (record { held = h.held }))

atoms_kept : (names more : List (List ℕ)) (place : List ℕ → ℕ) (atoms : List SymbolAtom) → Holds names (symbols_in atoms) → map (atom_value (names ++ more) place) atoms ≡ map (atom_value names place) atoms
atoms_kept names more place [] h = refl
atoms_kept names more place (a ∷ atoms) h =
    let own : Holds names (atom_symbols a) = holds_left names (atom_symbols a) (symbols_in atoms) h in
    ap₂ (λ x xs. x ∷ xs)
    (atom_path _ _ (number_kept names more a.name (own.held a.name (Contains-first a.name (constants_of a.terms))))
    (terms_kept names more place a.terms (record { held = λ t i. own.held t (Contains-rest a.name (constants_of a.terms) t i) })))
    (atoms_kept names more place atoms (holds_right names (atom_symbols a) (symbols_in atoms) h))

rule_kept : (names more : List (List ℕ)) (r : SymbolRule) → Holds names (symbols_in r.heads ++ symbols_in r.body) → rule_value (names ++ more) r ≡ rule_value names r
rule_kept names more r h =
    let place = number (variables_in (terms_in r.heads ++ terms_in r.body)) in
    let heads = atoms_kept names more place r.heads (holds_left names (symbols_in r.heads) (symbols_in r.body) h) in
    let body = atoms_kept names more place r.body (holds_right names (symbols_in r.heads) (symbols_in r.body) h) in
    λ i. record { heads = heads i; body = body i }

query_kept : (names more : List (List ℕ)) (q : SymbolQuery) (query : Query) → Holds names (query_symbols q) → IsQueryOf names q query → IsQueryOf (names ++ more) q query
query_kept names more q query h is =
    let place = number (variables_in (q.answers ++ terms_in q.atoms)) in
    record {
      answers = is.answers ∙ sym (terms_kept names more place q.answers (holds_left names q.answers (symbols_in q.atoms) h));
      atoms = subst (IsSameSet query.atoms) (sym (atoms_kept names more place q.atoms (holds_right names q.answers (symbols_in q.atoms) h))) is.atoms;
      once = is.once;
    }

-- ---- statements among all

from_filter_map : {X Y : Type 0} (h : X → Option Y) (xs : List X) (y : Y) → Contains (filter_map h xs) y → (x : X) × Contains xs x × (h x ≡ Some y)
from_filter_map h [] y i = absurd (Contains-empty y i)
from_filter_map {X} {Y} h (x ∷ xs) y i = go (λ j. from_filter_map h xs y j) (h x) refl i
  where
    go : (Contains (filter_map h xs) y → (z : X) × Contains xs z × (h z ≡ Some y)) → (o : Option Y) → h x ≡ o → Contains (cons_option o (filter_map h xs)) y → (z : X) × Contains (x ∷ xs) z × (h z ≡ Some y)
    go r None e j = let (z, k, f) = r j in (z, Contains-rest x xs z k, f)
    go r (Some w) e j = elim (Contains-cons_cases w (filter_map h xs) y j) [
      | inl f ↦ (x, Contains-first x xs, e ∙ ap Some f)
      | inr k ↦ let (z, l, f) = r k in (z, Contains-rest x xs z l, f)
    ]

pub filter_map-none : {X Y : Type 0} (h : X → Option Y) (xs : List X) (x : X) → h x ≡ None → filter_map h (xs ++ x ∷ []) ≡ filter_map h xs
filter_map-none h xs x e = filter_map-append h xs (x ∷ []) ∙ (ap (λ o. filter_map h xs ++ cons_option o []) e ∙ append-nil (filter_map h xs))

pub filter_map-some : {X Y : Type 0} (h : X → Option Y) (xs : List X) (x : X) (y : Y) → h x ≡ Some y → filter_map h (xs ++ x ∷ []) ≡ filter_map h xs ++ y ∷ []
filter_map-some h xs x y e = filter_map-append h xs (x ∷ []) ∙ ap (λ o. filter_map h xs ++ cons_option o []) e

-- the names have the texts of each statement
holds_statement : (names : List (List ℕ)) (all : List Placed) (p : Placed) (symbols : List Symbol) → names ≡ in_order (flat_map texts_of all) → Contains all p → texts_of p ≡ constants_of symbols → Holds names symbols
holds_statement names all p symbols e i f = record {
  held = λ t j.
      subst (λ l. Contains l t) (sym e)
      (Contains-first_occurrences bytes_eq IsEquality-bytes_eq (flat_map texts_of all) t (Contains-flat_map texts_of all p t i (subst (λ l. Contains l t) (sym f) j)));
}

zip_push : {A B : Type 0} (R : A → B → Type 0) (xs : List A) (ys : List B) (x : A) (y : B) → AllZip R xs ys → R x y → AllZip R (xs ++ x ∷ []) (ys ++ y ∷ [])
zip_push R [] [] x y h r = (r, tt)
zip_push R [] (b ∷ ys) x y h r = absurd h
zip_push R (a ∷ xs) [] x y h r = absurd h
zip_push R (a ∷ xs) (b ∷ ys) x y h r = (h.0, zip_push R xs ys x y h.1 r)

-- ---- one more statement, part by part

names_more : (all : List Placed) (p : Placed) (old new symbols : List (List ℕ)) → old ≡ in_order (flat_map texts_of all) → texts_of p ≡ symbols → new ≡ with_names old symbols →
    new ≡ in_order (flat_map texts_of (all ++ p ∷ []))
names_more all p old new symbols e f g =
    g ∙ (ap (λ l. with_names l symbols) e ∙ (sym (with_elements-append bytes_eq [] (flat_map texts_of all) symbols) ∙
    ap in_order (ap (λ l. flat_map texts_of all ++ l) (sym f ∙ sym (append-nil (texts_of p))) ∙ sym (flat_map-append texts_of all (p ∷ [])))))

rules_kept : (all : List Placed) (names more : List (List ℕ)) → names ≡ in_order (flat_map texts_of all) → map (rule_value (names ++ more)) (filter_map rule_of all) ≡ map (rule_value names) (filter_map rule_of all)
rules_kept all names more e =
    map-same_on (rule_value (names ++ more)) (rule_value names) (filter_map rule_of all)
    (λ r i.
    let (p, j, f) = from_filter_map rule_of all r i in
    rule_kept names more r (holds_statement names all p (symbols_in r.heads ++ symbols_in r.body) e j (rule_texts p r f)))

-- unknown values for the variables of fact statements
abbrev pub fact_atoms : List (List ℕ) → (ℕ → List ℕ → ℕ) → ℕ × List SymbolAtom → List Atom
fact_atoms names unknown f = map (atom_value names (unknown f.0)) f.1

facts_kept_from : (names more : List (List ℕ)) (unknown : ℕ → List ℕ → ℕ) (k : ℕ) (meant : List (List SymbolAtom)) → ((f : List SymbolAtom) → Contains meant f → Holds names (symbols_in f)) →
    flat_map (fact_atoms (names ++ more) unknown) (enumerate_from k meant) ≡ flat_map (fact_atoms names unknown) (enumerate_from k meant)
facts_kept_from names more unknown k [] h = refl
facts_kept_from names more unknown k (f ∷ fs) h =
    ap₂ (λ x xs. x ++ xs) (atoms_kept names more (unknown k) f (h f (Contains-first f fs))) (facts_kept_from names more unknown (k + 1) fs (λ g i. h g (Contains-rest f fs g i)))

facts_kept : (all : List Placed) (names more : List (List ℕ)) (unknowns : ℕ) (atoms : List Atom) → names ≡ in_order (flat_map texts_of all) →
    AreGatheredFacts names (filter_map fact_of all) unknowns atoms → AreGatheredFacts (names ++ more) (filter_map fact_of all) unknowns atoms
facts_kept all names more unknowns atoms e a = record {
  unknown = a.unknown;
  apart = a.apart;
  below = a.below;
  facts =
      a.facts ∙ sym (facts_kept_from names more a.unknown 0 (filter_map fact_of all)
      (λ f i. let (p, j, g) = from_filter_map fact_of all f i in holds_statement names all p (symbols_in f) e j (fact_texts p f g)));
}

-- where a variable stands, among the statements before and the last
stands_cases : (meant : List (List SymbolAtom)) (f : List SymbolAtom) (i : ℕ) (x : List ℕ) → StandsIn (meant ++ f ∷ []) i x →
    ((i < length meant) × StandsIn meant i x) ⊎ ((i ≡ length meant) × Contains (terms_in f) (variable x))
stands_cases [] f zero x s = inr (refl, s)
stands_cases [] f (suc i) x s = absurd (Contains-empty (variable x) s)
stands_cases (m ∷ ms) f zero x s = inl (omega arith, s)
stands_cases (m ∷ ms) f (suc i) x s = elim (stands_cases ms f i x s) [
  | inl h ↦ inl (omega (arith, h.0), h.1)
  | inr h ↦ inr (ap suc h.0, h.1)
]

-- the atoms of one more
facts_more : (names : List (List ℕ)) (unknown next : ℕ → List ℕ → ℕ) (place : List ℕ → ℕ) (k : ℕ) (meant : List (List SymbolAtom)) (f : List SymbolAtom) →
    ((i : ℕ) → i < k + length meant → (x : List ℕ) → next i x ≡ unknown i x) → ((i : ℕ) → i ≡ k + length meant → (x : List ℕ) → next i x ≡ place x) →
    flat_map (fact_atoms names next) (enumerate_from k (meant ++ f ∷ [])) ≡ flat_map (fact_atoms names unknown) (enumerate_from k meant) ++ map (atom_value names place) f
facts_more names unknown next place k [] f before last =
    append-nil (map (atom_value names (next k)) f) ∙ ap (λ p. map (atom_value names p) f) (λ i x. last k (omega arith) x i)
facts_more names unknown next place k (m ∷ ms) f before last =
    ap₂ (λ x xs. x ++ xs) (ap (λ p. map (atom_value names p) m) (λ i x. before k (omega arith) x i))
    (facts_more names unknown next place (k + 1) ms f (λ i l x. before i (omega arith) x) (λ i e x. last i (omega arith) x)) ∙
    sym (append_assoc (map (atom_value names (unknown k)) m) (flat_map (fact_atoms names unknown) (enumerate_from (k + 1) ms)) (map (atom_value names place) f))

-- the unknown values of one more fact statement
next_unknown : (ℕ → List ℕ → ℕ) → ℕ → (List ℕ → ℕ) → ℕ → List ℕ → ℕ
next_unknown unknown count place i x = cond (nat_lt i count) (unknown i x) (place x)

next-before : (unknown : ℕ → List ℕ → ℕ) (count : ℕ) (place : List ℕ → ℕ) (i : ℕ) (x : List ℕ) → i < count → next_unknown unknown count place i x ≡ unknown i x
unfolding next_unknown
next-before unknown count place i x l = ap (λ b. cond b (unknown i x) (place x)) (lt-ltb i count l)

next-last : (unknown : ℕ → List ℕ → ℕ) (count : ℕ) (place : List ℕ → ℕ) (i : ℕ) (x : List ℕ) → i ≡ count → next_unknown unknown count place i x ≡ place x
unfolding next_unknown
next-last unknown count place i x e = ap (λ b. cond b (unknown i x) (place x)) (le-ltb i count (omega arith))

module _ (names : List (List ℕ)) (meant : List (List SymbolAtom)) (unknowns : ℕ) (atoms : List Atom) (a : AreGatheredFacts names meant unknowns atoms) (f : List SymbolAtom) where
  count : ℕ
  count = length meant

  -- a variable of the last statement has a number of its own there
  own_place : (x : List ℕ) → Contains (terms_in f) (variable x) → number (variables_in (terms_in f)) x < length (variables_in (terms_in f))
  own_place x i =
      position_below bytes_eq (variables_in (terms_in f)) x
      (any_from_contains bytes_eq IsEquality-bytes_eq (variables_in (terms_in f)) x (Contains-first_occurrences bytes_eq IsEquality-bytes_eq (filter_map variable_text (terms_in f)) x (Contains-variable_texts (terms_in f) x i)))

  own_apart : (x y : List ℕ) → Contains (terms_in f) (variable x) → Contains (terms_in f) (variable y) → number (variables_in (terms_in f)) x ≡ number (variables_in (terms_in f)) y → x ≡ y
  own_apart x y i j e =
      position_same bytes_eq IsEquality-bytes_eq (variables_in (terms_in f)) x y
      (Contains-first_occurrences bytes_eq IsEquality-bytes_eq (filter_map variable_text (terms_in f)) x (Contains-variable_texts (terms_in f) x i))
      (Contains-first_occurrences bytes_eq IsEquality-bytes_eq (filter_map variable_text (terms_in f)) y (Contains-variable_texts (terms_in f) y j)) e

  next : ℕ → List ℕ → ℕ
  next = next_unknown a.unknown (length meant) (place_in unknowns (variables_in (terms_in f)))

  -- what a variable's unknown value is
  pub record HasValue (i : ℕ) (x : List ℕ) (value : ℕ) : Type 0 where
    pub cases : ((i < length meant) × StandsIn meant i x × (value ≡ a.unknown i x)) ⊎ ((i ≡ length meant) × Contains (terms_in f) (variable x) × (value ≡ unknowns + number (variables_in (terms_in f)) x))

  has_value : (i : ℕ) (x : List ℕ) → StandsIn (meant ++ f ∷ []) i x → HasValue i x (next_unknown a.unknown (length meant) (place_in unknowns (variables_in (terms_in f))) i x)
  has_value i x s = record {
    cases = elim (stands_cases meant f i x s) [
      | inl h ↦ inl (h.0, h.1, next-before a.unknown (length meant) (place_in unknowns (variables_in (terms_in f))) i x h.0)
      | inr h ↦ inr (h.0, h.1, next-last a.unknown (length meant) (place_in unknowns (variables_in (terms_in f))) i x h.0)
    ];
  }

  values_below : (i : ℕ) (x : List ℕ) (value : ℕ) → HasValue i x value → value < unknowns + length (variables_in (terms_in f))
  values_below i x value h = elim h.cases [
    | inl c ↦ omega (arith, c.2, a.below i x c.1)
    | inr c ↦ omega (arith, c.2, own_place x c.1)
  ]

  values_apart : (i j : ℕ) (x y : List ℕ) (v w : ℕ) → HasValue i x v → HasValue j y w → v ≡ w → (i ≡ j) × (x ≡ y)
  values_apart i j x y v w h k e = elim h.cases [
    | inl c ↦ elim k.cases [
      | inl d ↦ a.apart i j x y c.1 d.1 (sym c.2 ∙ (e ∙ d.2))
      | inr d ↦ absurd (omega (arith, c.2, d.2, e, a.below i x c.1))
    ]
    | inr c ↦ elim k.cases [
      | inl d ↦ absurd (omega (arith, c.2, d.2, e, a.below j y d.1))
      | inr d ↦ (c.0 ∙ sym d.0, own_apart x y c.1 d.1 (omega (arith, c.2, d.2, e)))
    ]
  ]

  pub facts_added : AreGatheredFacts names (meant ++ f ∷ []) (unknowns + length (variables_in (terms_in f))) (atoms ++ map (atom_value names (place_in unknowns (variables_in (terms_in f)))) f)
  facts_added =
      let place = place_in unknowns (variables_in (terms_in f)) in
      record {
        unknown = next_unknown a.unknown (length meant) place;
        apart = λ i j x y s t e. values_apart i j x y _ _ (has_value i x s) (has_value j y t) e;
        below = λ i x s. values_below i x _ (has_value i x s);
        facts =
            ap (λ l. l ++ map (atom_value names place) f) a.facts ∙
            sym (facts_more names a.unknown (next_unknown a.unknown (length meant) place) place 0 meant f
            (λ i l x. next-before a.unknown (length meant) place i x (omega arith)) (λ i e x. next-last a.unknown (length meant) place i x (omega arith)));
      }

-- ---- queries

-- the texts of a query that was asked are held
holds_asked : (names : List (List ℕ)) (all : List Placed) (asked : SymbolAsked) → names ≡ in_order (flat_map texts_of all) → Contains (filter_map asked_of all) asked → Holds names (query_symbols asked.query)
holds_asked names all asked e i = let (p, j, f) = from_filter_map asked_of all asked i in holds_statement names all p (query_symbols asked.query) e j (query_texts p asked f)

queries_kept : (names more : List (List ℕ)) (asked : List SymbolAsked) (held : List Asked) → ((a : SymbolAsked) → Contains asked a → Holds names (query_symbols a.query)) →
    AllZip (IsAskedOf names) asked held → AllZip (IsAskedOf (names ++ more)) asked held
queries_kept names more [] [] h is = is
queries_kept names more [] (x ∷ xs) h is = absurd is
queries_kept names more (a ∷ rest) [] h is = absurd is
queries_kept names more (a ∷ rest) (x ∷ xs) h is = (
  record { label = is.0.label; query = query_kept names more a.query x.query (h a (Contains-first a rest)) is.0.query },
  queries_kept names more rest xs (λ b i. h b (Contains-rest a rest b i)) is.1,
)

-- and so are those that are kept
asked_kept : (n : ℕ) (all : List Placed) (names more : List (List ℕ)) (held : List Asked) → names ≡ in_order (flat_map texts_of all) →
    AllZip (IsAskedOf names) (take n (filter_map asked_of all)) held → AllZip (IsAskedOf (names ++ more)) (take n (filter_map asked_of all)) held
asked_kept n all names more held e h =
    queries_kept names more (take n (filter_map asked_of all)) held
    (λ a i.
    let among = Contains-append_left (take n (filter_map asked_of all)) (drop n (filter_map asked_of all)) a i in
    holds_asked names all a e (subst (λ l. Contains l a) (take-append-drop n (filter_map asked_of all)) among)) h

-- one more query, which is kept while there are fewer than n
asked_more : (names : List (List ℕ)) (n : ℕ) (asked : List SymbolAsked) (q : SymbolAsked) (old new : List Asked) → AllZip (IsAskedOf names) (take n asked) old →
    (length asked < n → (held : Asked) × (new ≡ old ++ held ∷ []) × IsAskedOf names q held) → (n ≤ length asked → new ≡ old) → AllZip (IsAskedOf names) (take n (asked ++ q ∷ [])) new
asked_more names n asked q old new h kept passed = go (nat_lt (length asked) n) refl
  where
    go : (b : Bool) → nat_lt (length asked) n ≡ b → AllZip (IsAskedOf names) (take n (asked ++ q ∷ [])) new
    go true e =
        let few : length asked < n = ltb-true (length asked) n e in
        let (held, grown, is) = kept few in
        let before = subst (λ l. AllZip (IsAskedOf names) l old) (take_all n asked (omega (arith, few))) h in
        subst (λ l. AllZip (IsAskedOf names) l new) (sym (take_all n (asked ++ q ∷ []) (omega (arith, few, length-append asked (q ∷ [])))))
        (subst (AllZip (IsAskedOf names) (asked ++ q ∷ [])) (sym grown) (zip_push (IsAskedOf names) asked old q held before is))
    go false e =
        let many : n ≤ length asked = ltb-false (length asked) n e in
        subst (λ l. AllZip (IsAskedOf names) l new) (sym (take-append-le n asked (q ∷ []) many)) (subst (AllZip (IsAskedOf names) (take n asked)) (sym (passed many)) h)

-- ---- one more statement

-- a statement that stands for nothing
pub nothing_gathered : (all : List Placed) (p : Placed) (g : GatheredValue) → texts_of p ≡ [] → rule_of p ≡ None → fact_of p ≡ None → asked_of p ≡ None → IsGathered all g → IsGathered (all ++ p ∷ []) g
nothing_gathered all p g texts rule fact query h = record {
  names = names_more all p g.names g.names [] h.names texts refl;
  rules = h.rules ∙ ap (map (rule_value g.names)) (sym (filter_map-none rule_of all p rule));
  facts = subst (λ l. AreGatheredFacts g.names l g.unknowns g.facts) (sym (filter_map-none fact_of all p fact)) h.facts;
  queries = subst (λ l. AllZip (IsAskedOf g.names) (take QUERIES l) g.queries) (sym (filter_map-none asked_of all p query)) h.queries;
  asked = h.asked ∙ ap length (sym (filter_map-none asked_of all p query));
}

pub fact_gathered : (all : List Placed) (p : Placed) (f : List SymbolAtom) (old new : GatheredValue) → fact_of p ≡ Some f → rule_of p ≡ None → asked_of p ≡ None → AddsFact f old new →
    IsGathered all old → IsGathered (all ++ p ∷ []) new
fact_gathered all p f old new fact rule query adds h =
    let (more, grown) = with_elements_keep bytes_eq old.names (constants_of (symbols_in f)) in
    let names : new.names ≡ old.names ++ more = adds.names ∙ grown in
    let no_query = filter_map-none asked_of all p query in
    let facts = facts_added (old.names ++ more) (filter_map fact_of all) old.unknowns old.facts (facts_kept all old.names more old.unknowns old.facts h.names h.facts) f in
    record {
      names = names_more all p old.names new.names (constants_of (symbols_in f)) h.names (fact_texts p f fact) adds.names;
      rules =
          adds.rules ∙ (h.rules ∙ (sym (rules_kept all old.names more h.names) ∙
          ap₂ (λ n l. map (rule_value n) l) (sym names) (sym (filter_map-none rule_of all p rule))));
      facts =
          subst (λ l. AreGatheredFacts new.names l new.unknowns new.facts) (sym (filter_map-some fact_of all p f fact))
          (subst (λ k. AreGatheredFacts new.names (filter_map fact_of all ++ f ∷ []) k new.facts) (sym adds.unknowns)
          (subst (λ l. AreGatheredFacts new.names (filter_map fact_of all ++ f ∷ []) (old.unknowns + length (variables_in (terms_in f))) l) (sym adds.facts)
          (subst (λ n. AreGatheredFacts n (filter_map fact_of all ++ f ∷ []) (old.unknowns + length (variables_in (terms_in f))) (old.facts ++ map (atom_value n (place_in old.unknowns (variables_in (terms_in f)))) f)) (sym names) facts)));
      queries =
          subst (λ l. AllZip (IsAskedOf new.names) (take QUERIES l) new.queries) (sym no_query)
          (subst (AllZip (IsAskedOf new.names) (take QUERIES (filter_map asked_of all))) (sym adds.queries)
          (subst (λ n. AllZip (IsAskedOf n) (take QUERIES (filter_map asked_of all)) old.queries) (sym names) (asked_kept QUERIES all old.names more old.queries h.names h.queries)));
      asked = adds.asked ∙ (h.asked ∙ ap length (sym no_query));
    }

pub rule_gathered : (all : List Placed) (p : Placed) (r : SymbolRule) (old new : GatheredValue) → rule_of p ≡ Some r → fact_of p ≡ None → asked_of p ≡ None → AddsRule r old new →
    IsGathered all old → IsGathered (all ++ p ∷ []) new
rule_gathered all p r old new rule fact query adds h =
    let symbols = symbols_in r.heads ++ symbols_in r.body in
    let (more, grown) = with_elements_keep bytes_eq old.names (constants_of symbols) in
    let names : new.names ≡ old.names ++ more = adds.names ∙ grown in
    let no_query = filter_map-none asked_of all p query in
    let kept : old.rules ≡ map (rule_value new.names) (filter_map rule_of all) = h.rules ∙ (sym (rules_kept all old.names more h.names) ∙ ap (λ n. map (rule_value n) (filter_map rule_of all)) (sym names)) in
    record {
      names = names_more all p old.names new.names (constants_of symbols) h.names (rule_texts p r rule) adds.names;
      rules =
          adds.rules ∙ (ap (λ l. l ++ rule_value new.names r ∷ []) kept ∙ (sym (map-append (rule_value new.names) (filter_map rule_of all) (r ∷ [])) ∙
          ap (map (rule_value new.names)) (sym (filter_map-some rule_of all p r rule))));
      facts =
          subst (λ l. AreGatheredFacts new.names l new.unknowns new.facts) (sym (filter_map-none fact_of all p fact))
          (subst (λ k. AreGatheredFacts new.names (filter_map fact_of all) k new.facts) (sym adds.unknowns)
          (subst (λ l. AreGatheredFacts new.names (filter_map fact_of all) old.unknowns l) (sym adds.facts)
          (subst (λ n. AreGatheredFacts n (filter_map fact_of all) old.unknowns old.facts) (sym names) (facts_kept all old.names more old.unknowns old.facts h.names h.facts))));
      queries =
          subst (λ l. AllZip (IsAskedOf new.names) (take QUERIES l) new.queries) (sym no_query)
          (subst (AllZip (IsAskedOf new.names) (take QUERIES (filter_map asked_of all))) (sym adds.queries)
          (subst (λ n. AllZip (IsAskedOf n) (take QUERIES (filter_map asked_of all)) old.queries) (sym names) (asked_kept QUERIES all old.names more old.queries h.names h.queries)));
      asked = adds.asked ∙ (h.asked ∙ ap length (sym no_query));
    }

pub query_gathered : (all : List Placed) (p : Placed) (q : SymbolAsked) (old new : GatheredValue) → asked_of p ≡ Some q → fact_of p ≡ None → rule_of p ≡ None → AddsQuery q old new →
    IsGathered all old → IsGathered (all ++ p ∷ []) new
query_gathered all p q old new query fact rule adds h =
    let symbols = query_symbols q.query in
    let (more, grown) = with_elements_keep bytes_eq old.names (constants_of symbols) in
    let names : new.names ≡ old.names ++ more = adds.names ∙ grown in
    let asked = filter_map-some asked_of all p q query in
    let kept : AllZip (IsAskedOf new.names) (take QUERIES (filter_map asked_of all)) old.queries =
    subst (λ n. AllZip (IsAskedOf n) (take QUERIES (filter_map asked_of all)) old.queries) (sym names) (asked_kept QUERIES all old.names more old.queries h.names h.queries) in
    let now = asked_more new.names QUERIES (filter_map asked_of all) q old.queries new.queries kept (λ l. adds.kept (omega (arith, h.asked, l))) (λ l. adds.passed (omega (arith, h.asked, l))) in
    record {
      names = names_more all p old.names new.names (constants_of symbols) h.names (query_texts p q query) adds.names;
      rules =
          adds.rules ∙ (h.rules ∙ (sym (rules_kept all old.names more h.names) ∙
          ap₂ (λ n l. map (rule_value n) l) (sym names) (sym (filter_map-none rule_of all p rule))));
      facts =
          subst (λ l. AreGatheredFacts new.names l new.unknowns new.facts) (sym (filter_map-none fact_of all p fact))
          (subst (λ k. AreGatheredFacts new.names (filter_map fact_of all) k new.facts) (sym adds.unknowns)
          (subst (λ l. AreGatheredFacts new.names (filter_map fact_of all) old.unknowns l) (sym adds.facts)
          (subst (λ n. AreGatheredFacts n (filter_map fact_of all) old.unknowns old.facts) (sym names) (facts_kept all old.names more old.unknowns old.facts h.names h.facts))));
      queries = subst (λ l. AllZip (IsAskedOf new.names) (take QUERIES l) new.queries) (sym asked) now;
      asked = omega (arith, adds.asked, h.asked, ap length asked, length-append (filter_map asked_of all) (q ∷ []));
    }

-- how far names and unknown values grow
pub names_grown : (names now : List (List ℕ)) (symbols : List Symbol) → now ≡ with_names names (constants_of symbols) → length now ≤ length names + length symbols
names_grown names now symbols e = omega (arith, ap length e, length-with_elements bytes_eq names (constants_of symbols), length-constants symbols)

pub unknowns_grown : (f : List SymbolAtom) → length (variables_in (terms_in f)) ≤ length (symbols_in f)
unknowns_grown f = omega (arith, length-with_elements bytes_eq [] (filter_map variable_text (terms_in f)), length-variables (terms_in f), length-terms f)
  where
    length-terms : (f : List SymbolAtom) → length (terms_in f) ≤ length (symbols_in f)
    length-terms [] = omega arith
    length-terms (a ∷ atoms) = omega (arith, length-terms atoms, length-append a.terms (terms_in atoms), length-append a.terms (symbols_in atoms))
