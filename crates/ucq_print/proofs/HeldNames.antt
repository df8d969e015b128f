-- Every predicate and constant of an input has a name.
use Rattle.std.proofs.Common.{◌≡◌, ℕ, List, [], ◌∷◌, ◌++◌, length, map, All, Contains, refl, sym, subst, inl, inr}
use Rattle.std.specs.Prelude.{None}
use Rattle.std.specs.List.{AllZip, flat_map, enumerate_from}
use Rattle.std.specs.Str.{bytes_eq}
use Rattle.std.proofs.lemmas.List.Elements.{All-cons, All-nil, Contains-append_left, Contains-append_right}
use Rattle.ucq_terms.specs.declared.Term.{Term}
use Rattle.ucq_terms.specs.Syntax.{Atom, Rule, Query}
use Rattle.ucq_terms.proofs.Lists.{All-from_contains, Contains-first, Contains-rest, Contains-cons_cases, Contains-empty, Contains-from_map, Contains-flat_map, Contains-from_flat_map}
use Rattle.ucq_terms.proofs.Numbering.{Contains-first_occurrences}
use Rattle.ucq_terms.proofs.Subsets.{IsSubset-contains}
use Rattle.ucq_terms.proofs.Texts.{IsEquality-bytes_eq, number_of_held}
use Rattle.ucq_terms.proofs.Zips.{Contains-from_enumerate}
use Rattle.ucq_chase.specs.Names.{IsHeldTerm, IsHeldAtom, AreHeldAtoms, IsHeldQuery, IsHeldRule}
use Rattle.ucq_reader.specs.declared.input.Asked.{Asked}
use Rattle.ucq_reader.specs.Names.{number, in_order}
use Rattle.ucq_reader.specs.Meaning.{Symbol, constant, variable, SymbolAtom, SymbolRule, SymbolQuery, SymbolAsked, Meant}
use Rattle.ucq_reader.specs.Input.{variables_in, terms_in, term_value, atom_value, rule_value, IsQueryOf, IsAskedOf, InputValue, HasNumbersOf}
use Rattle.ucq_reader.specs.Building.{constants_of, atom_symbols, symbols_in, rule_symbols, query_symbols}
use Rattle.ucq_reader.specs.Made.{made, made_rules, made_query, made_facts, rule_texts, query_texts, fact_texts}
use Rattle.ucq_print.specs.Laws.{IsHeldInput}

Contains-constants : (ts : List Symbol) (t : List ℕ) → Contains ts (constant t) → Contains (constants_of ts) t
Contains-constants [] t i = absurd (Contains-empty (constant t) i)
Contains-constants (constant s ∷ ts) t i = elim (Contains-cons_cases (constant s) ts (constant t) i) [
  | inl e ↦ let same : s ≡ t = cc in subst (λ (x : List ℕ). Contains (s ∷ constants_of ts) x) same (Contains-first s (constants_of ts))
  | inr j ↦ Contains-rest s (constants_of ts) t (Contains-constants ts t j)
]
Contains-constants (variable x ∷ ts) t i = elim (Contains-cons_cases (variable x) ts (constant t) i) [
  | inl e ↦ absurd cc
  | inr j ↦ Contains-constants ts t j
]

-- the texts of these symbols are among the texts
record AreAmong (texts : List (List ℕ)) (symbols : List Symbol) : Type 0 where
  each : (t : List ℕ) → Contains symbols (constant t) → Contains texts t

among_left : (texts : List (List ℕ)) (xs ys : List Symbol) → AreAmong texts (xs ++ ys) → AreAmong texts xs
among_left texts xs ys h = record { each = λ t i. h.each t (Contains-append_left xs ys (constant t) i) }

among_right : (texts : List (List ℕ)) (xs ys : List Symbol) → AreAmong texts (xs ++ ys) → AreAmong texts ys
among_right texts xs ys h = record { each = λ t i. h.each t (Contains-append_right xs ys (constant t) i) }

module _ (names : List (List ℕ)) (place : List ℕ → ℕ) where
  term_held : (s : Symbol) → ((t : List ℕ) → s ≡ constant t → Contains names t) → IsHeldTerm (length names) (term_value names place s)
  term_held (constant t) h = number_of_held names t (h t refl)
  term_held (variable x) h = tt

  terms_held : (ts : List Symbol) → AreAmong names ts → All (IsHeldTerm (length names)) (map (term_value names place) ts)
  terms_held ts h = All-from_contains (IsHeldTerm (length names)) (map (term_value names place) ts) (λ x i.
      let (s, j, e) = Contains-from_map (term_value names place) ts x i in
      subst (IsHeldTerm (length names)) e (term_held s (λ t f. h.each t (subst (λ (r : Symbol). Contains ts r) f j))))

  atom_held : (a : SymbolAtom) → AreAmong names (atom_symbols a) → IsHeldAtom (length names) (atom_value names place a)
  atom_held a h = record {
    name = number_of_held names a.name (h.each a.name (Contains-first (constant a.name) a.terms));
    terms = terms_held a.terms (record { each = λ t i. h.each t (Contains-rest (constant a.name) a.terms (constant t) i) });
  }

  atoms_held : (atoms : List SymbolAtom) → AreAmong names (symbols_in atoms) → AreHeldAtoms (length names) (map (atom_value names place) atoms)
  atoms_held atoms h = All-from_contains (IsHeldAtom (length names)) (map (atom_value names place) atoms) (λ b i.
      let (a, j, e) = Contains-from_map (atom_value names place) atoms b i in
      subst (IsHeldAtom (length names)) e (atom_held a (record { each = λ t k. h.each t (Contains-flat_map atom_symbols atoms a (constant t) j k) })))

rule_held : (names : List (List ℕ)) (r : SymbolRule) → AreAmong names (rule_symbols r) → IsHeldRule (length names) (rule_value names r)
rule_held names r h =
    let place = number (variables_in (terms_in r.heads ++ terms_in r.body)) in
    record {
      heads = atoms_held names place r.heads (among_left names (symbols_in r.heads) (symbols_in r.body) h);
      body = atoms_held names place r.body (among_right names (symbols_in r.heads) (symbols_in r.body) h);
    }

query_held : (names : List (List ℕ)) (q : SymbolQuery) (query : Query) → AreAmong names (query_symbols q) → IsQueryOf names q query → IsHeldQuery (length names) query
query_held names q query h of =
    let place = number (variables_in (q.answers ++ terms_in q.atoms)) in
    let atoms = atoms_held names place q.atoms (among_right names q.answers (symbols_in q.atoms) h) in
    record {
      answers = subst (λ (ts : List Term). All (IsHeldTerm (length names)) ts) (sym of.answers) (terms_held names place q.answers (among_left names q.answers (symbols_in q.atoms) h));
      atoms = All-from_contains (IsHeldAtom (length names)) query.atoms (λ a i.
          let (k, l, e) = IsSubset-contains query.atoms (map (atom_value names place) q.atoms) a of.atoms.0 i in
          subst (IsHeldAtom (length names)) e (atoms k a l));
    }

-- what holds of each second element, beside the first
pub All-from_zip : {A B : Type 0} (R : A → B → Type 0) (P : B → Type 0) (xs : List A) (ys : List B) → AllZip R xs ys → ((x : A) (y : B) → Contains xs x → R x y → P y) → All P ys
All-from_zip R P [] [] h f = All-nil P
All-from_zip R P [] (y ∷ ys) h f = absurd h
All-from_zip R P (x ∷ xs) [] h f = absurd h
All-from_zip R P (x ∷ xs) (y ∷ ys) h f =
    All-cons P y ys (f x y (Contains-first x xs) h.0) (All-from_zip R P xs ys h.1 (λ v w i r. f v w (Contains-rest x xs v i) r))

-- the names of what is meant have all its texts
pub record HasTexts (m : Meant) : Type 0 where
  pub rules : (r : SymbolRule) → Contains m.rules r → (t : List ℕ) → Contains (constants_of (rule_symbols r)) t → Contains m.texts t
  pub queries : (q : SymbolAsked) → Contains m.queries q → (t : List ℕ) → Contains (constants_of (query_symbols q.query)) t → Contains m.texts t
  pub facts : (f : List SymbolAtom) → Contains m.facts f → (t : List ℕ) → Contains (constants_of (symbols_in f)) t → Contains m.texts t

among_names : (m : Meant) (names : List (List ℕ)) (symbols : List Symbol) → names ≡ in_order m.texts → ((t : List ℕ) → Contains (constants_of symbols) t → Contains m.texts t) →
    AreAmong names symbols
among_names m names symbols e h = record {
  each = λ t i. subst (λ (l : List (List ℕ)). Contains l t) (sym e) (Contains-first_occurrences bytes_eq IsEquality-bytes_eq m.texts t (h t (Contains-constants symbols t i)));
}

pub numbered_is_held : (m : Meant) (input : InputValue) → HasTexts m → HasNumbersOf m input → IsHeldInput input
numbered_is_held m input has n =
    let names : List (List ℕ) = input.names in
    let rules : All (IsHeldRule (length names)) input.rules =
    All-from_contains (IsHeldRule (length names)) input.rules (λ r i.
    let (s, j, e) = Contains-from_map (rule_value names) m.rules r (subst (λ (rs : List Rule). Contains rs r) n.rules i) in
    subst (IsHeldRule (length names)) e (rule_held names s (among_names m names (rule_symbols s) n.names (has.rules s j)))) in
    record {
      rules = rules;
      queries = All-from_zip (IsAskedOf names) (λ (asked : Asked). IsHeldQuery (length names) asked.query) m.queries input.queries n.queries (λ q asked i of.
          query_held names q.query asked.query (among_names m names (query_symbols q.query) n.names (has.queries q i)) of.query);
      facts = All-from_contains (IsHeldAtom (length names)) input.facts (λ a i.
          let of_fact : ℕ × List SymbolAtom → List Atom = λ (f : ℕ × List SymbolAtom). map (atom_value names (n.unknown f.0)) f.1 in
          let (f, j, k) = Contains-from_flat_map of_fact (enumerate_from 0 m.facts) a (subst (λ (atoms : List Atom). Contains atoms a) n.facts i) in
          let at = Contains-from_enumerate m.facts f j in
          let held : AreHeldAtoms (length names) (of_fact f) =
          atoms_held names (n.unknown f.0) f.1 (among_names m names (symbols_in f.1) n.names (has.facts f.1 (f.0, at.0, at.1))) in
          let (p, l, e) = k in
          subst (IsHeldAtom (length names)) e (held p a l));
    }

-- what is made
pub made_has_texts : (number : ℕ) → HasTexts (made number)
made_has_texts n =
    let rules = flat_map rule_texts (made_rules n) in
    let query = query_texts made_query in
    let facts = flat_map fact_texts (made_facts n) in
    record {
      rules = λ r i t j. Contains-append_left rules (query ++ facts) t (Contains-flat_map rule_texts (made_rules n) r t i j);
      queries = λ q i t j.
          let here : Contains query t = elim (Contains-cons_cases (record { label = None; query = made_query }) [] q i) [
            | inl e ↦ subst (λ (x : SymbolAsked). Contains (constants_of (query_symbols x.query)) t) (sym e) j
            | inr k ↦ absurd (Contains-empty q k)
          ] in
          Contains-append_right rules (query ++ facts) t (Contains-append_left query facts t here);
      facts = λ f i t j. Contains-append_right rules (query ++ facts) t (Contains-append_right query facts t (Contains-flat_map fact_texts (made_facts n) f t i j));
    }
