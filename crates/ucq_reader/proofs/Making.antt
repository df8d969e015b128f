-- Inputs that are made statement after statement.
use Rattle.std.proofs.Common.{◌≡◌, ℕ, ◌+◌, ◌*◌, ◌≤◌, ◌<◌, List, [], ◌∷◌, ◌++◌, map, length, take, refl, sym, ap, ap₂, ◌∙◌, subst, arith, append_assoc, Contains, inl, inr}
use Rattle.std.specs.Prelude.{Some, None, codes}
use Rattle.std.specs.List.{AllZip, flat_map, range_with_len}
use Rattle.std.specs.Str.{bytes_eq}
use Rattle.std.proofs.lemmas.List.{append-nil, length-append}
use Rattle.std.proofs.lemmas.List.Concat.{flat_map-append}
use Rattle.std.proofs.lemmas.List.FromFn.{map-range_with_len_more}
use Rattle.std.proofs.lemmas.Slice.Zip.{AllZip-long}
use Rattle.ucq_terms.specs.declared.TheConstants.{QUERIES}
use Rattle.ucq_terms.specs.declared.Term.{Term}
use Rattle.ucq_terms.specs.declared.Term.TheVariants.{Constant, Variable}
use Rattle.ucq_terms.specs.Syntax.{Atom, Query, IsSafe}
use Rattle.ucq_terms.specs.Names.{with_name}
use Rattle.ucq_terms.specs.Numbering.{numbered_rule, normal_query}
use Rattle.ucq_terms.proofs.Decide.{atom_path}
use Rattle.ucq_terms.proofs.Lists.{Contains-first, Contains-cons_cases, Contains-empty}
use Rattle.ucq_terms.proofs.Numbering.{with_elements_keep, length-with_elements}
use Rattle.ucq_reader.specs.Names.{number, in_order}
use Rattle.ucq_reader.specs.Statement.{Several, TermSyntax, a_variable, a_name, by_identifier, AtomSyntax, Sentence, a_fact, a_rule, a_query, a_sentence}
use Rattle.ucq_reader.specs.Meaning.{Symbol, constant, variable, SymbolAtom, SymbolRule, SymbolAsked, Placed, texts_of, rule_of, asked_of, fact_of}
use Rattle.ucq_reader.specs.Input.{terms_in, term_value, atom_value, rule_value, IsQueryOf, IsAskedOf, InputValue, HasNumbersOf}
use Rattle.ucq_reader.specs.Gathered.{GatheredValue, AreGatheredFacts}
use Rattle.ucq_reader.specs.Building.{with_names, IsNumberOf, IsSafeQuery, AddsFact, AddsRule, AddsQuery}
use Rattle.ucq_reader.specs.Made.{numbered, x, y, unary, binary, chain_rule, last_rule, made_query, pair_fact, last_fact, made_rules, made_facts, made, rule_texts, query_texts, fact_texts}
use Rattle.ucq_reader.specs.inner.Making.{place, IsMadeAtom, AreMadeAtoms, unlabelled, asked_texts, all_texts, IsMadeOf, HasChain, HasRules, HasPairs, HasFacts}
use Rattle.ucq_reader.proofs.Built.{number_lasts}
use Rattle.ucq_reader.proofs.Renumbering.{rule-again, query-again}
use Rattle.ucq_reader.proofs.Sentences.{safe_values}
use Rattle.ucq_reader.proofs.Gathering.{filter_map-none, filter_map-some, rule_gathered, query_gathered, fact_gathered}
use Rattle.ucq_reader.proofs.InTurn.{ArePartsOf, parts}
use Rattle.ucq_reader.proofs.Spelled as spelled

-- ---- atoms

-- a number that lasts is the same among more names
pub number_later : (names now texts : List (List ℕ)) (text : List ℕ) (n : ℕ) → now ≡ with_names names texts → IsNumberOf names text n → IsNumberOf now text n
number_later names now texts text n grown is =
    let (more, e) = with_elements_keep bytes_eq names texts in
    record { value = λ rest. is.value (more ++ rest) ∙ ap (λ l. number l text) (sym (ap (λ l. l ++ rest) (grown ∙ e) ∙ append_assoc names more rest)) }

-- and so is an atom
pub atom_later : (names now texts : List (List ℕ)) (s : SymbolAtom) (a : Atom) → now ≡ with_names names texts → IsMadeAtom names s a → IsMadeAtom now s a
atom_later names now texts s a grown is =
    let (more, e) = with_elements_keep bytes_eq names texts in
    record { value = λ rest. is.value (more ++ rest) ∙ ap (λ l. atom_value l place s) (sym (ap (λ l. l ++ rest) (grown ∙ e) ∙ append_assoc names more rest)) }

pub atoms_later : (names now texts : List (List ℕ)) (symbols : List SymbolAtom) (atoms : List Atom) → now ≡ with_names names texts → AreMadeAtoms names symbols atoms → AreMadeAtoms now symbols atoms
atoms_later names now texts symbols atoms grown are =
    let (more, e) = with_elements_keep bytes_eq names texts in
    record { value = λ rest. are.value (more ++ rest) ∙ ap (λ l. map (atom_value l place) symbols) (sym (ap (λ l. l ++ rest) (grown ∙ e) ∙ append_assoc names more rest)) }

-- an atom whose terms take no names
pub variables_made : (names : List (List ℕ)) (s : SymbolAtom) (a : Atom) → IsNumberOf names s.name a.name → ((more : List (List ℕ)) → a.terms ≡ map (term_value (names ++ more) place) s.terms) → IsMadeAtom names s a
variables_made names s a name terms = record { value = λ more. atom_path a (atom_value (names ++ more) place s) (name.value more) (terms more) }

-- an atom of one constant
pub unary_made : (names mid now : List (List ℕ)) (name argument : List ℕ) (n k : ℕ) (a : Atom) (terms : List Term) → mid ≡ with_name names name → n ≡ number mid name → now ≡ with_name mid argument → k ≡ number now argument →
    a ≡ record { name = n; terms = terms } → terms ≡ Constant k ∷ [] → IsMadeAtom now (unary name (constant argument)) a
unary_made names mid now name argument n k a terms e n_is f k_is is are =
    let first = number_later mid now (argument ∷ []) name n f (number_lasts names mid name n e n_is) in
    let second = number_lasts mid now argument k f k_is in
    record {
      value = λ more.
          is ∙ atom_path (record { name = n; terms = terms }) (atom_value (now ++ more) place (unary name (constant argument))) (first.value more)
          (are ∙ ap (λ (m : ℕ). Constant m ∷ []) (second.value more));
    }

-- and of two
pub binary_made : (names mid later now : List (List ℕ)) (name first second : List ℕ) (n j k : ℕ) (a : Atom) (terms : List Term) → mid ≡ with_name names name → n ≡ number mid name → later ≡ with_name mid first → j ≡ number later first →
    now ≡ with_name later second → k ≡ number now second → a ≡ record { name = n; terms = terms } → terms ≡ Constant j ∷ Constant k ∷ [] → IsMadeAtom now (binary name (constant first) (constant second)) a
binary_made names mid later now name first second n j k a terms e n_is f j_is g k_is is are =
    let names_grow : now ≡ with_names mid (first ∷ second ∷ []) = g ∙ ap (λ l. with_name l second) f in
    let name_lasts = number_later mid now (first ∷ second ∷ []) name n names_grow (number_lasts names mid name n e n_is) in
    let first_lasts = number_later later now (second ∷ []) first j g (number_lasts mid later first j f j_is) in
    let second_lasts = number_lasts later now second k g k_is in
    record {
      value = λ more.
          is ∙ atom_path (record { name = n; terms = terms }) (atom_value (now ++ more) place (binary name (constant first) (constant second))) (name_lasts.value more)
          (are ∙ ap₂ (λ (l m : ℕ). Constant l ∷ Constant m ∷ []) (first_lasts.value more) (second_lasts.value more));
    }

-- lists of atoms
pub one_made : (names : List (List ℕ)) (s : SymbolAtom) (a : Atom) (atoms : List Atom) → IsMadeAtom names s a → atoms ≡ a ∷ [] → AreMadeAtoms names (s ∷ []) atoms
one_made names s a atoms is e = record { value = λ more. e ∙ ap (λ (x : Atom). x ∷ []) (is.value more) }

pub two_made : (names : List (List ℕ)) (s t : SymbolAtom) (a b : Atom) (atoms : List Atom) → IsMadeAtom names s a → IsMadeAtom names t b → atoms ≡ a ∷ b ∷ [] → AreMadeAtoms names (s ∷ t ∷ []) atoms
two_made names s t a b atoms is also e = record { value = λ more. e ∙ ap₂ (λ (x y : Atom). x ∷ y ∷ []) (is.value more) (also.value more) }

-- the atoms, with the names as they are
pub atoms_now : (names : List (List ℕ)) (symbols : List SymbolAtom) (atoms : List Atom) → AreMadeAtoms names symbols atoms → atoms ≡ map (atom_value names place) symbols
atoms_now names symbols atoms are = are.value [] ∙ ap (λ l. map (atom_value l place) symbols) (append-nil names)

-- ---- rules

-- a rule whose variables are `X` and `Y`, in this order
pub rule_made : (names : List (List ℕ)) (r : SymbolRule) (heads body : List Atom) → map (atom_value names place) r.heads ≡ (rule_value names r).heads → map (atom_value names place) r.body ≡ (rule_value names r).body →
    AreMadeAtoms names r.heads heads → AreMadeAtoms names r.body body → numbered_rule (record { heads = heads; body = body }) ≡ rule_value names r
rule_made names r heads body e f are also =
    let heads_are : heads ≡ (rule_value names r).heads = atoms_now names r.heads heads are ∙ e in
    let body_are : body ≡ (rule_value names r).body = atoms_now names r.body body also ∙ f in
    let made : (record { heads = heads; body = body }) ≡ rule_value names r = λ i. record { heads = heads_are i; body = body_are i } in
    ap numbered_rule made ∙ rule-again names r

-- the rule of the chain
pub chain_made : (i : ℕ) (mid now : List (List ℕ)) (lower upper : List ℕ) (a b : Atom) (heads body : List Atom) → lower ≡ numbered (codes "c") i → upper ≡ numbered (codes "c") (i + 1) → now ≡ with_name mid upper → IsNumberOf mid lower a.name →
    a.terms ≡ Variable 0 ∷ [] → IsNumberOf now upper b.name → b.terms ≡ Variable 0 ∷ [] → heads ≡ a ∷ [] → body ≡ b ∷ [] → numbered_rule (record { heads = heads; body = body }) ≡ rule_value now (chain_rule i)
chain_made i mid now lower upper a b heads body lower_is upper_is grown is ts also us heads_are body_are =
    let r = chain_rule i in
    let head = variables_made mid (unary (numbered (codes "c") i) x) a (subst (λ t. IsNumberOf mid t a.name) lower_is is) (λ more. ts) in
    let rest = variables_made now (unary (numbered (codes "c") (i + 1)) x) b (subst (λ t. IsNumberOf now t b.name) upper_is also) (λ more. us) in
    rule_made now r heads body refl refl (one_made now (unary (numbered (codes "c") i) x) a heads (atom_later mid now (upper ∷ []) (unary (numbered (codes "c") i) x) a grown head) heads_are)
    (one_made now (unary (numbered (codes "c") (i + 1)) x) b body rest body_are)

-- the last rule
pub last_made : (mid now : List (List ℕ)) (name : List ℕ) (b : Atom) (heads body : List Atom) → AreMadeAtoms mid made_query.atoms heads → name ≡ codes "d" → now ≡ with_name mid name → IsNumberOf now name b.name → b.terms ≡ Variable 0 ∷ [] → body ≡ b ∷ [] →
    numbered_rule (record { heads = heads; body = body }) ≡ rule_value now last_rule
last_made mid now name b heads body are name_is grown also us body_are =
    let rest = variables_made now (unary (codes "d") x) b (subst (λ t. IsNumberOf now t b.name) name_is also) (λ more. us) in
    rule_made now last_rule heads body refl refl (atoms_later mid now (name ∷ []) made_query.atoms heads grown are) (one_made now (unary (codes "d") x) b body rest body_are)

-- ---- the query

safe_query : IsSafeQuery made_query
safe_query = record {
  stands = λ text i. elim (Contains-cons_cases x [] (variable text) i) [
    | inl e ↦ subst (λ (s : Symbol). Contains (terms_in made_query.atoms) s) e (Contains-first x (y ∷ y ∷ []))
    | inr j ↦ absurd (Contains-empty (variable text) j)
  ];
}

pub query_safe : (names : List (List ℕ)) (answers : List Term) (atoms : List Atom) → answers ≡ Variable 0 ∷ [] → AreMadeAtoms names made_query.atoms atoms → IsSafe (record { answers = answers; atoms = atoms })
query_safe names answers atoms e are =
    let some : 0 < length made_query.atoms = omega arith in
    let made : (record { answers = map (term_value names place) made_query.answers; atoms = map (atom_value names place) made_query.atoms }) ≡ record { answers = answers; atoms = atoms } =
    λ i. record { answers = sym e i; atoms = sym (atoms_now names made_query.atoms atoms are) i } in
    subst IsSafe made (safe_values names place made_query safe_query some)

pub query_made : (names : List (List ℕ)) (answers : List Term) (atoms : List Atom) (query : Query) → answers ≡ Variable 0 ∷ [] → AreMadeAtoms names made_query.atoms atoms → query ≡ normal_query (record { answers = answers; atoms = atoms }) →
    IsQueryOf names made_query query
query_made names answers atoms query e are is = subst (IsQueryOf names made_query) (sym is) (query-again names made_query answers atoms e (atoms_now names made_query.atoms atoms are))

-- ---- facts

-- the names and the facts with those of one more statement
pub record HasAdded (f : List SymbolAtom) (old now : List (List ℕ)) (before after : List Atom) : Type 0 where
  pub names : now ≡ with_names old (fact_texts f)
  pub facts : after ≡ before ++ map (atom_value now place) f

pub pair_added : (i : ℕ) (old mid now : List (List ℕ)) (r u v c w : List ℕ) (a b : Atom) (before between after : List Atom) → r ≡ codes "r" → u ≡ numbered (codes "u") i → v ≡ numbered (codes "v") i → c ≡ numbered (codes "c") i → w ≡ numbered (codes "v") i →
    mid ≡ with_names old (r ∷ u ∷ v ∷ []) → IsMadeAtom mid (binary r (constant u) (constant v)) a → now ≡ with_names mid (c ∷ w ∷ []) → IsMadeAtom now (unary c (constant w)) b → between ≡ before ++ a ∷ [] → after ≡ between ++ b ∷ [] →
    HasAdded (pair_fact i) old now before after
pair_added i old mid now r u v c w a b before between after is_r is_u is_v is_c is_w grown first grows second between_is after_is =
    let s = binary (codes "r") (constant (numbered (codes "u") i)) (constant (numbered (codes "v") i)) in
    let t = unary (numbered (codes "c") i) (constant (numbered (codes "v") i)) in
    let same : binary r (constant u) (constant v) ≡ s = λ k. binary (is_r k) (constant (is_u k)) (constant (is_v k)) in
    let also : unary c (constant w) ≡ t = λ k. unary (is_c k) (constant (is_w k)) in
    let pair = atom_later mid now (c ∷ w ∷ []) s a grows (subst (λ (q : SymbolAtom). IsMadeAtom mid q a) same first) in
    let class = subst (λ (q : SymbolAtom). IsMadeAtom now q b) also second in
    let pairs = atoms_now now (s ∷ t ∷ []) (a ∷ b ∷ []) (two_made now s t a b (a ∷ b ∷ []) pair class refl) in
    record {
      names = grows ∙ (ap (λ l. with_names l (c ∷ w ∷ [])) grown ∙ λ k. with_names old (is_r k ∷ is_u k ∷ is_v k ∷ is_c k ∷ is_w k ∷ []));
      facts = after_is ∙ (ap (λ l. l ++ b ∷ []) between_is ∙ (append_assoc before (a ∷ []) (b ∷ []) ∙ ap (λ l. before ++ l) pairs));
    }

pub fact_added : (old now : List (List ℕ)) (d w : List ℕ) (a : Atom) (before after : List Atom) → d ≡ codes "d" → w ≡ codes "w" → now ≡ with_names old (d ∷ w ∷ []) → IsMadeAtom now (unary d (constant w)) a → after ≡ before ++ a ∷ [] → HasAdded last_fact old now before after
fact_added old now d w a before after is_d is_w grown is after_is =
    let s = unary (codes "d") (constant (codes "w")) in
    let same : unary d (constant w) ≡ s = λ k. unary (is_d k) (constant (is_w k)) in
    let one = atoms_now now (s ∷ []) (a ∷ []) (one_made now s a (a ∷ []) (subst (λ (q : SymbolAtom). IsMadeAtom now q a) same is) refl) in
    record { names = grown ∙ (λ k. with_names old (is_d k ∷ is_w k ∷ [])); facts = after_is ∙ ap (λ l. before ++ l) one }

-- ---- statements

texts_more : (all : List Placed) (p : Placed) (texts more : List (List ℕ)) → flat_map texts_of all ≡ texts → texts_of p ≡ more → flat_map texts_of (all ++ p ∷ []) ≡ texts ++ more
texts_more all p texts more e f = flat_map-append texts_of all (p ∷ []) ∙ ap₂ (λ l m. l ++ m) e (append-nil (texts_of p) ∙ f)

flat_map-push : {A : Type 0} (f : A → List (List ℕ)) (xs : List A) (x : A) → flat_map f (xs ++ x ∷ []) ≡ flat_map f xs ++ f x
flat_map-push f xs x = flat_map-append f xs (x ∷ []) ∙ ap (λ l. flat_map f xs ++ l) (append-nil (f x))

rule_step : (rules : List SymbolRule) (p : Placed) (r : SymbolRule) (old new : GatheredValue) → rule_of p ≡ Some r → fact_of p ≡ None → asked_of p ≡ None → AddsRule r old new → IsMadeOf rules [] [] old → IsMadeOf (rules ++ r ∷ []) [] [] new
rule_step rules p r old new rule fact query adds h = record {
  all = h.all ++ p ∷ [];
  gathered = rule_gathered h.all p r old new rule fact query adds h.gathered;
  texts =
      texts_more h.all p (all_texts rules [] []) (rule_texts r) h.texts (spelled.rule_texts p r rule) ∙
      (ap (λ l. l ++ rule_texts r) (append-nil (flat_map rule_texts rules)) ∙ (sym (flat_map-push rule_texts rules r) ∙ sym (append-nil (flat_map rule_texts (rules ++ r ∷ [])))));
  rules_are = filter_map-some rule_of h.all p r rule ∙ ap (λ l. l ++ r ∷ []) h.rules_are;
  queries_are = filter_map-none asked_of h.all p query ∙ h.queries_are;
  facts_are = filter_map-none fact_of h.all p fact ∙ h.facts_are;
}

query_step : (rules : List SymbolRule) (p : Placed) (q : SymbolAsked) (old new : GatheredValue) → asked_of p ≡ Some q → fact_of p ≡ None → rule_of p ≡ None → AddsQuery q old new → IsMadeOf rules [] [] old → IsMadeOf rules (q ∷ []) [] new
query_step rules p q old new query fact rule adds h = record {
  all = h.all ++ p ∷ [];
  gathered = query_gathered h.all p q old new query fact rule adds h.gathered;
  texts =
      texts_more h.all p (all_texts rules [] []) (asked_texts q) h.texts (spelled.query_texts p q query) ∙
      (ap (λ l. l ++ asked_texts q) (append-nil (flat_map rule_texts rules)) ∙
      ap (λ l. flat_map rule_texts rules ++ l) (sym (append-nil (asked_texts q ++ []) ∙ append-nil (asked_texts q))));
  rules_are = filter_map-none rule_of h.all p rule ∙ h.rules_are;
  queries_are = filter_map-some asked_of h.all p q query ∙ ap (λ l. l ++ q ∷ []) h.queries_are;
  facts_are = filter_map-none fact_of h.all p fact ∙ h.facts_are;
}

fact_step : (rules : List SymbolRule) (queries : List SymbolAsked) (facts : List (List SymbolAtom)) (p : Placed) (f : List SymbolAtom) (old new : GatheredValue) → fact_of p ≡ Some f → rule_of p ≡ None → asked_of p ≡ None → AddsFact f old new →
    IsMadeOf rules queries facts old → IsMadeOf rules queries (facts ++ f ∷ []) new
fact_step rules queries facts p f old new fact rule query adds h =
    let rs = flat_map rule_texts rules in
    let qs = flat_map asked_texts queries in
    let fs = flat_map fact_texts facts in
    record {
      all = h.all ++ p ∷ [];
      gathered = fact_gathered h.all p f old new fact rule query adds h.gathered;
      texts =
          texts_more h.all p (all_texts rules queries facts) (fact_texts f) h.texts (spelled.fact_texts p f fact) ∙
          (append_assoc rs (qs ++ fs) (fact_texts f) ∙
          ap (λ l. rs ++ l) (append_assoc qs fs (fact_texts f) ∙ ap (λ l. qs ++ l) (sym (flat_map-push fact_texts facts f))));
      rules_are = filter_map-none rule_of h.all p rule ∙ h.rules_are;
      queries_are = filter_map-none asked_of h.all p query ∙ h.queries_are;
      facts_are = filter_map-some fact_of h.all p f fact ∙ ap (λ l. l ++ f ∷ []) h.facts_are;
    }

-- ---- the statements that are made

abbrev only : {A : Type 0} → A → Several A
only a = record { first = a; others = [] }

abbrev both : {A : Type 0} → A → A → Several A
both a b = record { first = a; others = b ∷ [] }

abbrev atom_of : List ℕ → Several TermSyntax → AtomSyntax
atom_of name terms = record { name = by_identifier name; terms = terms }

abbrev named : List ℕ → TermSyntax
named text = a_name (by_identifier text)

abbrev stated : Sentence → Placed
stated sentence = record { file = 0; number = 0; starts = []; before = []; statement = a_sentence None sentence }

abbrev x_term : TermSyntax
x_term = a_variable (codes "X")

abbrev y_term : TermSyntax
y_term = a_variable (codes "Y")

abbrev value_atoms : Several AtomSyntax
value_atoms = both (atom_of (codes "r") (both x_term y_term)) (atom_of (codes "c0") (only y_term))

abbrev chain_stated : ℕ → Placed
chain_stated i = stated (a_rule (only (atom_of (numbered (codes "c") i) (only x_term))) (only (atom_of (numbered (codes "c") (i + 1)) (only x_term))))

abbrev last_stated : Placed
last_stated = stated (a_rule value_atoms (only (atom_of (codes "d") (only x_term))))

abbrev query_stated : Placed
query_stated = stated (a_query (Some (x_term ∷ [])) value_atoms)

abbrev pair_stated : ℕ → Placed
pair_stated i =
    let u = named (numbered (codes "u") i) in
    let v = named (numbered (codes "v") i) in
    stated (a_fact (both (atom_of (codes "r") (both u v)) (atom_of (numbered (codes "c") i) (only v))))

abbrev fact_stated : Placed
fact_stated = stated (a_fact (only (atom_of (codes "d") (only (named (codes "w"))))))

-- how many names there are with these
names_within : (old new texts : List (List ℕ)) (n : ℕ) → new ≡ with_names old texts → length old + length texts ≤ n → length new ≤ n
names_within old new texts n e l = omega (arith, ap length e, length-with_elements bytes_eq old texts, l)

pub chain_more : (i : ℕ) (old new : GatheredValue) → AddsRule (chain_rule i) old new → HasChain i old → HasChain (i + 1) new
chain_more i old new adds h = record {
  made =
      subst (λ l. IsMadeOf l [] [] new) (sym (map-range_with_len_more chain_rule 0 i i (omega arith)))
      (rule_step (map chain_rule (range_with_len 0 i)) (chain_stated i) (chain_rule i) old new refl refl refl adds h.made);
  asked = adds.asked ∙ h.asked;
  rules = omega (arith, ap length adds.rules, length-append old.rules (rule_value new.names (chain_rule i) ∷ []), h.rules);
  facts = ap length adds.facts ∙ h.facts;
  names = names_within old.names new.names (rule_texts (chain_rule i)) (2 * (i + 1)) adds.names (omega (arith, h.names));
}

pub rules_done : (n : ℕ) (old new : GatheredValue) → AddsRule last_rule old new → HasChain n old → HasRules n new
rules_done n old new adds h = record {
  made = rule_step (map chain_rule (range_with_len 0 n)) last_stated last_rule old new refl refl refl adds h.made;
  asked = adds.asked ∙ h.asked;
  rules = omega (arith, ap length adds.rules, length-append old.rules (rule_value new.names last_rule ∷ []), h.rules);
  facts = ap length adds.facts ∙ h.facts;
  names = names_within old.names new.names (rule_texts last_rule) (2 * n + 3) adds.names (omega (arith, h.names));
}

pub query_done : (n : ℕ) (old new : GatheredValue) → AddsQuery (unlabelled made_query) old new → HasRules n old → HasPairs n 0 new
query_done n old new adds h = record {
  made = query_step (made_rules n) query_stated (unlabelled made_query) old new refl refl refl adds h.made;
  rules = ap length adds.rules ∙ h.rules;
  facts = ap length adds.facts ∙ h.facts;
  names = names_within old.names new.names (query_texts made_query) (2 * n + 5 + 5 * 0) adds.names (omega (arith, h.names));
}

pub pair_more : (n i : ℕ) (old new : GatheredValue) → AddsFact (pair_fact i) old new → HasPairs n i old → HasPairs n (i + 1) new
pair_more n i old new adds h = record {
  made =
      subst (λ l. IsMadeOf (made_rules n) (unlabelled made_query ∷ []) l new) (sym (map-range_with_len_more pair_fact 0 i i (omega arith)))
      (fact_step (made_rules n) (unlabelled made_query ∷ []) (map pair_fact (range_with_len 0 i)) (pair_stated i) (pair_fact i) old new refl refl refl adds h.made);
  rules = ap length adds.rules ∙ h.rules;
  facts = omega (arith, ap length adds.facts, length-append old.facts (map (atom_value new.names place) (pair_fact i)), h.facts);
  names = names_within old.names new.names (fact_texts (pair_fact i)) (2 * n + 5 + 5 * (i + 1)) adds.names (omega (arith, h.names));
}

pub facts_done : (n : ℕ) (old new : GatheredValue) → AddsFact last_fact old new → HasPairs n (n + 1) old → HasFacts n new
facts_done n old new adds h = record {
  made = fact_step (made_rules n) (unlabelled made_query ∷ []) (map pair_fact (range_with_len 0 (n + 1))) fact_stated last_fact old new refl refl refl adds h.made;
  rules = ap length adds.rules ∙ h.rules;
  facts = omega (arith, ap length adds.facts, length-append old.facts (map (atom_value new.names place) last_fact), h.facts);
}

-- ---- the input

pub made_numbered : (n : ℕ) (g : GatheredValue) (input : InputValue) → HasFacts n g → ArePartsOf g input → HasNumbersOf (made n) input
made_numbered n g input h p =
    let m = h.made in
    let queries = subst (λ l. AllZip (IsAskedOf g.names) (take QUERIES l) g.queries) m.queries_are m.gathered.queries in
    let facts = subst (λ l. AreGatheredFacts g.names l g.unknowns g.facts) m.facts_are m.gathered.facts in
    let texts : flat_map texts_of m.all ≡ flat_map rule_texts (made_rules n) ++ (query_texts made_query ++ flat_map fact_texts (made_facts n)) =
    m.texts ∙ ap (λ (l : List (List ℕ)). flat_map rule_texts (made_rules n) ++ (l ++ flat_map fact_texts (made_facts n))) (append-nil (query_texts made_query)) in
    subst (HasNumbersOf (made n)) (parts g input p) (record {
      names = m.gathered.names ∙ ap in_order texts;
      rules = m.gathered.rules ∙ ap (map (rule_value g.names)) m.rules_are;
      queries = queries;
      unknown = facts.unknown;
      apart = facts.apart;
      facts = facts.facts;
    })

-- it has one query
pub one_query : (n : ℕ) (input : InputValue) → HasNumbersOf (made n) input → length input.queries ≡ 1
one_query n input is = AllZip-long (IsAskedOf input.names) (made n).queries input.queries is.queries
