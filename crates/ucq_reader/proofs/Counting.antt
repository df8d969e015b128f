-- What is gathered of all statements: too much, or no query, or the input.
use Rattle.std.proofs.Common.{◌≡◌, ℕ, ◌+◌, ◌<◌, ◌≤◌, map, List, [], ◌∷◌, length, take, Option, Some, None, refl, sym, ap, subst, ◌∙◌, arith}
use Rattle.std.specs.Prelude.{Ok, Err}
use Rattle.std.specs.List.{AllZip, flat_map, filter_map, enumerate_from}
use Rattle.std.proofs.lemmas.Bool.{lt-ltb, le-ltb}
use Rattle.std.proofs.lemmas.List.{length-append, length-map, take_all}
use Rattle.std.proofs.lemmas.List.Sums.{sum_by-cons}
use Rattle.std.proofs.lemmas.Slice.Zip.{AllZip-long}
use Rattle.ucq_terms.specs.declared.TheConstants.{FACTS, QUERIES, RULES}
use Rattle.ucq_reader.specs.declared.ReadFault.{ReadFault}
use Rattle.ucq_reader.specs.declared.ReadFault.TheVariants.{TooMany, NoQuery}
use Rattle.ucq_reader.specs.declared.Whole.TheVariants as wholes
use Rattle.ucq_reader.specs.Statement.{a_section, a_prefix, a_base, a_top, a_sentence, a_fact, a_rule, a_query, a_constraint, Statement, spelling}
use Rattle.ucq_reader.specs.Meaning.{SymbolAtom, SymbolAsked, Placed, listed, symbol_atom, symbol_atoms, rule_of, fact_of, texts_of, asked_of, count_fault, with_queries, unless, meant}
use Rattle.ucq_reader.specs.Input.{atom_value, rule_value, IsAskedOf}
use Rattle.ucq_reader.specs.Gathered.{GatheredValue, IsGathered}
use Rattle.ucq_reader.specs.Outcome.{word_count, IsDecidedBy}
use Rattle.ucq_reader.proofs.Parsing.{spelling_pos}
use Rattle.ucq_reader.proofs.Sizes.{atoms_length, sentence_length}

-- ---- how many rules and facts there are

abbrev pub rule_total : List Placed → ℕ
rule_total all = length (filter_map rule_of all)

abbrev pub fact_total : List Placed → ℕ
fact_total all = length (flat_map (λ (atoms : List SymbolAtom). atoms) (filter_map fact_of all))

pub rules_gathered : (all : List Placed) (g : GatheredValue) → IsGathered all g → length g.rules ≡ rule_total all
rules_gathered all g h = ap length h.rules ∙ length-map (filter_map rule_of all) (rule_value g.names)

facts_length : (names : List (List ℕ)) (unknown : ℕ → List ℕ → ℕ) (n : ℕ) (facts : List (List SymbolAtom)) → length (flat_map (λ (f : ℕ × List SymbolAtom). map (atom_value names (unknown f.0)) f.1) (enumerate_from n facts)) ≡ length (flat_map (λ (atoms : List SymbolAtom). atoms) facts)
facts_length names unknown n [] = refl
facts_length names unknown n (f ∷ fs) =
    let left = length-append (map (atom_value names (unknown n)) f) (flat_map (λ (g : ℕ × List SymbolAtom). map (atom_value names (unknown g.0)) g.1) (enumerate_from (n + 1) fs)) in
    let right = length-append f (flat_map (λ (atoms : List SymbolAtom). atoms) fs) in
    omega (arith, left, right, length-map f (atom_value names (unknown n)), facts_length names unknown (n + 1) fs)

pub facts_gathered : (all : List Placed) (g : GatheredValue) → IsGathered all g → length g.facts ≡ fact_total all
facts_gathered all g h = ap length h.facts.facts ∙ facts_length g.names h.facts.unknown 0 (filter_map fact_of all)

-- ---- no more of them than words

rule_words : (p : Placed) (rest : List Placed) → rule_total (p ∷ rest) ≤ length (spelling p.statement) + rule_total rest
rule_words p rest = go p.statement (spelling_pos p.statement)
  where
    go : (s : Statement) → 0 < length (spelling s) → rule_total (record p { statement = s } ∷ rest) ≤ length (spelling s) + rule_total rest
    go (a_section section) h = omega arith
    go (a_prefix name bytes dotted) h = omega arith
    go (a_base bytes dotted) h = omega arith
    go (a_top name dotted) h = omega arith
    go (a_sentence l (a_fact atoms)) h = omega arith
    go (a_sentence l (a_rule head body)) h = omega (arith, h)
    go (a_sentence l (a_query answers body)) h = omega arith
    go (a_sentence l (a_constraint body)) h = omega arith

pub rules_few : (all : List Placed) → rule_total all ≤ word_count all
rules_few [] = omega arith
rules_few (p ∷ rest) = omega (arith, rule_words p rest, rules_few rest, sum_by-cons (λ (q : Placed). length (spelling q.statement)) p rest)

fact_words : (p : Placed) (rest : List Placed) → fact_total (p ∷ rest) ≤ length (spelling p.statement) + fact_total rest
fact_words p rest = go p.statement
  where
    go : (s : Statement) → fact_total (record p { statement = s } ∷ rest) ≤ length (spelling s) + fact_total rest
    go (a_section section) = omega arith
    go (a_prefix name bytes dotted) = omega arith
    go (a_base bytes dotted) = omega arith
    go (a_top name dotted) = omega arith
    go (a_sentence l (a_fact atoms)) = omega (arith, length-append (symbol_atoms p.before atoms) (flat_map (λ (xs : List SymbolAtom). xs) (filter_map fact_of rest)), length-map (listed atoms) (symbol_atom p.before), (atoms_length atoms).0, sentence_length l (a_fact atoms))
    go (a_sentence l (a_rule head body)) = omega arith
    go (a_sentence l (a_query answers body)) = omega arith
    go (a_sentence l (a_constraint body)) = omega arith

pub facts_few : (all : List Placed) → fact_total all ≤ word_count all
facts_few [] = omega arith
facts_few (p ∷ rest) = omega (arith, fact_words p rest, facts_few rest, sum_by-cons (λ (q : Placed). length (spelling q.statement)) p rest)

-- ---- the refusals of the whole

abbrev pub query_total : List Placed → ℕ
query_total all = length (filter_map asked_of all)

rules_fault : (all : List Placed) (n : ℕ) → rule_total all ≡ n → RULES < n → count_fault all ≡ Some (TooMany wholes.Rules n)
rules_fault all n e h = rw e (rw (lt-ltb RULES n h) refl)

facts_fault : (all : List Placed) (r n : ℕ) → rule_total all ≡ r → fact_total all ≡ n → r ≤ RULES → FACTS < n → count_fault all ≡ Some (TooMany wholes.Facts n)
facts_fault all r n e f h k = rw (e, f) (rw (le-ltb RULES r h, lt-ltb FACTS n k) refl)

queries_fault : (all : List Placed) (r n q : ℕ) → rule_total all ≡ r → fact_total all ≡ n → query_total all ≡ q → r ≤ RULES → n ≤ FACTS → QUERIES < q → count_fault all ≡ Some (TooMany wholes.Queries q)
queries_fault all r n q e f g h k l = rw (e, f, g) (rw (le-ltb RULES r h, le-ltb FACTS n k, lt-ltb QUERIES q l) refl)

no_fault : (all : List Placed) (r n q : ℕ) → rule_total all ≡ r → fact_total all ≡ n → query_total all ≡ q → r ≤ RULES → n ≤ FACTS → q ≤ QUERIES → count_fault all ≡ None
no_fault all r n q e f g h k l = rw (e, f, g) (rw (le-ltb RULES r h, le-ltb FACTS n k, le-ltb QUERIES q l) refl)

none_asked : (all : List Placed) (asks : List SymbolAsked) → length asks ≡ 0 → with_queries all asks ≡ Err NoQuery
none_asked all [] e = refl
none_asked all (q ∷ more) e = absurd (omega (arith, e))

some_asked : (all : List Placed) (asks : List SymbolAsked) → 0 < length asks →
    with_queries all asks ≡ Ok (record { texts = flat_map texts_of all; rules = filter_map rule_of all; queries = asks; facts = filter_map fact_of all })
some_asked all [] l = absurd (omega (arith, l))
some_asked all (q ∷ more) l = refl

counted : (all : List Placed) (o : Option ReadFault) → count_fault all ≡ o → meant all ≡ unless o (with_queries all (filter_map asked_of all))
counted all o = ap (λ (x : Option ReadFault). unless x (with_queries all (filter_map asked_of all)))

-- what is gathered, by its counts
module _ (all : List Placed) (g : GatheredValue) (r n : ℕ) (h : IsGathered all g) (e : r ≡ length g.rules) where
  pub many_rules : RULES < r → meant all ≡ Err (TooMany wholes.Rules r)
  many_rules l = counted all (Some (TooMany wholes.Rules r)) (rules_fault all r (sym (e ∙ rules_gathered all g h)) l)

  module _ (few_rules : r ≤ RULES) (f : n ≡ length g.facts) where
    pub many_facts : FACTS < n → meant all ≡ Err (TooMany wholes.Facts n)
    many_facts l = counted all (Some (TooMany wholes.Facts n)) (facts_fault all r n (sym (e ∙ rules_gathered all g h)) (sym (f ∙ facts_gathered all g h)) few_rules l)

    module _ (few_facts : n ≤ FACTS) where
      pub many_queries : (q : ℕ) → q ≡ g.asked → QUERIES < q → meant all ≡ Err (TooMany wholes.Queries q)
      many_queries q k l =
          counted all (Some (TooMany wholes.Queries q))
          (queries_fault all r n q (sym (e ∙ rules_gathered all g h)) (sym (f ∙ facts_gathered all g h)) (sym (k ∙ h.asked)) few_rules few_facts l)

      few_enough : g.asked ≤ QUERIES → meant all ≡ with_queries all (filter_map asked_of all)
      few_enough l = counted all None (no_fault all r n g.asked (sym (e ∙ rules_gathered all g h)) (sym (f ∙ facts_gathered all g h)) (sym h.asked) few_rules few_facts l)

      pub no_query : g.asked ≡ 0 → meant all ≡ Err NoQuery
      no_query none = few_enough (omega (arith, none)) ∙ none_asked all (filter_map asked_of all) (sym h.asked ∙ none)

      pub some_queries : 0 < g.asked → g.asked ≤ QUERIES → IsDecidedBy all g None
      some_queries some few =
          let asks = filter_map asked_of all in (
            record { texts = flat_map texts_of all; rules = filter_map rule_of all; queries = asks; facts = filter_map fact_of all },
            few_enough few ∙ some_asked all asks (omega (arith, some, h.asked)),
            record {
              names = h.names;
              rules = h.rules;
              queries = subst (λ l. AllZip (IsAskedOf g.names) l g.queries) (take_all QUERIES asks (omega (arith, few, h.asked))) h.queries;
              unknown = h.facts.unknown;
              apart = h.facts.apart;
              facts = h.facts.facts;
            },
          )

-- as many queries are kept as were asked, if these are few
pub queries_held : (all : List Placed) (g : GatheredValue) → IsGathered all g → g.asked ≤ QUERIES → length g.queries ≡ g.asked
queries_held all g h few =
    AllZip-long (IsAskedOf g.names) (take QUERIES (filter_map asked_of all)) g.queries h.queries ∙
    (ap length (take_all QUERIES (filter_map asked_of all) (omega (arith, few, h.asked))) ∙ sym h.asked)
