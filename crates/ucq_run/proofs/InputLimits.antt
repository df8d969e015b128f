-- What files stand for is within the limits.
use Rattle.std.proofs.Common.{◌≡◌, ◌≤◌, ◌∙◌, ℕ, List, [], ◌∷◌, length, refl, sym, ap, subst}
use Rattle.std.proofs.lemmas.List.{length-map}
use Rattle.std.proofs.lemmas.Slice.Zip.{AllZip-long}
use Rattle.std.specs.List.{filter_map, flat_map}
use Rattle.std.specs.Prelude.{Option, None, Result, Ok}
use Rattle.ucq_terms.proofs.Lists.{Contains-first}
use Rattle.ucq_terms.specs.declared.TheConstants.{FACTS, QUERIES, RULES}
use Rattle.ucq_reader.specs.declared.ReadFault.{ReadFault}
use Rattle.ucq_reader.specs.declared.ReadFault.TheVariants.{TooMany}
use Rattle.ucq_reader.specs.declared.Whole.TheVariants as wholes
use Rattle.ucq_reader.specs.Meaning.{Meant, SymbolAsked, Placed, asked_of, count_fault, fact_of, files_fault, first_above, mapped, meant, placed, rule_of, texts_of, with_queries}
use Rattle.ucq_reader.specs.Input.{InputValue, IsAskedOf, IsInput, rule_value}
use Rattle.ucq_reader.proofs.Limits.{within_limit}
use Rattle.ucq_print.proofs.InputNames.{mapped_none, none_of, unless_ok}

-- so many rules and queries as are written, none of which is too many
record AreFew (m : Meant) : Type 0 where
  rules : length m.rules ≤ RULES
  queries : length m.queries ≤ QUERIES

abbrev rule_count : List Placed → ℕ
rule_count all = length (filter_map rule_of all)

abbrev query_count : List Placed → ℕ
query_count all = length (filter_map asked_of all)

abbrev too_many_rules : List Placed → Option ReadFault
too_many_rules all = mapped (TooMany wholes.Rules) (first_above RULES (length (filter_map rule_of all) ∷ []))

abbrev too_many_facts : List Placed → Option ReadFault
too_many_facts all = mapped (TooMany wholes.Facts) (first_above FACTS (length (flat_map (λ atoms. atoms) (filter_map fact_of all)) ∷ []))

abbrev too_many_queries : List Placed → Option ReadFault
too_many_queries all = mapped (TooMany wholes.Queries) (first_above QUERIES (length (filter_map asked_of all) ∷ []))

abbrev stands_for : Meant → Result Meant ReadFault
stands_for m = Ok m

one_meant : (a b : Meant) → stands_for a ≡ stands_for b → a ≡ b
one_meant a b e = cc

few_meant : (all : List Placed) (qs : List SymbolAsked) (m : Meant) → qs ≡ filter_map asked_of all → count_fault all ≡ None → with_queries all qs ≡ Ok m → AreFew m
few_meant all [] m same none e = absurd cc
few_meant all (q ∷ more) m same none e =
    let one = none_of (too_many_rules all) (too_many_facts all ∷ too_many_queries all ∷ []) none in
    let two = none_of (too_many_facts all) (too_many_queries all ∷ []) one.1 in
    let three = none_of (too_many_queries all) [] two.1 in
    let rules : length (filter_map rule_of all) ≤ RULES = within_limit RULES (rule_count all ∷ []) (mapped_none (TooMany wholes.Rules) (first_above RULES (rule_count all ∷ [])) one.0) (rule_count all) (Contains-first (rule_count all) []) in
    let queries : length (filter_map asked_of all) ≤ QUERIES = within_limit QUERIES (query_count all ∷ []) (mapped_none (TooMany wholes.Queries) (first_above QUERIES (query_count all ∷ [])) three.0) (query_count all) (Contains-first (query_count all) []) in
    subst AreFew (one_meant (what_is q more) m e) (record { rules = rules; queries = subst (λ (l : List SymbolAsked). length l ≤ QUERIES) (sym same) queries })
  where
    what_is : SymbolAsked → List SymbolAsked → Meant
    what_is q more = record { texts = flat_map texts_of all; rules = filter_map rule_of all; queries = q ∷ more; facts = filter_map fact_of all }

few_input : (files : List (List ℕ)) (input : InputValue) (h : IsInput files input) → AreFew h.0
few_input files input (m, (reads, are, outcome), numbered) =
    let whole = unless_ok (files_fault 0 reads) (meant (placed 0 reads)) m (sym outcome) in
    let counted = unless_ok _ _ m whole.1 in
    few_meant (placed 0 reads) (filter_map asked_of (placed 0 reads)) m refl counted.0 counted.1

pub few_rules : (files : List (List ℕ)) (input : InputValue) → IsInput files input → length input.rules ≤ 4096
few_rules files input h =
    let few = (few_input files input h).rules in
    subst (λ (n : ℕ). n ≤ RULES) (sym (ap length h.2.rules ∙ length-map h.0.rules (rule_value input.names))) few

pub few_queries : (files : List (List ℕ)) (input : InputValue) → IsInput files input → length input.queries ≤ 64
few_queries files input h =
    let few = (few_input files input h).queries in
    subst (λ (n : ℕ). n ≤ QUERIES) (sym (AllZip-long (IsAskedOf input.names) h.0.queries input.queries h.2.queries)) few
