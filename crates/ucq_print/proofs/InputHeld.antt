-- What files stand for has all its texts among the names.
use Rattle.std.proofs.Common.{◌≡◌, ℕ, List, [], ◌∷◌, Contains, sym, subst}
use Rattle.std.specs.Prelude.{Result, Ok}
use Rattle.std.specs.List.{filter_map, flat_map}
use Rattle.ucq_terms.proofs.Lists.{Contains-flat_map}
use Rattle.ucq_reader.specs.declared.ReadFault.{ReadFault}
use Rattle.ucq_reader.specs.Meaning.{SymbolAsked, Meant, Placed, placed, texts_of, rule_of, asked_of, fact_of, files_fault, meant, with_queries}
use Rattle.ucq_reader.specs.Input.{InputValue, IsInput}
use Rattle.ucq_reader.specs.Building.{constants_of, symbols_in, rule_symbols, query_symbols}
use Rattle.ucq_reader.proofs.Spelled.{fact_texts, rule_texts, query_texts}
use Rattle.ucq_print.specs.Laws.{IsHeldInput}
use Rattle.ucq_print.proofs.InputNames.{from_filter_map, unless_ok}
use Rattle.ucq_print.proofs.HeldNames.{HasTexts, numbered_is_held}

-- the texts of a statement are among those of all
all_texts : (all : List Placed) (p : Placed) (texts : List (List ℕ)) (t : List ℕ) → Contains all p → texts_of p ≡ texts → Contains texts t → Contains (flat_map texts_of all) t
all_texts all p texts t i e j = Contains-flat_map texts_of all p t i (subst (λ (l : List (List ℕ)). Contains l t) (sym e) j)

abbrev what_is : List Placed → List SymbolAsked → Meant
what_is all queries = record { texts = flat_map texts_of all; rules = filter_map rule_of all; queries = queries; facts = filter_map fact_of all }

statements_have_texts : (all : List Placed) (queries : List SymbolAsked) → ((q : SymbolAsked) → Contains queries q → Contains (filter_map asked_of all) q) → HasTexts (what_is all queries)
statements_have_texts all queries among = record {
  rules = λ r j t k. let (p, l, e) = from_filter_map rule_of all r j in all_texts all p (constants_of (rule_symbols r)) t l (rule_texts p r e) k;
  queries = λ q j t k. let (p, l, e) = from_filter_map asked_of all q (among q j) in all_texts all p (constants_of (query_symbols q.query)) t l (query_texts p q e) k;
  facts = λ f j t k. let (p, l, e) = from_filter_map fact_of all f j in all_texts all p (constants_of (symbols_in f)) t l (fact_texts p f e) k;
}

abbrev stands_for : Meant → Result Meant ReadFault
stands_for m = Ok m

one_meant : (a b : Meant) → stands_for a ≡ stands_for b → a ≡ b
one_meant a b e = cc

meant_has_texts : (all : List Placed) (queries : List SymbolAsked) (m : Meant) → ((q : SymbolAsked) → Contains queries q → Contains (filter_map asked_of all) q) →
    with_queries all queries ≡ Ok m → HasTexts m
meant_has_texts all [] m among e = absurd cc
meant_has_texts all (q ∷ more) m among e = subst HasTexts (one_meant (what_is all (q ∷ more)) m e) (statements_have_texts all (q ∷ more) among)

pub input_is_held : (files : List (List ℕ)) (input : InputValue) → IsInput files input → IsHeldInput input
input_is_held files input (m, (reads, are, outcome), numbered) =
    let whole = unless_ok (files_fault 0 reads) (meant (placed 0 reads)) m (sym outcome) in
    let counted = unless_ok _ _ m whole.1 in
    numbered_is_held m input (meant_has_texts (placed 0 reads) (filter_map asked_of (placed 0 reads)) m (λ q i. i) counted.1) numbered
