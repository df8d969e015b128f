-- The input that is made for a number: a chain of rules under a rule with an unknown value, the query of that rule's
-- head, and facts along the chain.
use Rattle.std.specs.Prelude.{ℕ, ◌+◌, List, [], ◌∷◌, ◌++◌, map, None, codes, decimal}
use Rattle.std.specs.List.{flat_map, range_with_len}
use Rattle.ucq_reader.specs.Meaning.{Symbol, constant, variable, SymbolAtom, SymbolRule, SymbolQuery, Meant}
use Rattle.ucq_reader.specs.Building.{constants_of, symbols_in, rule_symbols, query_symbols}

-- a name with a number behind it, in decimal
abbrev pub numbered : List ℕ → ℕ → List ℕ
numbered name i = name ++ decimal i

-- the variables `X` and `Y`
abbrev pub x : Symbol
x = variable (codes "X")

abbrev pub y : Symbol
y = variable (codes "Y")

-- the atom of this name and this one term
abbrev pub unary : List ℕ → Symbol → SymbolAtom
unary name t = record { name = name; terms = t ∷ [] }

-- and that of two terms
abbrev pub binary : List ℕ → Symbol → Symbol → SymbolAtom
binary name s t = record { name = name; terms = s ∷ t ∷ [] }

-- `ci(X) :- cj(X).`, where j is i + 1
abbrev pub chain_rule : ℕ → SymbolRule
chain_rule i = record { heads = unary (numbered (codes "c") i) x ∷ []; body = unary (numbered (codes "c") (i + 1)) x ∷ [] }

-- `r(X,Y), c0(Y) :- d(X).`
abbrev pub last_rule : SymbolRule
last_rule = record { heads = binary (codes "r") x y ∷ unary (codes "c0") y ∷ []; body = unary (codes "d") x ∷ [] }

-- `?(X) :- r(X,Y), c0(Y).`
abbrev pub made_query : SymbolQuery
made_query = record { answers = x ∷ []; atoms = binary (codes "r") x y ∷ unary (codes "c0") y ∷ [] }

-- `r(ui,vi), ci(vi).`
abbrev pub pair_fact : ℕ → List SymbolAtom
pair_fact i =
    let u = constant (numbered (codes "u") i) in
    let v = constant (numbered (codes "v") i) in
    binary (codes "r") u v ∷ unary (numbered (codes "c") i) v ∷ []

-- `d(w).`
abbrev pub last_fact : List SymbolAtom
last_fact = unary (codes "d") (constant (codes "w")) ∷ []

-- the rules of the chain, and the rule at its upper end
abbrev pub made_rules : ℕ → List SymbolRule
made_rules n = map chain_rule (range_with_len 0 n) ++ last_rule ∷ []

-- the fact statements along the chain, and one for the rule at its upper end
abbrev pub made_facts : ℕ → List (List SymbolAtom)
made_facts n = map pair_fact (range_with_len 0 (n + 1)) ++ last_fact ∷ []

-- the texts of the names of a rule, of a query and of a fact statement
abbrev pub rule_texts : SymbolRule → List (List ℕ)
rule_texts r = constants_of (rule_symbols r)

abbrev pub query_texts : SymbolQuery → List (List ℕ)
query_texts q = constants_of (query_symbols q)

abbrev pub fact_texts : List SymbolAtom → List (List ℕ)
fact_texts f = constants_of (symbols_in f)

-- what is made for n: the texts are those of the rules, of the query and of the facts
abbrev pub made : ℕ → Meant
made n = record {
  texts = flat_map rule_texts (made_rules n) ++ (query_texts made_query ++ flat_map fact_texts (made_facts n));
  rules = made_rules n;
  queries = record { label = None; query = made_query } ∷ [];
  facts = made_facts n;
}
