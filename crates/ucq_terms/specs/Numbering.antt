-- Variables numbered by first occurrence, and atoms of which each stands once.
use Rattle.std.specs.Prelude.{ℕ, Bool, false, ◌&&◌, nat_eq, if◌then◌else◌, List, [], ◌∷◌, ◌++◌, map, fold, Option, Some, None}
use Rattle.std.specs.List.{list_any, filter_map, flat_map, position_or_len}
use Rattle.std.specs.Cmp.Lexicographic.{pointwise}
use Rattle.ucq_terms.specs.declared.Term.{Term}
use Rattle.ucq_terms.specs.declared.Term.TheVariants.{Constant, Variable}
use Rattle.ucq_terms.specs.Syntax.{Atom, Query, Rule}

-- each element once, where it first stands
abbrev pub first_occurrences : {A : Type 0} → (A → A → Bool) → List A → List A
first_occurrences eq xs = fold (λ seen x. if list_any (eq x) seen then seen else seen ++ x ∷ []) [] xs

-- the variable that a term is
abbrev pub variable_of : Term → Option ℕ
variable_of (Constant c) = None
variable_of (Variable v) = Some v

-- the variables of terms, each once, where it first stands
abbrev pub variables_in : List Term → List ℕ
variables_in terms = first_occurrences nat_eq (filter_map variable_of terms)

-- a list of variables, with those of further terms after them, each once
abbrev pub order_with : List ℕ → List Term → List ℕ
order_with order terms = fold (λ seen v. if list_any (nat_eq v) seen then seen else seen ++ v ∷ []) order (filter_map variable_of terms)

-- the terms of atoms, in order
abbrev pub terms_of : List Atom → List Term
terms_of atoms = flat_map (λ (a : Atom). a.terms) atoms

-- a variable by its place in the list
abbrev pub numbered_term : List ℕ → Term → Term
numbered_term order (Constant c) = Constant c
numbered_term order (Variable v) = Variable (position_or_len (nat_eq v) order)

-- the same for terms, for an atom, and for atoms
abbrev pub numbered_terms : List ℕ → List Term → List Term
numbered_terms order terms = map (numbered_term order) terms

abbrev pub numbered_atom : List ℕ → Atom → Atom
numbered_atom order a = record { name = a.name; terms = numbered_terms order a.terms }

abbrev pub numbered_atoms : List ℕ → List Atom → List Atom
numbered_atoms order atoms = map (numbered_atom order) atoms

-- Whether two terms are equal; and two atoms.
abbrev pub term_eq : Term → Term → Bool
term_eq (Constant a) (Constant b) = nat_eq a b
term_eq (Constant a) (Variable b) = false
term_eq (Variable a) (Constant b) = false
term_eq (Variable a) (Variable b) = nat_eq a b

abbrev pub atom_eq : Atom → Atom → Bool
atom_eq a b = nat_eq a.name b.name && pointwise term_eq a.terms b.terms

-- the atoms with one more, which stands last, where it isn't there yet
abbrev pub with_atom : List Atom → Atom → List Atom
with_atom atoms a = if list_any (atom_eq a) atoms then atoms else atoms ++ a ∷ []

-- each atom once, where it first stands
abbrev pub each_once : List Atom → List Atom
each_once atoms = first_occurrences atom_eq atoms

-- a query's variables in order of first occurrence, those of the answer list first
abbrev pub query_order : Query → List ℕ
query_order q = variables_in (q.answers ++ terms_of q.atoms)

-- the query, with its variables numbered from 0 by first occurrence, answers first
abbrev pub numbered_query : Query → Query
numbered_query q = record { answers = numbered_terms (query_order q) q.answers; atoms = numbered_atoms (query_order q) q.atoms }

-- the same with each atom once
abbrev pub normal_query : Query → Query
normal_query q = numbered_query (record { answers = q.answers; atoms = each_once q.atoms })

-- a rule's variables in order of first occurrence, those of the head first
abbrev pub rule_order : Rule → List ℕ
rule_order r = variables_in (terms_of r.heads ++ terms_of r.body)

-- the rule, with its variables numbered from 0 by first occurrence, heads first
abbrev pub numbered_rule : Rule → Rule
numbered_rule r = record { heads = numbered_atoms (rule_order r) r.heads; body = numbered_atoms (rule_order r) r.body }
