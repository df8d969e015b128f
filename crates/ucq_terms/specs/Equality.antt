-- The tests of equality of terms, atoms, queries and rules are true exactly at equal ones.
use Rattle.std.specs.Prelude.{◌≡◌, ℕ, Bool, true, false, ◌&&◌, nat_eq}
use Rattle.std.specs.Bool.{Decides}
use Rattle.std.specs.Cmp.{IsPartialEquivalence, IsEquivalence, partial_equiv_from_equiv, decided, first_so, second_so, unsigned_Decides}
use Rattle.std.specs.Cmp.Lexicographic.{pointwise, pointwise_decides}
use Rattle.std.proofs.Common.{ap, sym, true≢false}
use Rattle.ucq_terms.specs.declared.Term.{Term}
use Rattle.ucq_terms.specs.declared.Term.TheVariants.{Constant, Variable}
use Rattle.ucq_terms.specs.Syntax.{Atom, Query, Rule}
use Rattle.ucq_terms.specs.Numbering.{term_eq, atom_eq}

-- the number of a constant or a variable, and which of the two it is
abbrev pub number_in : Term → ℕ
number_in (Constant c) = c
number_in (Variable v) = v

-- the term is a constant
abbrev pub is_constant : Term → Bool
is_constant (Constant c) = true
is_constant (Variable v) = false

pub Decides-term_eq : (s t : Term) → Decides (term_eq s t) (s ≡ t)
Decides-term_eq (Constant a) (Constant b) = (λ e. ap Constant ((unsigned_Decides a b).0 e), λ e. (unsigned_Decides a b).1 (ap number_in e))
Decides-term_eq (Constant a) (Variable b) = (λ e. absurd (true≢false (sym e)), λ e. absurd (true≢false (ap is_constant e)))
Decides-term_eq (Variable a) (Constant b) = (λ e. absurd (true≢false (sym e)), λ e. absurd (true≢false (sym (ap is_constant e))))
Decides-term_eq (Variable a) (Variable b) = (λ e. ap Variable ((unsigned_Decides a b).0 e), λ e. (unsigned_Decides a b).1 (ap number_in e))

atom_path : (a b : Atom) → a.name ≡ b.name → a.terms ≡ b.terms → a ≡ b
atom_path a b p q = λ i. record { name = p i; terms = q i }

both : (s t : Bool) → s ≡ true → t ≡ true → (s && t) ≡ true
both s t p q = λ i. p i && q i

pub Decides-atom_eq : (a b : Atom) → Decides (atom_eq a b) (a ≡ b)
Decides-atom_eq a b =
    let names = unsigned_Decides a.name b.name in
    let terms = pointwise_decides Decides-term_eq a.terms b.terms in
    let first = nat_eq a.name b.name in
    let second = pointwise term_eq a.terms b.terms in (
      λ e. atom_path a b (names.0 (first_so first second e)) (terms.0 (second_so first second e)),
      λ e. both first second (names.1 (ap (λ (x : Atom). x.name) e)) (terms.1 (ap (λ (x : Atom). x.terms) e)),
    )

pub IsEquivalence-atom_eq : IsEquivalence atom_eq
IsEquivalence-atom_eq = decided atom_eq Decides-atom_eq

pub IsPartialEquivalence-atom_eq : IsPartialEquivalence atom_eq
IsPartialEquivalence-atom_eq = partial_equiv_from_equiv IsEquivalence-atom_eq

-- whether two queries are equal
abbrev pub query_eq : Query → Query → Bool
query_eq a b = pointwise term_eq a.answers b.answers && pointwise atom_eq a.atoms b.atoms

query_path : (a b : Query) → a.answers ≡ b.answers → a.atoms ≡ b.atoms → a ≡ b
query_path a b p q = λ i. record { answers = p i; atoms = q i }

pub Decides-query_eq : (a b : Query) → Decides (query_eq a b) (a ≡ b)
Decides-query_eq a b =
    let answers = pointwise_decides Decides-term_eq a.answers b.answers in
    let atoms = pointwise_decides Decides-atom_eq a.atoms b.atoms in
    let first = pointwise term_eq a.answers b.answers in
    let second = pointwise atom_eq a.atoms b.atoms in (
      λ e. query_path a b (answers.0 (first_so first second e)) (atoms.0 (second_so first second e)),
      λ e. both first second (answers.1 (ap (λ (x : Query). x.answers) e)) (atoms.1 (ap (λ (x : Query). x.atoms) e)),
    )

pub IsEquivalence-query_eq : IsEquivalence query_eq
IsEquivalence-query_eq = decided query_eq Decides-query_eq

pub IsPartialEquivalence-query_eq : IsPartialEquivalence query_eq
IsPartialEquivalence-query_eq = partial_equiv_from_equiv IsEquivalence-query_eq

-- whether two rules are equal
abbrev pub rule_eq : Rule → Rule → Bool
rule_eq r s = pointwise atom_eq r.heads s.heads && pointwise atom_eq r.body s.body

rule_path : (r s : Rule) → r.heads ≡ s.heads → r.body ≡ s.body → r ≡ s
rule_path r s p q = λ i. record { heads = p i; body = q i }

pub Decides-rule_eq : (r s : Rule) → Decides (rule_eq r s) (r ≡ s)
Decides-rule_eq r s =
    let heads = pointwise_decides Decides-atom_eq r.heads s.heads in
    let body = pointwise_decides Decides-atom_eq r.body s.body in
    let first = pointwise atom_eq r.heads s.heads in
    let second = pointwise atom_eq r.body s.body in (
      λ e. rule_path r s (heads.0 (first_so first second e)) (body.0 (second_so first second e)),
      λ e. both first second (heads.1 (ap (λ (x : Rule). x.heads) e)) (body.1 (ap (λ (x : Rule). x.body) e)),
    )

pub IsEquivalence-rule_eq : IsEquivalence rule_eq
IsEquivalence-rule_eq = decided rule_eq Decides-rule_eq

pub IsPartialEquivalence-rule_eq : IsPartialEquivalence rule_eq
IsPartialEquivalence-rule_eq = partial_equiv_from_equiv IsEquivalence-rule_eq
