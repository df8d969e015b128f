-- The signature of a query: two sets of marks, by which most pairs of queries are seen to cover nothing.
use Rattle.std.specs.Prelude.{ℕ, ◌+◌, ◌*◌, ◌%◌, ◌^◌, ◌≤◌, List, cond, fold, bit_or}
use Rattle.std.specs.Int.{bit_at}
use Rattle.std.specs.Int.Bits.{bit_xor}
use Rattle.std.specs.List.{enumerate_from}
use Rattle.ucq_terms.specs.declared.Term.{Term}
use Rattle.ucq_terms.specs.declared.Term.TheVariants.{Constant, Variable}
use Rattle.ucq_terms.specs.Syntax.{Atom, Query}
use Rattle.ucq_terms.specs.Numbering.{term_eq}

-- the mark of a number, among so many marks
abbrev pub mark : ℕ → ℕ → ℕ
mark size n = 2 ^ (n % size)

-- the mark of a constant at a place of a predicate; a variable has none
abbrev pub constant_mark : ℕ → ℕ → ℕ → Term → ℕ
constant_mark size name place (Constant c) = mark size (bit_xor (name + 13 * c) place)
constant_mark size name place (Variable v) = 0

-- the mark of a number, where the terms are equal
abbrev pub equal_mark : ℕ → ℕ → Term → Term → ℕ
equal_mark size n t s = cond (term_eq t s) (mark size n) 0

-- what tells the answer of this number at a place of a predicate
abbrev pub answer_number : ℕ → ℕ → ℕ → ℕ
answer_number name place answer = bit_xor (name + 29 * (answer % 64) + 7) place

-- what tells equal terms at two places of a predicate; it is the predicate's own number where the places are one
abbrev pub equal_number : ℕ → ℕ → ℕ → ℕ
equal_number name place other = name + 41 * (bit_xor place other % 64)

-- the marks of a term with those of the answers that it is
abbrev pub answer_marks : ℕ → List Term → ℕ → ℕ × Term → ℕ
answer_marks size answers name p =
    fold (λ (marks : ℕ) (answer : ℕ × Term). bit_or marks (equal_mark size (answer_number name p.0 answer.0) p.1 answer.1)) (constant_mark size name p.0 p.1) (enumerate_from 0 answers)

-- and with those of the equal terms of its atom
abbrev pub term_marks : ℕ → List Term → Atom → ℕ × Term → ℕ
term_marks size answers a p =
    fold (λ (marks : ℕ) (other : ℕ × Term). bit_or marks (equal_mark size (equal_number a.name p.0 other.0) p.1 other.1)) (answer_marks size answers a.name p) (enumerate_from 0 a.terms)

-- the marks of an atom: of its predicate, and of each term at its place
abbrev pub atom_marks : ℕ → List Term → Atom → ℕ
atom_marks size answers a = fold (λ (marks : ℕ) (p : ℕ × Term). bit_or marks (term_marks size answers a p)) (mark size a.name) (enumerate_from 0 a.terms)

abbrev pub query_marks : ℕ → Query → ℕ
query_marks size q = fold (λ (marks : ℕ) (a : Atom). bit_or marks (atom_marks size q.answers a)) 0 q.atoms

-- the marks among 128, and among 127, so that what the one takes for equal the other mostly tells apart
pub record Marks : Type 0 where
  pub first : ℕ
  pub second : ℕ

abbrev pub signature_of : Query → Marks
signature_of q = record { first = query_marks 128 q; second = query_marks 127 q }

-- each mark of the one set is one of the other
pub record IsPartOf (marks others : ℕ) : Type 0 where
  pub each : (i : ℕ) → bit_at marks i ≤ bit_at others i
