-- Terms, atoms, rules, queries and problems, as contracts see them, and maps on terms. (Standard: Abiteboul, Hull and
-- Vianu 1995; rules with existential variables after Baget, Leclère, Mugnier and Salvat 2011.)
use Rattle.std.specs.Prelude.{◌≢◌, ◌<◌, ◌⊎◌, ℕ, List, length, map, Contains, Any, All, AllPairs}
use Rattle.ucq_terms.specs.declared.Term.{Term}
use Rattle.ucq_terms.specs.declared.Term.TheVariants.{Constant, Variable}

-- A predicate's name, and the terms at its places. Two atoms have one predicate when their names and
-- their numbers of terms are equal.
pub record Atom : Type 0 where
  pub name : ℕ
  pub terms : List Term

-- An existential rule: the atoms of its head, and those of its body.
pub record Rule : Type 0 where
  pub heads : List Atom
  pub body : List Atom

-- A conjunctive query: its answer terms in order, and its atoms, whose order means nothing.
pub record Query : Type 0 where
  pub answers : List Term
  pub atoms : List Atom

-- Rules, and the query that is asked under them.
pub record Problem : Type 0 where
  pub rules : List Rule
  pub query : Query

-- the term stands in an atom of the list
abbrev pub OccursIn : List Atom → Term → Type 0
OccursIn atoms t = Any (λ (a : Atom). Contains a.terms t) atoms

-- no atom stands twice, so the list's places stand for the atoms of a set
abbrev pub HasEachOnce : List Atom → Type 0
HasEachOnce atoms = AllPairs (λ (a b : Atom). a ≢ b) atoms

-- the variable stands in an atom or in the answer list
abbrev pub IsVariableOf : Query → ℕ → Type 0
IsVariableOf q v = OccursIn q.atoms (Variable v) ⊎ Contains q.answers (Variable v)

-- there is an atom, and each variable of the answer list occurs in one
pub record IsSafe (q : Query) : Type 0 where
  pub nonempty : 0 < length q.atoms
  pub answers : (v : ℕ) → Contains q.answers (Variable v) → OccursIn q.atoms (Variable v)

-- every atom of the first list stands in the second
abbrev pub IsSubset : List Atom → List Atom → Type 0
IsSubset xs ys = All (Contains ys) xs

-- the two lists are one set of atoms
abbrev pub IsSameSet : List Atom → List Atom → Type 0
IsSameSet xs ys = IsSubset xs ys × IsSubset ys xs

-- What a map of variables makes of a term, which keeps constants; of a list of terms; of an atom; and of a list of atoms.
abbrev pub term_image : (ℕ → Term) → Term → Term
term_image h (Constant c) = Constant c
term_image h (Variable v) = h v

abbrev pub terms_image : (ℕ → Term) → List Term → List Term
terms_image h terms = map (term_image h) terms

abbrev pub atom_image : (ℕ → Term) → Atom → Atom
atom_image h a = record { name = a.name; terms = terms_image h a.terms }

abbrev pub atoms_image : (ℕ → Term) → List Atom → List Atom
atoms_image h atoms = map (atom_image h) atoms
