-- Cores that are kept, none of them twice.
use Rattle.std.specs.Prelude.{◌≡◌, ◌≢◌, ◌⊎◌, ◌+◌, ◌*◌, ◌%◌, ◌^◌, ℕ, true, List, Contains, AllPairs, fold}
use Rattle.std.specs.Hash as fed
use Rattle.std.proofs.Common.{ap}
use Rattle.ucq_terms.specs.declared.Term.{Term}
use Rattle.ucq_terms.specs.declared.Term.TheVariants.{Constant, Variable}
use Rattle.ucq_terms.specs.Syntax.{Atom, Query}
use Rattle.ucq_terms.specs.Homomorphism.{IsCoreOf, IsEquivalent}
use Rattle.ucq_terms.specs.Equality.{query_eq, Decides-query_eq}

-- no two of the cores are equal
abbrev pub AreDifferent : List Query → Type 0
AreDifferent cores = AllPairs (λ (a b : Query). a ≢ b) cores

-- the second list has the cores of the first and this one, and no others
pub record HasKept (before : List Query) (core : Query) (after : List Query) : Type 0 where
  pub kept : (other : Query) → Contains before other → Contains after other
  pub there : Contains after core
  pub only : (other : Query) → Contains after other → Contains before other ⊎ (other ≡ core)

-- one of the queries is equivalent to this one
pub record HasEquivalent (queries : List Query) (query : Query) : Type 0 where
  pub other : Query
  pub among : Contains queries other
  pub equivalent : IsEquivalent query other

-- the second list has no more queries than the first, but for one that is equivalent to this one
pub record AreMore (before : List Query) (query : Query) (after : List Query) : Type 0 where
  pub only : (other : Query) → Contains after other → Contains before other ⊎ IsEquivalent query other

-- one of the cores is the query's
pub record HasCore (cores : List Query) (query : Query) : Type 0 where
  pub core : Query
  pub among : Contains cores core
  pub shrunk : IsCoreOf query core

-- each of the queries has a core
pub record HaveCores (queries cores : List Query) : Type 0 where
  pub each : (query : Query) → Contains queries query → HasCore cores query

-- the second list has the cores of the first, and one of the query, and no others but such
pub record HasAddedCore (before : List Query) (query : Query) (after : List Query) : Type 0 where
  pub kept : (other : Query) → Contains before other → Contains after other
  pub there : HasCore after query
  pub only : (other : Query) → Contains after other → Contains before other ⊎ IsCoreOf query other

-- a number of 64 bits after another one is stirred in
abbrev pub stirred : ℕ → ℕ → ℕ
stirred print number = ((print * 6364136223846793005) % 2 ^ 64 + number) % 2 ^ 64

-- different terms have different numbers
abbrev pub term_number : Term → ℕ
term_number (Constant c) = 2 * c
term_number (Variable v) = 2 * v + 1

-- a number for a list of terms, for atoms, and for a query, after a number
abbrev pub terms_print : ℕ → List Term → ℕ
terms_print print terms = fold (λ p t. stirred p (term_number t)) print terms

abbrev pub atoms_print : ℕ → List Atom → ℕ
atoms_print print atoms = fold (λ p (a : Atom). terms_print (stirred p a.name) a.terms) print atoms

abbrev pub query_print : Query → ℕ
query_print q = atoms_print (terms_print 0 q.answers) q.atoms

-- equal queries have equal numbers
pub query_print-same : (a b : Query) → query_eq a b ≡ true → fed.u64 (query_print a) ≡ fed.u64 (query_print b)
query_print-same a b e = ap (λ q. fed.u64 (query_print q)) ((Decides-query_eq a b).0 e)
