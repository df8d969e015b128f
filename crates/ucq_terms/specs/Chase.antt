-- The oblivious chase, and the answers that it gives. (Maier, Mendelzon and Sagiv 1979; Calì, Gottlob and Kifer 2013. That
-- answers may hold unknown values of the facts is this project's own.)
use Rattle.std.specs.Prelude.{◌≡◌, ℕ, List, [], ◌∷◌, ◌++◌, Contains, All}
use Rattle.ucq_terms.specs.declared.Term.{Term}
use Rattle.ucq_terms.specs.declared.Term.TheVariants.{Constant, Variable}
use Rattle.ucq_terms.specs.Syntax.{Atom, Rule, Problem, OccursIn, IsSubset, IsSameSet, atoms_image}
use Rattle.ucq_terms.specs.Homomorphism.{MapsInto}

-- a variable of both head and body
abbrev pub IsFrontier : Rule → ℕ → Type 0
IsFrontier rule v = OccursIn rule.heads (Variable v) × OccursIn rule.body (Variable v)

-- a variable of the head alone
abbrev pub IsExistential : Rule → ℕ → Type 0
IsExistential rule v = OccursIn rule.heads (Variable v) × ¬ OccursIn rule.body (Variable v)

-- One application of a rule leads from one instance to the next.
pub record IsChaseStep (rule : Rule) (before after : List Atom) : Type 0 where
  -- the trigger, which sends the body into the instance
  pub trigger : ℕ → Term
  pub applies : IsSubset (atoms_image trigger rule.body) before
  -- where the head's variables go: the frontier as the trigger has it, and each existential variable to an unknown
  -- value of its own that the instance doesn't have
  pub placed : ℕ → Term
  pub frontier : (v : ℕ) → IsFrontier rule v → placed v ≡ trigger v
  pub fresh : (v : ℕ) → IsExistential rule v → (u : ℕ) × (placed v ≡ Variable u) × ¬ OccursIn before (Variable u)
  pub apart : (v w : ℕ) → IsExistential rule v → IsExistential rule w → placed v ≡ placed w → v ≡ w
  pub adds : IsSameSet after (before ++ atoms_image placed rule.heads)

-- the instances follow the first one, each by a step of one of the rules, and the last of them is the last one
abbrev pub IsChaseSequence : List Rule → List Atom → List (List Atom) → List Atom → Type 0
IsChaseSequence rules first [] last = last ≡ first
IsChaseSequence rules first (next ∷ rest) last = ((rule : Rule) × Contains rules rule × IsChaseStep rule first next) × IsChaseSequence rules next rest last

-- a constant, or an unknown value of the facts
abbrev pub IsKnownIn : List Atom → Term → Type 0
IsKnownIn facts (Constant c) = Unit {0}
IsKnownIn facts (Variable u) = OccursIn facts (Variable u)

-- The tuple holds constants and unknown values of the facts, and some finite chase of the facts ends in an instance to
-- which the problem's query maps with it.
pub record IsChaseAnswer (problem : Problem) (facts : List Atom) (tuple : List Term) : Type 0 where
  pub known : All (IsKnownIn facts) tuple
  pub steps : List (List Atom)
  pub last : List Atom
  pub chase : IsChaseSequence problem.rules facts steps last
  pub maps : MapsInto problem.query last tuple
