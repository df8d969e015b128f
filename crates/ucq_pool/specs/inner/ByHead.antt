-- Rules that are found by the names in their heads.
use Rattle.std.specs.Prelude.{◌≡◌, ℕ, ◌<◌, ◌⊎◌, nat_eq, List, [], ◌∷◌, ◌++◌, length, if◌then◌else◌, Contains}
use Rattle.std.specs.Option.{option_map_or}
use Rattle.std.specs.Global.{Vec}
use Rattle.std.specs.List.Sorted.{IsStrictlyIncreasing}
use Rattle.indexmap.specs.IndexMap.{IndexMap, get}
use Rattle.ucq_terms.specs.Syntax.{Atom, Rule, Query}
use Rattle.ucq_terms.specs.Unifier.{KeepsPredicate, atom_at}
use Rattle.ucq_terms.specs.Rewriting.{rule_at}

module _ {S : Type 0} where
  -- the list of a name; a name without an entry has the empty list
  abbrev pub list_of : IndexMap ℕ (Vec ℕ) S → ℕ → List ℕ
  list_of lists name = option_map_or (λ list. list.items) (get nat_eq lists name) []

  -- the number stands last in the list of the name, and all other lists are as before
  pub record IsListed (before : IndexMap ℕ (Vec ℕ) S) (name number : ℕ) (after : IndexMap ℕ (Vec ℕ) S) : Type 0 where
    pub lists : (other : ℕ) → list_of after other ≡ (if nat_eq name other then list_of before other ++ number ∷ [] else list_of before other)

  -- The number stands in the lists of the names of the atoms before a place, and nothing else is new.
  pub record AreListedBefore (heads : List Atom) (place number : ℕ) (before after : IndexMap ℕ (Vec ℕ) S) : Type 0 where
    pub kept : (name other : ℕ) → Contains (list_of before name) other → Contains (list_of after name) other
    pub new : (name other : ℕ) → Contains (list_of after name) other → Contains (list_of before name) other ⊎ (other ≡ number)
    pub listed : (k : ℕ) → k < place → Contains (list_of after (atom_at heads k).name) number

  -- Only numbers of rules below a number are listed, and each of these rules is, under each name in its head.
  pub record AreListedBelow (rules : List Rule) (count : ℕ) (lists : IndexMap ℕ (Vec ℕ) S) : Type 0 where
    pub within : (name number : ℕ) → Contains (list_of lists name) number → number < count
    pub listed : (number k : ℕ) → number < count → k < length (rule_at rules number).heads → Contains (list_of lists (atom_at (rule_at rules number).heads k).name) number

-- They are numbers of rules in rising order, and each rule with which an atom of the query has a predicate in common is among them.
pub record AreRelevant (rules : List Rule) (q : Query) (numbers : List ℕ) : Type 0 where
  pub rising : IsStrictlyIncreasing numbers
  pub within : (number : ℕ) → Contains numbers number → number < length rules
  pub all : (number : ℕ) (pair : ℕ × ℕ) → number < length rules → KeepsPredicate q (rule_at rules number) pair → Contains numbers number
