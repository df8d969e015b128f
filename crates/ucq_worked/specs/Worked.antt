-- How terms and atoms are spelled in tests.
use Rattle.std.specs.Prelude.{◌≡◌, ◌-◌, ◌∷◌, ℕ, List, map, ◌&&◌, nat_le, if◌then◌else◌}
use Rattle.ucq_terms.specs.declared.Term.{Term}
use Rattle.ucq_terms.specs.declared.Term.TheVariants.{Constant, Variable}
use Rattle.ucq_terms.specs.Syntax.{Atom}

-- a capital letter is a variable, from A (65) to Z (90), and any other byte a constant
abbrev pub term_of : ℕ → Term
term_of letter = if nat_le 65 letter && nat_le letter 90 then Variable (letter - 65) else Constant letter

-- The word is the predicate's byte, and then the bytes of the terms.
pub record IsWordOf (word : List ℕ) (a : Atom) : Type 0 where
  pub letters : List ℕ
  pub word_is : word ≡ a.name ∷ letters
  pub terms_are : a.terms ≡ map term_of letters
