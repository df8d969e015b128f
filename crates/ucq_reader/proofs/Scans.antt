-- What the loops that look for the first refusal of a statement have still to look at.
use Rattle.std.proofs.Common.{ℕ, Bool, map, List, length, Option}
use Rattle.std.specs.List.{filter_map, find, list_any, enumerate_from}
use Rattle.ucq_lexer.specs.declared.Token.{Token}
use Rattle.ucq_reader.specs.declared.syntax.AtomForm.{AtomForm}
use Rattle.ucq_reader.specs.Statement.{TermSyntax, AtomSyntax}
use Rattle.ucq_reader.specs.Names.{Declared, word_text}
use Rattle.ucq_reader.specs.Meaning.{mapped, first_above, arity, is_variable, has_variable, is_loose}
use Rattle.ucq_reader.specs.Input.{words}
use Rattle.ucq_reader.specs.View.{atom_view, term_view}

-- the first name that is too long
abbrev pub long_name_in : Declared → List ℕ → List Token → Option ℕ
long_name_in ds text ts = first_above 1024 (map length (filter_map (word_text ds) (words text ts)))

-- the first atom of too many terms
abbrev pub wide_in : List ℕ → List AtomForm → Option ℕ
wide_in text atoms = first_above 16 (map arity (map (atom_view text) atoms))

-- whether the variable is among the terms
abbrev pub among_terms : List ℕ → List ℕ → List Token → Bool
among_terms text variable ts = list_any (is_variable variable) (map (term_view text) ts)

-- whether an atom has the variable
abbrev pub among_atoms : List ℕ → List ℕ → List AtomForm → Bool
among_atoms text variable atoms = list_any (has_variable variable) (map (atom_view text) atoms)

-- the first answer that no atom has, where the answers begin at this place
abbrev pub loose_from : List AtomSyntax → List ℕ → ℕ → List Token → Option ℕ
loose_from atoms text i ts = mapped (λ (a : ℕ × TermSyntax). a.0) (find (λ (a : ℕ × TermSyntax). is_loose atoms a.1) (enumerate_from i (map (term_view text) ts)))
