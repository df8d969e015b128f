-- Lists of atoms with each atom once.
use Rattle.std.proofs.Common.{◌≡◌, Bool, true, false, cond, ◌||◌, ◌≤◌, List, [], ◌∷◌, ◌++◌, length, refl, sym, ap, ap₂, ◌∙◌, arith}
use Rattle.std.specs.List.{list_any}
use Rattle.ucq_terms.specs.declared.Term.{Term}
use Rattle.ucq_terms.specs.Syntax.{Atom, OccursIn, HasEachOnce, IsSameSet}
use Rattle.ucq_terms.specs.Numbering.{atom_eq, with_atom, each_once}
use Rattle.ucq_terms.proofs.Equality.{IsEquality-atom_eq, eq_symm}
use Rattle.ucq_terms.proofs.Numbering.{first_occurrences-push, length-with_elements, Contains-first_occurrences, Contains-from_first_occurrences}
use Rattle.ucq_terms.proofs.Numbering.{IsDistinct-first_occurrences}
use Rattle.ucq_terms.proofs.Subsets.{IsSubset-from_contains, OccursIn-subset}

-- the test with its sides exchanged
pub list_any-sides : (a : Atom) (kept : List Atom) → list_any (λ b. atom_eq b a) kept ≡ list_any (atom_eq a) kept
list_any-sides a [] = refl
list_any-sides a (b ∷ kept) = ap₂ (λ s t. s || t) (eq_symm atom_eq IsEquality-atom_eq b a) (list_any-sides a kept)

-- An atom of which an equal one is there adds nothing, and one that is new stands last.
pub with_atom-held : (kept : List Atom) (a : Atom) (found : Bool) → found ≡ list_any (λ b. atom_eq b a) kept → found ≡ true → kept ≡ with_atom kept a
with_atom-held kept a found f g =
    let h : true ≡ list_any (atom_eq a) kept = sym g ∙ (f ∙ list_any-sides a kept) in ap (λ b. cond b kept (kept ++ a ∷ [])) h

pub with_atom-new : (kept : List Atom) (a : Atom) (found : Bool) → found ≡ list_any (λ b. atom_eq b a) kept → found ≡ false → kept ++ a ∷ [] ≡ with_atom kept a
with_atom-new kept a found f g =
    let h : false ≡ list_any (atom_eq a) kept = sym g ∙ (f ∙ list_any-sides a kept) in ap (λ b. cond b kept (kept ++ a ∷ [])) h

-- one more atom
pub each_once-push : (atoms kept next : List Atom) (a : Atom) → kept ≡ each_once atoms → next ≡ with_atom kept a → next ≡ each_once (atoms ++ a ∷ [])
each_once-push atoms kept next a e f = f ∙ (ap (λ l. with_atom l a) e ∙ sym (first_occurrences-push atom_eq atoms a))

-- The list has the same atoms, each once, and is no longer.
pub IsSameSet-each_once : (atoms : List Atom) → IsSameSet (each_once atoms) atoms
IsSameSet-each_once atoms = (
  IsSubset-from_contains (each_once atoms) atoms (λ a i. Contains-from_first_occurrences atom_eq IsEquality-atom_eq atoms a i),
  IsSubset-from_contains atoms (each_once atoms) (λ a i. Contains-first_occurrences atom_eq IsEquality-atom_eq atoms a i),
)

pub HasEachOnce-each_once : (atoms : List Atom) → HasEachOnce (each_once atoms)
HasEachOnce-each_once atoms = IsDistinct-first_occurrences atom_eq IsEquality-atom_eq atoms

pub length-each_once : (atoms : List Atom) → length (each_once atoms) ≤ length atoms
length-each_once atoms = omega (arith, length-with_elements atom_eq [] atoms)

pub OccursIn-each_once : (atoms : List Atom) (t : Term) → OccursIn atoms t → OccursIn (each_once atoms) t
OccursIn-each_once atoms t o = OccursIn-subset atoms (each_once atoms) t (IsSameSet-each_once atoms).1 o

pub OccursIn-from_each_once : (atoms : List Atom) (t : Term) → OccursIn (each_once atoms) t → OccursIn atoms t
OccursIn-from_each_once atoms t o = OccursIn-subset (each_once atoms) atoms t (IsSameSet-each_once atoms).0 o
