-- Answers that are variables of no atom.
use Rattle.std.proofs.Common.{◌≡◌, ℕ, ◌<◌, Bool, true, false, ◌↔◌, IsTrue, List, length, get_or, sym, ap, ◌∙◌, subst}
use Rattle.std.specs.Prelude.{Some}
use Rattle.std.proofs.lemmas.Option.{slice_get_within, get_or_from_slice_get, slice_get-get_or}
use Rattle.ucq_terms.specs.declared.Term.{Term}
use Rattle.ucq_terms.specs.declared.Term.TheVariants.{Variable}
use Rattle.ucq_terms.specs.Syntax.{Atom, Query, IsSafe}
use Rattle.ucq_terms.specs.Query.{IsLoose, IsLooseAt}
use Rattle.ucq_terms.proofs.Decide.{dec_occurs}
use Rattle.ucq_terms.specs.Numbering.{each_once}
use Rattle.ucq_terms.proofs.Lists.{first_element, length-positive}
use Rattle.ucq_terms.proofs.Once.{IsSameSet-each_once, OccursIn-each_once}
use Rattle.ucq_terms.proofs.Subsets.{IsSubset-contains}

-- the loose answer is the term at its place
pub IsLoose-at : (q : Query) (place : ℕ) (d : Term) → IsLooseAt q place → IsLoose q.atoms (get_or q.answers place d)
IsLoose-at q place d h =
    subst (IsLoose q.atoms) (sym (get_or_from_slice_get q.answers place (Variable h.variable) d h.stands)) h.loose

pub IsLooseAt-within : (q : Query) (place : ℕ) → IsLooseAt q place → place < length q.answers
IsLooseAt-within q place h = slice_get_within q.answers place (Variable h.variable) h.stands

-- a term that is tested and found not loose
pub not_loose_at : (q : Query) (place : ℕ) (d : Term) (found : Bool) → IsTrue found ↔ IsLoose q.atoms (get_or q.answers place d) → found ≡ false → IsLooseAt q place → ⊥
not_loose_at q place d found h e l = let bad : true ≡ false = sym (h.1 (IsLoose-at q place d l)) ∙ e in absurd cc

-- a query none of whose answers is loose is safe, and no answer of a safe one is loose
pub IsSafe-from_none : (q : Query) → 0 < length q.atoms → ((place : ℕ) → ¬ IsLooseAt q place) → IsSafe q
IsSafe-from_none q some none = record {
  nonempty = some;
  answers = λ v i. elim (dec_occurs q.atoms (Variable v)) [
    | yes o ↦ o
    | no o ↦ absurd (none i.0 (record { variable = v; stands = slice_get-get_or q.answers i.0 (Variable v) i.1 ∙ ap Some i.2; loose = o }))
  ];
}

pub none-from_IsSafe : (q : Query) → IsSafe q → (place : ℕ) → ¬ IsLooseAt q place
none-from_IsSafe q s place l =
    l.loose (s.answers l.variable (place, IsLooseAt-within q place l, get_or_from_slice_get q.answers place (Variable l.variable) (Variable l.variable) l.stands))

-- The same for equal lists.
pub none-same : (answers next_answers : List Term) (atoms next_atoms : List Atom) → answers ≡ next_answers → atoms ≡ next_atoms →
    ((place : ℕ) → ¬ IsLooseAt (record { answers = answers; atoms = atoms }) place) → (place : ℕ) → ¬ IsLooseAt (record { answers = next_answers; atoms = next_atoms }) place
none-same answers next_answers atoms next_atoms e f h place =
    let P : List Term → Type 0 = λ x. ¬ IsLooseAt (record { answers = x; atoms = next_atoms }) place in
    let R : List Atom → Type 0 = λ y. ¬ IsLooseAt (record { answers = answers; atoms = y }) place in
    subst P e (subst R f (h place))

-- a safe query is safe with each atom once
pub IsSafe-once : (q : Query) (once : List Atom) → once ≡ each_once q.atoms → IsSafe q → IsSafe (record { answers = q.answers; atoms = once })
IsSafe-once q once e s =
    subst (λ (l : List Atom). IsSafe (record { answers = q.answers; atoms = l })) (sym e) (record {
      nonempty = let (a, i) = first_element q.atoms s.nonempty in
          length-positive (each_once q.atoms) a (IsSubset-contains q.atoms (each_once q.atoms) a (IsSameSet-each_once q.atoms).1 i);
      answers = λ v i. OccursIn-each_once q.atoms (Variable v) (s.answers v i);
    })
