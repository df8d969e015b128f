-- A query with its atoms in another order, and its normal form.
use Rattle.std.proofs.Common.{◌≡◌, ◌<◌, ℕ, List, length, map, Contains, sym, ap, ◌∙◌, subst, inl, inr, arith}
use Rattle.std.proofs.lemmas.List.{length-map, get_or_default}
use Rattle.ucq_terms.specs.declared.Term.TheVariants.{Variable}
use Rattle.ucq_terms.specs.declared.TheConstants.{ATOMS}
use Rattle.ucq_terms.specs.declared.queries.QueryFault.TheVariants.{Unsafe, TooManyAtoms}
use Rattle.ucq_terms.specs.Syntax.{Atom, Query, IsVariableOf, IsSafe, IsSubset, IsSameSet, atom_image, atoms_image}
use Rattle.ucq_terms.specs.Query.{IsStored, IsQueryFault}
use Rattle.ucq_terms.specs.Homomorphism.{IsIsomorphism, AreIsomorphic}
use Rattle.ucq_terms.specs.Numbering.{normal_query}
use Rattle.ucq_terms.specs.Unifier.{atom_at}
use Rattle.ucq_terms.proofs.Idempotence.{AreIsomorphic-normal}
use Rattle.ucq_terms.proofs.Images.{Contains-image, Contains-from_image, IsSubset-from_image, IsSubset-image}
use Rattle.ucq_terms.proofs.Lists.{Contains-map, Contains-from_map}
use Rattle.ucq_terms.proofs.Once.{length-each_once}
use Rattle.ucq_terms.proofs.Safety.{none-from_IsSafe}
use Rattle.ucq_terms.proofs.Subsets.{IsSubset-contains, IsSubset-from_contains, IsSameSet-refl, OccursIn-subset}
use Rattle.ucq_hom.specs.Search.{IsOrder}

-- the query with other atoms
abbrev pub with_atoms : Query → List Atom → Query
with_atoms q atoms = record { answers = q.answers; atoms = atoms }

variable_still : (q : Query) (atoms : List Atom) → IsSubset atoms q.atoms → (v : ℕ) → IsVariableOf (with_atoms q atoms) v → IsVariableOf q v
variable_still q atoms s v (inl o) = inl (OccursIn-subset atoms q.atoms (Variable v) s o)
variable_still q atoms s v (inr i) = inr i

-- isomorphic queries are so with the same sets of atoms, listed otherwise
pub AreIsomorphic-same_sets : (a b : Query) (xs ys : List Atom) → IsSameSet xs a.atoms → IsSameSet ys b.atoms → AreIsomorphic a b →
    AreIsomorphic (with_atoms a xs) (with_atoms b ys)
AreIsomorphic-same_sets a b xs ys s t i =
    let h = i.renaming in
    let f : IsIsomorphism h a b = i.isomorphism in
    record {
      renaming = h;
      isomorphism = record {
        renames = λ v o. f.renames v (variable_still a xs s.0 v o);
        apart = λ v w o u e. f.apart v w (variable_still a xs s.0 v o) (variable_still a xs s.0 w u) e;
        answers = f.answers;
        atoms = (
          IsSubset-from_image h xs ys
              (λ x j. IsSubset-contains b.atoms ys (atom_image h x) t.1 (IsSubset-image h a.atoms b.atoms f.atoms.0 x (IsSubset-contains xs a.atoms x s.0 j))),
          IsSubset-from_contains ys (atoms_image h xs) (λ y j.
              let (x, k, e) =
              Contains-from_image h a.atoms y (IsSubset-contains b.atoms (atoms_image h a.atoms) y f.atoms.1 (IsSubset-contains ys b.atoms y t.0 j)) in
              subst (λ (z : Atom). Contains (atoms_image h xs) z) e (Contains-image h xs x (IsSubset-contains a.atoms xs x s.1 k))),
        );
      };
    }

-- the atoms at the places of an order are all the atoms
IsSameSet-ordered : (atoms : List Atom) (order : List ℕ) → IsOrder atoms order → IsSameSet atoms (map (atom_at atoms) order)
IsSameSet-ordered atoms order o = (
  IsSubset-from_contains atoms (map (atom_at atoms) order) (λ a c.
      let (k, l, e) = c in
      subst (λ (x : Atom). Contains (map (atom_at atoms) order) x) (get_or_default atoms k _ a l ∙ e) (Contains-map (atom_at atoms) order k (o.all k l))),
  IsSubset-from_contains (map (atom_at atoms) order) atoms (λ a c.
      let (k, j, e) = Contains-from_map (atom_at atoms) order a c in
      let l : k < length atoms = o.places.within k j in
      (k, l, get_or_default atoms k a _ l ∙ e)),
)

-- What is made of a stored query by an order of its atoms.
module _ (q : Query) (S : IsStored q) (order : List ℕ) (O : IsOrder q.atoms order) (size : length order ≡ length q.atoms) (answers : List _) (atoms : List Atom)
    (same_answers : answers ≡ q.answers) (same_atoms : atoms ≡ map (atom_at q.atoms) order) where
  abbrev made : Query
  made = record { answers = answers; atoms = atoms }

  same_set : IsSameSet q.atoms atoms
  same_set = subst (IsSameSet q.atoms) (sym same_atoms) (IsSameSet-ordered q.atoms order O)

  pub length-made : length atoms ≡ length q.atoms
  length-made = ap length same_atoms ∙ (length-map order (atom_at q.atoms) ∙ size)

  pub IsSafe-made : IsSafe made
  IsSafe-made = record {
    nonempty = let some : 0 < length q.atoms = S.safe.nonempty in let l = length-made in omega arith;
    answers = λ v c. OccursIn-subset q.atoms atoms (Variable v) same_set.0 (S.safe.answers v (subst (λ ts. Contains ts (Variable v)) same_answers c));
  }

  -- it has the query's form
  pub AreIsomorphic-made : (form : Query) → form ≡ normal_query made → AreIsomorphic q form
  AreIsomorphic-made form e =
      let i : AreIsomorphic (with_atoms q atoms) (normal_query (with_atoms q atoms)) = AreIsomorphic-normal (with_atoms q atoms) in
      let r : record { answers = answers; atoms = atoms } ≡ with_atoms q atoms = ap (λ ts. record { answers = ts; atoms = atoms }) same_answers in
      subst (AreIsomorphic q) (sym (e ∙ ap normal_query r))
      (AreIsomorphic-same_sets (with_atoms q atoms) (normal_query (with_atoms q atoms)) q.atoms (normal_query (with_atoms q atoms)).atoms same_set
      (IsSameSet-refl (normal_query (with_atoms q atoms)).atoms) i)

  pub not_loose-made : (place : ℕ) → IsQueryFault made (Unsafe place) → ⊥
  not_loose-made place f = none-from_IsSafe made IsSafe-made place f.here

  pub not_wide-made : (count : ℕ) → IsQueryFault made (TooManyAtoms count) → ⊥
  not_wide-made count f =
      let fewer = length-each_once atoms in
      let l = length-made in
      let few = S.few_atoms in
      let e : count ≡ _ = f.1 in
      let above : ATOMS < count = f.2 in
      omega arith
