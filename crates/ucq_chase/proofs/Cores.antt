-- Equivalent cores are isomorphic.
use Rattle.std.proofs.Common.{◌≡◌, ℕ, suc, ◌≤◌, ◌⊎◌, inl, inr, refl, sym, ap, ◌∙◌, List, map, length, Contains, arith, subst, [], ◌∷◌, ◌++◌}
use Rattle.std.proofs.lemmas.Bool.{cases_eq}
use Rattle.std.proofs.lemmas.List.{length-map}
use Rattle.std.proofs.Math.Decide.{ℕ_discrete}
use Rattle.ucq_terms.specs.declared.Term.{Term}
use Rattle.ucq_terms.specs.declared.Term.TheVariants.{Constant, Variable}
use Rattle.ucq_terms.specs.Syntax.{Atom, Query, IsSubset, term_image, terms_image, atom_image, atoms_image, IsVariableOf}
use Rattle.ucq_terms.specs.Homomorphism.{IsHomomorphism, MapsInto, Covers, IsCore, AreIsomorphic}
use Rattle.std.proofs.lemmas.List.Elements.{Contains-append_left, Contains-append_right, Contains-append_cases}
use Rattle.ucq_terms.proofs.Distinct.{IsDistinct, take_out, length-distinct_le, IsDistinct-map, once_each}
use Rattle.ucq_terms.proofs.Images.{composite, atom_image-composite, Contains-image, Contains-from_image, IsSubset-image}
use Rattle.ucq_terms.proofs.Lists.{Contains-cons_cases, Contains-empty, Contains-map, Contains-from_map}
use Rattle.ucq_terms.proofs.Maps.{IsHomomorphism-composite}
use Rattle.ucq_terms.proofs.Subsets.{IsSubset-contains, IsSubset-from_contains, IsSubset-refl, OccursIn-from_atom, OccursIn-atom}
use Rattle.ucq_terms.proofs.Occurrences.{variables_of, Contains-variables_of, Contains-from_variables_of, variables, Contains-variables, Contains-from_variables}

-- a map from a finite set of variables that reaches each of them can spare none
spares_none : (e : ℕ → Term) (vs : List ℕ) (w : ℕ) → IsDistinct vs → Contains vs w →
    ((v : ℕ) → Contains vs v → (u : ℕ) × Contains vs u × (e u ≡ Variable v) × (u ≡ w → ⊥)) → ⊥
spares_none e vs w d i onto =
    let (zs, l, f) = take_out w vs i in
    let le : length (map Variable vs) ≤ length (map e zs) = length-distinct_le (map Variable vs) (map e zs) (IsDistinct-map Variable vs (λ a b p. cc) d) (λ t j.
    let (v, k, p) = Contains-from_map Variable vs t j in
    let (u, m, q, ne) = onto v k in
    subst (λ (s : Term). Contains (map e zs) s) (q ∙ p) (Contains-map e zs u (f u m ne))) in
    let one : length (map Variable vs) ≡ length vs = length-map vs Variable in
    let two : length (map e zs) ≡ length zs = length-map zs e in
    let three : length vs ≡ suc (length zs) = l in
    omega arith

-- each variable of the list is the image of one
record ReachesAll (e : ℕ → Term) (vs : List ℕ) : Type 0 where
  pub reach : (v : ℕ) → Contains vs v → (u : ℕ) × Contains vs u × (e u ≡ Variable v)

-- Such a map is one to one there, and has no constant for an image.
reaching_is_apart : (e : ℕ → Term) (vs : List ℕ) → ReachesAll e vs → (v w : ℕ) → Contains vs v → Contains vs w → e v ≡ e w → v ≡ w
reaching_is_apart e vs r v w i j p =
    let (zs, s) = once_each ℕ_discrete vs in
    elim (cases_eq v w) [
      | inl d ↦ d
      | inr ne ↦ absurd (spares_none e zs w s.distinct (s.to w j) (λ x k.
          let (u, m, q) = r.reach x (s.from x k) in
          elim (cases_eq u w) [
            | inl d ↦ (v, s.to v i, p ∙ ap e (sym d) ∙ q, ne)
            | inr other ↦ (u, s.to u m, q, other)
          ]))
    ]

reaching_is_variable : (e : ℕ → Term) (vs : List ℕ) → ReachesAll e vs → (v c : ℕ) → Contains vs v → e v ≡ Constant c → ⊥
reaching_is_variable e vs r v c i p =
    let (zs, s) = once_each ℕ_discrete vs in
    spares_none e zs v s.distinct (s.to v i) (λ x k.
    let (u, m, q) = r.reach x (s.from x k) in
    (u, s.to u m, q, λ d. let bad : Constant c ≡ Variable x = sym p ∙ ap e (sym d) ∙ q in cc))

-- A core's map into itself is onto.
pub core_is_reached : (a : Query) (e : ℕ → Term) → IsCore a → IsHomomorphism e a a.atoms a.answers → IsSubset a.atoms (atoms_image e a.atoms)
core_is_reached a e c h =
    let into : MapsInto a (atoms_image e a.atoms) a.answers = record {
      mapping = e;
      homomorphism = record { atoms = IsSubset-refl (atoms_image e a.atoms); answers = h.answers };
    } in
    c.no_proper_part (atoms_image e a.atoms) h.atoms into

-- a variable of an image comes from a variable
Contains-from_terms_image : (e : ℕ → Term) (ts : List Term) (v : ℕ) → Contains (terms_image e ts) (Variable v) →
    (u : ℕ) × Contains ts (Variable u) × (e u ≡ Variable v)
Contains-from_terms_image e ts v i = let (t, j, p) = Contains-from_map (term_image e) ts (Variable v) i in go t j p
  where
    go : (t : Term) → Contains ts t → term_image e t ≡ Variable v → (u : ℕ) × Contains ts (Variable u) × (e u ≡ Variable v)
    go (Constant c) j p = cc
    go (Variable u) j p = (u, j, p)

-- the variables of the atoms and of the answer list
abbrev query_variables : Query → List ℕ
query_variables q = variables q.atoms ++ variables_of q.answers

Contains-query_variables : (q : Query) (v : ℕ) → IsVariableOf q v → Contains (query_variables q) v
Contains-query_variables q v (inl o) = Contains-append_left (variables q.atoms) (variables_of q.answers) v (Contains-variables q.atoms v o)
Contains-query_variables q v (inr c) = Contains-append_right (variables q.atoms) (variables_of q.answers) v (Contains-variables_of q.answers v c)

-- a map that keeps a list of terms keeps each variable there
answer_kept : (e : ℕ → Term) (ts : List Term) (v : ℕ) → terms_image e ts ≡ ts → Contains ts (Variable v) → e v ≡ Variable v
answer_kept e [] v p i = absurd (Contains-empty (Variable v) i)
answer_kept e (t ∷ ts) v p i = elim (Contains-cons_cases t ts (Variable v) i) [
  | inl d ↦ let q : term_image e t ≡ t = cc in ap (term_image e) (sym d) ∙ q ∙ d
  | inr j ↦ let q : terms_image e ts ≡ ts = cc in answer_kept e ts v q j
]

-- so a core's map into itself reaches all its variables
core_reaches : (a : Query) (e : ℕ → Term) → IsCore a → IsHomomorphism e a a.atoms a.answers → ReachesAll e (query_variables a)
core_reaches a e c h = record {
  reach = λ v i. elim (Contains-append_cases (variables a.atoms) (variables_of a.answers) v i) [
    | inl i ↦
        let (b, j, k) = OccursIn-atom a.atoms (Variable v) (Contains-from_variables a.atoms v i) in
        let (d, m, p) = Contains-from_image e a.atoms b (IsSubset-contains a.atoms (atoms_image e a.atoms) b (core_is_reached a e c h) j) in
        let k' : Contains (atom_image e d).terms (Variable v) = subst (λ (x : Atom). Contains x.terms (Variable v)) (sym p) k in
        let (u, n, q) = Contains-from_terms_image e d.terms v k' in
        (u, Contains-query_variables a u (inl (OccursIn-from_atom a.atoms (Variable u) d m n)), q)
    | inr i ↦
        let j : Contains a.answers (Variable v) = Contains-from_variables_of a.answers v i in
        (v, Contains-query_variables a v (inr j), answer_kept e a.answers v h.answers j)
  ];
}

variable_or_constant : (t : Term) → ((w : ℕ) × (t ≡ Variable w)) ⊎ ((c : ℕ) × (t ≡ Constant c))
variable_or_constant (Constant c) = inr (c, refl)
variable_or_constant (Variable w) = inl (w, refl)

-- a map between two equivalent cores is an isomorphism
pub equivalent_cores : (a b : Query) → IsCore a → IsCore b → Covers a b → Covers b a → AreIsomorphic a b
equivalent_cores a b c d to_b to_a =
    let h : ℕ → Term = to_b.mapping in
    let s : IsHomomorphism h a b.atoms b.answers = to_b.homomorphism in
    let g : ℕ → Term = to_a.mapping in
    let t : IsHomomorphism g b a.atoms a.answers = to_a.homomorphism in
    let e : IsHomomorphism (composite g h) a a.atoms a.answers = IsHomomorphism-composite a b a.atoms a.answers h g s t in
    let f : IsHomomorphism (composite h g) b b.atoms b.answers = IsHomomorphism-composite b a b.atoms b.answers g h t s in
    let r : ReachesAll (composite g h) (query_variables a) = core_reaches a (composite g h) c e in
    record {
      renaming = h;
      isomorphism = record {
        renames = λ v o. elim (variable_or_constant (h v)) [
          | inl p ↦ p
          | inr (k, p) ↦ absurd (reaching_is_variable (composite g h) (query_variables a) r v k (Contains-query_variables a v o) (ap (term_image g) p))
        ];
        apart =
            λ v w o u p. reaching_is_apart (composite g h) (query_variables a) r v w (Contains-query_variables a v o) (Contains-query_variables a w u)
            (ap (term_image g) p);
        answers = s.answers;
        atoms = (
          s.atoms,
          IsSubset-from_contains b.atoms (atoms_image h a.atoms) (λ x i.
              let (y, j, p) =
              Contains-from_image (composite h g) b.atoms x
              (IsSubset-contains b.atoms (atoms_image (composite h g) b.atoms) x (core_is_reached b (composite h g) d f) i) in
              subst (λ (z : Atom). Contains (atoms_image h a.atoms) z) (atom_image-composite h g y ∙ p)
              (Contains-image h a.atoms (atom_image g y) (IsSubset-image g b.atoms a.atoms t.atoms y j))),
        );
      };
    }
