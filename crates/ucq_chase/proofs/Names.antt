-- A rewriting has no names but those of the query and the rules.
use Rattle.std.proofs.Common.{◌≡◌, ℕ, ◌<◌, List, [], ◌++◌, map, length, All, Contains, refl, sym, ◌∙◌, subst, inl, inr, ⊎_elim}
use Rattle.std.specs.List.{enumerate_from}
use Rattle.std.proofs.lemmas.List.Elements.{All-contains, Contains-append_cases}
use Rattle.ucq_terms.specs.declared.Term.{Term}
use Rattle.ucq_terms.specs.declared.Term.TheVariants.{Constant, Variable}
use Rattle.ucq_terms.specs.Syntax.{Atom, Rule, Query, term_image, atom_image}
use Rattle.ucq_terms.specs.Unifier.{Node, constant, of_query, of_copy, query_node, copy_node, atom_at, unmatched, links, AreJoined}
use Rattle.ucq_terms.specs.Rewriting.{Member, rule_at, all_pairs, all_links, atoms_named, bodies, IsMember, Rewrites}
use Rattle.ucq_terms.proofs.Classes.{AreJoined-end}
use Rattle.ucq_terms.proofs.Images.{IsSubset-image}
use Rattle.ucq_terms.proofs.Lists.{Contains-map, Contains-from_map, Contains-from_flat_map, All-from_contains}
use Rattle.ucq_terms.proofs.Matched.{IsLinkOf, Contains-from_links}
use Rattle.ucq_terms.proofs.Members.{entry_member, entry_unifier}
use Rattle.ucq_terms.proofs.Places.{Contains-from_unmatched}
use Rattle.ucq_terms.proofs.Subsets.{IsSubset-contains}
use Rattle.ucq_terms.proofs.Zips.{Contains-zip_left, Contains-zip_right}
use Rattle.ucq_chase.specs.Names.{IsHeldTerm, IsHeldAtom, AreHeldAtoms, IsHeldQuery, IsHeldRule, OneStepKeepsNames, CoveringKeepsNames, CoreKeepsNames}

-- a constant that is a node is held
abbrev IsHeldNode : ℕ → Node → Type 0
IsHeldNode count (constant c) = c < count
IsHeldNode count (of_query v) = Unit {0}
IsHeldNode count (of_copy m v) = Unit {0}

held_query_node : (count : ℕ) (t : Term) → IsHeldTerm count t → IsHeldNode count (query_node t)
held_query_node count (Constant c) h = h
held_query_node count (Variable v) h = tt

held_copy_node : (count copy : ℕ) (t : Term) → IsHeldTerm count t → IsHeldNode count (copy_node copy t)
held_copy_node count copy (Constant c) h = h
held_copy_node count copy (Variable v) h = tt

-- the atom at a place of a list, and its terms
held_at : (count : ℕ) (atoms : List Atom) (place : ℕ) → place < length atoms → AreHeldAtoms count atoms → IsHeldAtom count (atom_at atoms place)
held_at count atoms place l h = h place (record { name = 0; terms = [] }) l

module _ (count : ℕ) (q : Query) (rules : List Rule) (members : List Member) (result : Query) (held : IsHeldQuery count q) (rules_held : All (IsHeldRule count) rules)
    (rewrites : Rewrites q rules members result) where
  rule_held : (i : ℕ) (m : Member) → Contains (enumerate_from 0 members) (i, m) → IsHeldRule count (rule_at rules m.rule)
  rule_held i m c =
      let is : IsMember q rules m = All-contains (IsMember q rules) members m rewrites.aggregate.each (entry_member members i m c) in
      rules_held m.rule (record { heads = []; body = [] }) is.rule

  -- both ends of each link are held
  ends_held : (l : Node × Node) → Contains (all_links q rules members) l → IsHeldNode count l.0 × IsHeldNode count l.1
  ends_held l c =
      let r = Contains-from_flat_map (λ (p : ℕ × Member). links q p.0 (rule_at rules p.1.rule) p.1.pairs) (enumerate_from 0 members) l c in
      in_links r.0.0 r.0.1 r.1 (Contains-from_links q r.0.0 (rule_at rules r.0.1.rule) r.0.1.pairs l r.2)
    where
      in_links : (i : ℕ) (m : Member) → Contains (enumerate_from 0 members) (i, m) → (pair : ℕ × ℕ) × Contains m.pairs pair × IsLinkOf q i (rule_at rules m.rule) pair l →
          IsHeldNode count l.0 × IsHeldNode count l.1
      in_links i m c (pair, d, k) =
          let keeps = (entry_unifier q rules members i m rewrites.aggregate c).matching.each pair d in
          let left = held_at count q.atoms pair.0 keeps.in_query held.atoms in
          let right = held_at count (rule_at rules m.rule).heads pair.1 keeps.in_head (rule_held i m c).heads in
          let xs = (atom_at q.atoms pair.0).terms in
          let ys = (atom_at (rule_at rules m.rule).heads pair.1).terms in (
            subst (IsHeldNode count) k.left_is (held_query_node count k.left (All-contains (IsHeldTerm count) xs k.left left.terms (Contains-zip_left xs ys (k.left, k.right) k.at))),
            subst (IsHeldNode count) k.right_is (held_copy_node count i k.right (All-contains (IsHeldTerm count) ys k.right right.terms (Contains-zip_right xs ys (k.left, k.right) k.at))),
          )

  -- a constant that is joined with a held node is held
  joined_held : (x : Node) (c : ℕ) → IsHeldNode count x → AreJoined (all_links q rules members) x (constant c) → c < count
  joined_held x c h j = elim (AreJoined-end j) [
    | inl e ↦ subst (IsHeldNode count) e h
    | inr (z, e) ↦ ⊎_elim (λ i. (ends_held (z, constant c) i).1) (λ i. (ends_held (constant c, z) i).0) e
  ]

  -- so the name of a held node is held
  name_held : (x : Node) → IsHeldNode count x → IsHeldTerm count (rewrites.name x)
  name_held x h = of_name (rewrites.name x) refl
    where
      of_name : (t : Term) → rewrites.name x ≡ t → IsHeldTerm count t
      of_name (Constant c) e = joined_held x c h ((rewrites.names.classes x (constant c)).0 (e ∙ sym (rewrites.names.constants c)))
      of_name (Variable v) e = tt

  atom_named_held : (f : Term → Term) (a : Atom) → ((t : Term) → IsHeldTerm count t → IsHeldTerm count (f t)) → IsHeldAtom count a →
      IsHeldAtom count (record { name = a.name; terms = map f a.terms })
  atom_named_held f a keeps h = record {
    name = h.name;
    terms = All-from_contains (IsHeldTerm count) (map f a.terms) (λ s i.
        let (t, j, e) = Contains-from_map f a.terms s i in
        subst (IsHeldTerm count) e (keeps t (All-contains (IsHeldTerm count) a.terms t h.terms j)));
  }

  atoms_named_held : (f : Term → Term) (atoms : List Atom) (b : Atom) → ((t : Term) → IsHeldTerm count t → IsHeldTerm count (f t)) → AreHeldAtoms count atoms →
      Contains (atoms_named f atoms) b → IsHeldAtom count b
  atoms_named_held f atoms b keeps h i =
      let (a, j, e) = Contains-from_map (λ (a : Atom). record { name = a.name; terms = map f a.terms }) atoms b i in
      subst (IsHeldAtom count) e (atom_named_held f a keeps (All-contains (IsHeldAtom count) atoms a h j))

  query_terms : (t : Term) → IsHeldTerm count t → IsHeldTerm count (rewrites.name (query_node t))
  query_terms t h = name_held (query_node t) (held_query_node count t h)

  body_held : (b : Atom) → Contains (bodies rewrites.name rules members) b → IsHeldAtom count b
  body_held b i =
      let r = Contains-from_flat_map (λ (p : ℕ × Member). atoms_named (λ t. rewrites.name (copy_node p.0 t)) (rule_at rules p.1.rule).body) (enumerate_from 0 members) b i in
      atoms_named_held (λ t. rewrites.name (copy_node r.0.0 t)) (rule_at rules r.0.1.rule).body b
      (λ t h. name_held (copy_node r.0.0 t) (held_copy_node count r.0.0 t h)) (rule_held r.0.0 r.0.1 r.1).body r.2

  unmatched_held : AreHeldAtoms count (unmatched q (all_pairs members))
  unmatched_held = All-from_contains (IsHeldAtom count) (unmatched q (all_pairs members)) (λ a i.
      let (place, l, e, out) = Contains-from_unmatched q (all_pairs members) a i in
      subst (IsHeldAtom count) e (held_at count q.atoms place l held.atoms))

  result_held : IsHeldQuery count result
  result_held = record {
    answers = All-from_contains (IsHeldTerm count) result.answers (λ s i.
        let i' : Contains (map (λ t. rewrites.name (query_node t)) q.answers) s = subst (λ (ts : List Term). Contains ts s) rewrites.answers i in
        let (t, j, e) = Contains-from_map (λ t. rewrites.name (query_node t)) q.answers s i' in
        subst (IsHeldTerm count) e (query_terms t (All-contains (IsHeldTerm count) q.answers t held.answers j)));
    atoms = All-from_contains (IsHeldAtom count) result.atoms (λ b i.
        let rest = atoms_named (λ t. rewrites.name (query_node t)) (unmatched q (all_pairs members)) in
        elim (Contains-append_cases (bodies rewrites.name rules members) rest b
        (IsSubset-contains result.atoms (bodies rewrites.name rules members ++ rest) b rewrites.atoms.0 i)) [
          | inl j ↦ body_held b j
          | inr j ↦ atoms_named_held (λ t. rewrites.name (query_node t)) (unmatched q (all_pairs members)) b query_terms unmatched_held j
        ]);
  }

pub one_step_keeps_names : OneStepKeepsNames
one_step_keeps_names count rules q result rules_held held one = result_held count q rules one.step.members result held rules_held one.step.rewrites

-- a term is held where its image is
held_from_image : (count : ℕ) (h : ℕ → Term) (t : Term) → IsHeldTerm count (term_image h t) → IsHeldTerm count t
held_from_image count h (Constant c) k = k
held_from_image count h (Variable v) k = tt

terms_held_from_image : (count : ℕ) (h : ℕ → Term) (ts : List Term) → All (IsHeldTerm count) (map (term_image h) ts) → All (IsHeldTerm count) ts
terms_held_from_image count h ts k = All-from_contains (IsHeldTerm count) ts (λ t i.
    held_from_image count h t (All-contains (IsHeldTerm count) (map (term_image h) ts) (term_image h t) k (Contains-map (term_image h) ts t i)))

pub covering_keeps_names : CoveringKeepsNames
covering_keeps_names count a b covers held =
    let h : ℕ → Term = covers.mapping in
    record {
      answers = terms_held_from_image count h a.answers (subst (λ (ts : List Term). All (IsHeldTerm count) ts) (sym covers.homomorphism.answers) held.answers);
      atoms = All-from_contains (IsHeldAtom count) a.atoms (λ x i.
          let image : IsHeldAtom count (atom_image h x) =
          All-contains (IsHeldAtom count) b.atoms (atom_image h x) held.atoms (IsSubset-image h a.atoms b.atoms covers.homomorphism.atoms x i) in
          record { name = image.name; terms = terms_held_from_image count h x.terms image.terms });
    }

pub core_keeps_names : CoreKeepsNames
core_keeps_names count q core of held = covering_keeps_names count core q of.equivalent.back held
