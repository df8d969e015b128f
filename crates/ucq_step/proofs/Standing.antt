-- The nodes of a query and of the bodies of copies, as a list, and the names that a rewriting has of them.
use Rattle.std.proofs.Common.{◌≡◌, ℕ, List, ◌++◌, map, ◌⊎◌, Contains, flat_map, sym, subst, inl, inr}
use Rattle.std.specs.List.{enumerate_from}
use Rattle.std.proofs.lemmas.List.Elements.{Contains-append_left, Contains-append_right, Contains-append_cases}
use Rattle.ucq_terms.specs.declared.Term.{Term}
use Rattle.ucq_terms.specs.declared.Term.TheVariants.{Constant, Variable}
use Rattle.ucq_terms.specs.Syntax.{Atom, Rule, Query, OccursIn, IsVariableOf}
use Rattle.ucq_terms.specs.Unifier.{Node, constant, of_query, of_copy, query_node, copy_node, unmatched}
use Rattle.ucq_terms.specs.Rewriting.{Member, rule_at, all_pairs, atoms_named, bodies, Rewrites}
use Rattle.ucq_step.specs.inner.Building.{atom_named}
use Rattle.ucq_terms.proofs.Lists.{Contains-map, Contains-from_map, Contains-flat_map, Contains-from_flat_map}
use Rattle.ucq_terms.proofs.Occurrences.{variables, variables_of, Contains-variables, Contains-variables_of, Contains-from_variables, Contains-from_variables_of}
use Rattle.ucq_terms.proofs.Places.{Contains-from_unmatched}
use Rattle.ucq_terms.proofs.Subsets.{IsSubset-contains, OccursIn-from_atom, OccursIn-atom, OccursIn-at}

-- a constant, a variable of the query, or one of the body of a member's copy
abbrev pub Stands : Query → List Rule → List Member → Node → Type 0
Stands q rules members (constant c) = Unit {0}
Stands q rules members (of_query v) = IsVariableOf q v
Stands q rules members (of_copy i v) =
    (m : Member) × Contains {X = ℕ × Member} (enumerate_from 0 members) (i, m) × OccursIn (rule_at rules m.rule).body (Variable v)

-- the variables of the query, and of the bodies of the copies
abbrev pub query_nodes : Query → List Node
query_nodes q = map of_query (variables q.atoms ++ variables_of q.answers)

abbrev pub copy_nodes : List Rule → List Member → List Node
copy_nodes rules members = flat_map (λ (p : ℕ × Member). map (of_copy p.0) (variables (rule_at rules p.1.rule).body)) (enumerate_from 0 members)

abbrev pub nodes : Query → List Rule → List Member → List Node
nodes q rules members = query_nodes q ++ copy_nodes rules members

pub Contains-of_query : (q : Query) (rules : List Rule) (members : List Member) (v : ℕ) → IsVariableOf q v → Contains (nodes q rules members) (of_query v)
Contains-of_query q rules members v s =
    Contains-append_left (query_nodes q) (copy_nodes rules members) (of_query v)
    (Contains-map of_query (variables q.atoms ++ variables_of q.answers) v (elim s [
      | inl o ↦ Contains-append_left (variables q.atoms) (variables_of q.answers) v (Contains-variables q.atoms v o)
      | inr i ↦ Contains-append_right (variables q.atoms) (variables_of q.answers) v (Contains-variables_of q.answers v i)
    ]))

pub Contains-of_copy : (q : Query) (rules : List Rule) (members : List Member) (i v : ℕ) → Stands q rules members (of_copy i v) →
    Contains (nodes q rules members) (of_copy i v)
Contains-of_copy q rules members i v (m, e, o) =
    Contains-append_right (query_nodes q) (copy_nodes rules members) (of_copy i v)
    (Contains-flat_map (λ (p : ℕ × Member). map (of_copy p.0) (variables (rule_at rules p.1.rule).body)) (enumerate_from 0 members) (i, m) (of_copy i v) e
    (Contains-map (of_copy i) (variables (rule_at rules m.rule).body) v (Contains-variables (rule_at rules m.rule).body v o)))

pub Stands-from_nodes : (q : Query) (rules : List Rule) (members : List Member) (x : Node) → Contains (nodes q rules members) x → Stands q rules members x
Stands-from_nodes q rules members x c = elim (Contains-append_cases (query_nodes q) (copy_nodes rules members) x c) [
  | inl i ↦
      let (v, j, e) = Contains-from_map of_query (variables q.atoms ++ variables_of q.answers) x i in
      let known : IsVariableOf q v = elim (Contains-append_cases (variables q.atoms) (variables_of q.answers) v j) [
        | inl k ↦ inl (Contains-from_variables q.atoms v k)
        | inr k ↦ inr (Contains-from_variables_of q.answers v k)
      ] in
      subst (Stands q rules members) e known
  | inr i ↦
      let (p, j, k) = Contains-from_flat_map (λ (p : ℕ × Member). map (of_copy p.0) (variables (rule_at rules p.1.rule).body)) (enumerate_from 0 members) x i in
      let (v, l, e) = Contains-from_map (of_copy p.0) (variables (rule_at rules p.1.rule).body) x k in
      let known : Stands q rules members (of_copy p.0 v) = (p.1, j, Contains-from_variables (rule_at rules p.1.rule).body v l) in
      subst (Stands q rules members) e known
]

-- Terms of the query, and of a body, stand.
pub Stands-answer : (q : Query) (rules : List Rule) (members : List Member) (t : Term) → Contains q.answers t → Stands q rules members (query_node t)
Stands-answer q rules members (Constant c) i = tt
Stands-answer q rules members (Variable v) i = inr i

pub Stands-atom : (q : Query) (rules : List Rule) (members : List Member) (t : Term) → OccursIn q.atoms t → Stands q rules members (query_node t)
Stands-atom q rules members (Constant c) o = tt
Stands-atom q rules members (Variable v) o = inl o

pub Stands-body : (q : Query) (rules : List Rule) (members : List Member) (i : ℕ) (m : Member) (t : Term) →
    Contains (enumerate_from 0 members) (i, m) → OccursIn (rule_at rules m.rule).body t → Stands q rules members (copy_node i t)
Stands-body q rules members i m (Constant c) e o = tt
Stands-body q rules members i m (Variable v) e o = (m, e, o)

-- an atom of the query that no pair matches
pub OccursIn-unmatched : (q : Query) (pairs : List (ℕ × ℕ)) (a : Atom) (t : Term) → Contains (unmatched q pairs) a → Contains a.terms t → OccursIn q.atoms t
OccursIn-unmatched q pairs a t c i =
    let (place, l, e, n) = Contains-from_unmatched q pairs a c in
    OccursIn-at q.atoms place t l (subst (λ (b : Atom). Contains b.terms t) (sym e) i)

-- An atom of a rewriting is one of a copy's body, or one that no member matches.
pub record IsOfBody (name : Node → Term) (rules : List Rule) (members : List Member) (a : Atom) : Type 0 where
  pub copy : ℕ
  pub member : Member
  pub atom : Atom
  pub entry : Contains {X = ℕ × Member} (enumerate_from 0 members) (copy, member)
  pub inside : Contains (rule_at rules member.rule).body atom
  pub is : atom_named (λ t. name (copy_node copy t)) atom ≡ a

pub record IsOfRest (name : Node → Term) (q : Query) (members : List Member) (a : Atom) : Type 0 where
  pub atom : Atom
  pub left_out : Contains (unmatched q (all_pairs members)) atom
  pub is : atom_named (λ t. name (query_node t)) atom ≡ a

module _ (q : Query) (rules : List Rule) (members : List Member) (result : Query) (R : Rewrites q rules members result) where
  abbrev name : Node → Term
  name = R.name

  abbrev copies : List Atom
  copies = bodies name rules members

  abbrev rest : List Atom
  rest = atoms_named (λ t. name (query_node t)) (unmatched q (all_pairs members))

  pub named_atom : (a : Atom) → Contains result.atoms a → IsOfBody name rules members a ⊎ IsOfRest name q members a
  named_atom a i = elim (Contains-append_cases copies rest a (IsSubset-contains result.atoms (copies ++ rest) a R.atoms.0 i)) [
    | inl j ↦
        let (p, k, l) = Contains-from_flat_map (λ (p : ℕ × Member). atoms_named (λ t. name (copy_node p.0 t)) (rule_at rules p.1.rule).body) (enumerate_from 0 members) a j in
        let (b, m, e) = Contains-from_map (atom_named (λ t. name (copy_node p.0 t))) (rule_at rules p.1.rule).body a l in
        inl (record { copy = p.0; member = p.1; atom = b; entry = k; inside = m; is = e })
    | inr j ↦
        let (b, m, e) = Contains-from_map (atom_named (λ t. name (query_node t))) (unmatched q (all_pairs members)) a j in
        inr (record { atom = b; left_out = m; is = e })
  ]

  pub body_named : (i : ℕ) (m : Member) (b : Atom) → Contains (enumerate_from 0 members) (i, m) → Contains (rule_at rules m.rule).body b →
      Contains result.atoms (atom_named (λ t. name (copy_node i t)) b)
  body_named i m b e c =
      IsSubset-contains (copies ++ rest) result.atoms (atom_named (λ t. name (copy_node i t)) b) R.atoms.1
      (Contains-append_left copies rest (atom_named (λ t. name (copy_node i t)) b)
      (Contains-flat_map (λ (p : ℕ × Member). atoms_named (λ t. name (copy_node p.0 t)) (rule_at rules p.1.rule).body) (enumerate_from 0 members) (i, m)
      (atom_named (λ t. name (copy_node i t)) b) e
      (Contains-map (atom_named (λ t. name (copy_node i t))) (rule_at rules m.rule).body b c)))

  pub rest_named : (b : Atom) → Contains (unmatched q (all_pairs members)) b → Contains result.atoms (atom_named (λ t. name (query_node t)) b)
  rest_named b c =
      IsSubset-contains (copies ++ rest) result.atoms (atom_named (λ t. name (query_node t)) b) R.atoms.1
      (Contains-append_right copies rest (atom_named (λ t. name (query_node t)) b)
      (Contains-map (atom_named (λ t. name (query_node t))) (unmatched q (all_pairs members)) b c))

  -- a term of the result is the name of a node that stands
  pub standing_answer : (t : Term) → Contains result.answers t → (x : Node) × Stands q rules members x × (name x ≡ t)
  standing_answer t i =
      let (s, j, e) = Contains-from_map (λ t. name (query_node t)) q.answers t (subst (λ (ts : List Term). Contains ts t) R.answers i) in
      (query_node s, Stands-answer q rules members s j, e)

  standing_term : (a : Atom) (t : Term) → Contains a.terms t → IsOfBody name rules members a ⊎ IsOfRest name q members a →
      (x : Node) × Stands q rules members x × (name x ≡ t)
  standing_term a t i (inl b) =
      let (s, j, e) = Contains-from_map (λ t. name (copy_node b.copy t)) b.atom.terms t (subst (λ (c : Atom). Contains c.terms t) (sym b.is) i) in
      (copy_node b.copy s, Stands-body q rules members b.copy b.member s b.entry (OccursIn-from_atom _ s b.atom b.inside j), e)
  standing_term a t i (inr b) =
      let (s, j, e) = Contains-from_map (λ t. name (query_node t)) b.atom.terms t (subst (λ (c : Atom). Contains c.terms t) (sym b.is) i) in
      (query_node s, Stands-atom q rules members s (OccursIn-unmatched q (all_pairs members) b.atom s b.left_out j), e)

  pub standing_variable : (v : ℕ) → IsVariableOf result v → (x : Node) × Stands q rules members x × (name x ≡ Variable v)
  standing_variable v (inl o) = let (a, i, j) = OccursIn-atom result.atoms (Variable v) o in standing_term a (Variable v) j (named_atom a i)
  standing_variable v (inr i) = standing_answer (Variable v) i
