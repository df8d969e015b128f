-- Where a query goes once the rules of an aggregate have been applied to a rewriting of it.
use Rattle.std.proofs.Common.{◌≡◌, ℕ, ◌<◌, ◌⊎◌, inl, inr, refl, sym, ◌∙◌, List, length, Contains, subst}
use Rattle.std.specs.List.{enumerate_from}
use Rattle.ucq_terms.specs.declared.Term.{Term}
use Rattle.ucq_terms.specs.declared.Term.TheVariants.{Constant, Variable}
use Rattle.ucq_terms.specs.Syntax.{Rule, Query, OccursIn, term_image, terms_image}
use Rattle.ucq_terms.specs.Chase.{IsExistential}
use Rattle.ucq_terms.specs.Unifier.{Node, constant, of_query, of_copy, query_node, copy_node, atom_at, places, unmatched, AreJoined, alone}
use Rattle.ucq_terms.specs.Unifier.{forth, IsSeparating, IsNonSeparating, KeepsPredicate}
use Rattle.ucq_terms.specs.Rewriting.{Rewrites, Member, rule_at, all_links, all_pairs}
use Rattle.ucq_terms.proofs.Classes.{AreJoined-trans, AreJoined-sym}
use Rattle.ucq_terms.proofs.Decide.{dec_map, term_discrete, atom_path, dec_any, dec_occurs}
use Rattle.ucq_terms.proofs.Lists.{Any-from_contains, Any-contains}
use Rattle.ucq_terms.proofs.Matched.{AreBeside, beside_right, Fits}
use Rattle.ucq_terms.proofs.Places.{Contains-unmatched}
use Rattle.ucq_terms.proofs.Subsets.{OccursIn-from_atom}
use Rattle.ucq_terms.proofs.Zips.{map-same_zip, same_at_enumerate}
use Rattle.ucq_terms.proofs.Members.{entry_member, Contains-places_of_all, Contains-all_links, entry_unifier, class_of_existential}
use Rattle.ucq_terms.proofs.Occurrences.{existentials, Contains-existentials, Contains-from_existentials}

-- A variable of the query that is joined with an existential variable of a copy.
pub record IsMet (rules : List Rule) (members : List Member) (name : Node → Term) (x : ℕ) : Type 0 where
  pub copy : ℕ
  pub member : Member
  pub variable : ℕ
  pub entry : Contains (enumerate_from 0 members) (copy, member)
  pub existential : IsExistential (rule_at rules member.rule) variable
  pub same : name (of_query x) ≡ name (of_copy copy variable)

abbrev MeetsEntry : List Rule → (Node → Term) → ℕ → ℕ × Member → Type 0
MeetsEntry rules name x e = (v : ℕ) × IsExistential (rule_at rules e.1.rule) v × (name (of_query x) ≡ name (of_copy e.0 v))

-- Whether it meets one of an entry's, and of any.
dec_meets : (rules : List Rule) (name : Node → Term) (x : ℕ) (e : ℕ × Member) → Dec (MeetsEntry rules name x e)
dec_meets rules name x e =
    let P : ℕ → Type 0 = λ v. name (of_query x) ≡ name (of_copy e.0 v) in
    let vs : List ℕ = existentials (rule_at rules e.1.rule) in
    dec_map
    (λ h. let (v, i, p) = Any-contains P vs h in (v, Contains-from_existentials (rule_at rules e.1.rule) v i, p))
    (λ (v, ex, p). Any-from_contains P vs v (Contains-existentials (rule_at rules e.1.rule) v ex) p)
    (dec_any P (λ v. term_discrete (name (of_query x)) (name (of_copy e.0 v))) vs)

dec_met : (rules : List Rule) (members : List Member) (name : Node → Term) (x : ℕ) → Dec (IsMet rules members name x)
dec_met rules members name x = dec_map
    (λ h. let (e, i, (v, ex, p)) = Any-contains (MeetsEntry rules name x) (enumerate_from 0 members) h in
    record { copy = e.0; member = e.1; variable = v; entry = i; existential = ex; same = p })
    (λ l. Any-from_contains (MeetsEntry rules name x) (enumerate_from 0 members) (l.copy, l.member) l.entry (l.variable, l.existential, l.same))
    (dec_any (MeetsEntry rules name x) (dec_meets rules name x) (enumerate_from 0 members))

-- Where a variable of the query goes: where the existential variable goes that it meets, if it meets one.
where_met : {rules : List Rule} {members : List Member} {name : Node → Term} {x : ℕ} → (ℕ → ℕ → Term) → Dec (IsMet rules members name x) → Term
where_met placed (yes l) = placed l.copy l.variable
where_met {name = name} {x = x} placed (no off) = name (of_query x)

pub query_map : (rules : List Rule) (members : List Member) (name : Node → Term) (placed : ℕ → ℕ → Term) → ℕ → Term
query_map rules members name placed x = where_met placed (dec_met rules members name x)

module _ (q : Query) (rules : List Rule) (members : List Member) (result : Query) (R : Rewrites q rules members result) where
  -- the class of the existential variable that a variable meets
  met_class : (x : ℕ) (l : IsMet rules members R.name x) (y : Node) → AreJoined (all_links q rules members) (of_query x) y →
      (y ≡ of_copy l.copy l.variable) ⊎ IsNonSeparating q l.member.pairs y
  met_class x l y h =
      class_of_existential q rules members R.aggregate l.copy l.member l.variable y l.entry l.existential
      (AreJoined-trans ((R.names.classes (of_copy l.copy l.variable) (of_query x)).0 (sym l.same)) h)

  -- a variable that meets one isn't separating
  pub met_is_private : (x : ℕ) (l : IsMet rules members R.name x) → ¬ IsSeparating q l.member.pairs x
  met_is_private x l s = elim (met_class x l (of_query x) alone) [ inl p ↦ cc | inr private ↦ private s ]

  met_no_constant : (x : ℕ) (l : IsMet rules members R.name x) (c : ℕ) → AreJoined (all_links q rules members) (of_query x) (constant c) → ⊥
  met_no_constant x l c h = elim (met_class x l (constant c) h) [ inl p ↦ cc | inr private ↦ private ]

  met_copy : (x : ℕ) (l : IsMet rules members R.name x) (i v : ℕ) → AreJoined (all_links q rules members) (of_query x) (of_copy i v) →
      (i ≡ l.copy) × (v ≡ l.variable)
  met_copy x l i v h = elim (met_class x l (of_copy i v) h) [ inl p ↦ (cc, cc) | inr private ↦ absurd private ]

  met_no_body : (x : ℕ) (l : IsMet rules members R.name x) (i : ℕ) (m : Member) (v : ℕ) → Contains (enumerate_from 0 members) (i, m) →
      OccursIn (rule_at rules m.rule).body (Variable v) → AreJoined (all_links q rules members) (of_query x) (of_copy i v) → ⊥
  met_no_body x l i m v e o h =
      let (at, is) = met_copy x l i v h in
      let f : Contains (enumerate_from 0 members) (i, l.member) = subst (λ (k : ℕ). Contains (enumerate_from 0 members) (k, l.member)) (sym at) l.entry in
      let same : m ≡ l.member = same_at_enumerate members i m l.member e f in
      l.existential.1 (subst (λ (y : ℕ). OccursIn (rule_at rules l.member.rule).body (Variable y)) is
      (subst (λ (k : Member). OccursIn (rule_at rules k.rule).body (Variable v)) same o))

  -- so the map is determined
  query_map-met : (placed : ℕ → ℕ → Term) (x : ℕ) (l : IsMet rules members R.name x) → query_map rules members R.name placed x ≡ placed l.copy l.variable
  unfolding query_map where_met
  query_map-met placed x l = go (dec_met rules members R.name x)
    where
      go : (d : Dec (IsMet rules members R.name x)) → where_met placed d ≡ placed l.copy l.variable
      go (yes k) =
          let (at, is) = met_copy x l k.copy k.variable ((R.names.classes (of_query x) (of_copy k.copy k.variable)).0 k.same) in
          cc
      go (no off) = absurd (off l)

  pub query_map-other : (placed : ℕ → ℕ → Term) (x : ℕ) → ¬ IsMet rules members R.name x → query_map rules members R.name placed x ≡ R.name (of_query x)
  unfolding query_map where_met
  query_map-other placed x out = go (dec_met rules members R.name x)
    where
      go : (d : Dec (IsMet rules members R.name x)) → where_met placed d ≡ R.name (of_query x)
      go (yes k) = absurd (out k)
      go (no off) = refl

  -- terms that stand beside each other have one name
  pub beside_named : (i : ℕ) (m : Member) (pair : ℕ × ℕ) (t u : Term) → Contains (enumerate_from 0 members) (i, m) → Contains m.pairs pair →
      AreBeside q (rule_at rules m.rule) pair t u → AreJoined (all_links q rules members) (query_node t) (copy_node i u)
  beside_named i m pair t u e j b = forth (Contains-all_links q rules members i m pair t u e j b) alone

  joined_name : (x y : Node) → AreJoined (all_links q rules members) x y → R.name x ≡ R.name y
  joined_name x y h = (R.names.classes x y).1 h

  -- a matched term goes where the head's term goes
  beside_sent : (placed : ℕ → ℕ → Term) (i : ℕ) (m : Member) (pair : ℕ × ℕ) (t u : Term) → Contains (enumerate_from 0 members) (i, m) →
      Contains m.pairs pair → AreBeside q (rule_at rules m.rule) pair t u → OccursIn (rule_at rules m.rule).heads u →
      ((v : ℕ) → OccursIn (rule_at rules m.rule).body (Variable v) → placed i v ≡ R.name (of_copy i v)) →
      term_image (query_map rules members R.name placed) t ≡ term_image (placed i) u
  beside_sent placed i m pair t (Constant c) e j b heads frontier = go t (beside_named i m pair t (Constant c) e j b)
    where
      go : (t : Term) → AreJoined (all_links q rules members) (query_node t) (constant c) → term_image (query_map rules members R.name placed) t ≡ Constant c
      go (Constant d) h = sym (R.names.constants d) ∙ joined_name (constant d) (constant c) h ∙ R.names.constants c
      go (Variable x) h = query_map-other placed x (λ l. met_no_constant x l c h) ∙ joined_name (of_query x) (constant c) h ∙ R.names.constants c
  beside_sent placed i m pair t (Variable v) e j b heads frontier = elim (dec_occurs (rule_at rules m.rule).body (Variable v)) [
    | yes o ↦ in_body o t (beside_named i m pair t (Variable v) e j b)
    | no n ↦ existential n t (beside_named i m pair t (Variable v) e j b)
  ]
    where
      in_body : OccursIn (rule_at rules m.rule).body (Variable v) → (t : Term) → AreJoined (all_links q rules members) (query_node t) (of_copy i v) →
          term_image (query_map rules members R.name placed) t ≡ placed i v
      in_body o (Constant d) h = sym (R.names.constants d) ∙ joined_name (constant d) (of_copy i v) h ∙ sym (frontier v o)
      in_body o (Variable x) h = query_map-other placed x (λ l. met_no_body x l i m v e o h) ∙ joined_name (of_query x) (of_copy i v) h ∙ sym (frontier v o)

      existential : ¬ OccursIn (rule_at rules m.rule).body (Variable v) → (t : Term) →
          AreJoined (all_links q rules members) (query_node t) (of_copy i v) → term_image (query_map rules members R.name placed) t ≡ placed i v
      existential n (Constant d) h =
          let alike = class_of_existential q rules members R.aggregate i m v (constant d) e (heads, n) (AreJoined-sym h) in
          elim alike [ inl p ↦ cc | inr private ↦ absurd private ]
      existential n (Variable x) h =
          query_map-met placed x (record {
            copy = i;
            member = m;
            variable = v;
            entry = e;
            existential = (heads, n);
            same = joined_name (of_query x) (of_copy i v) h;
          })

  -- a matched atom goes where the head's atom goes
  pub matched_sent : (placed : ℕ → ℕ → Term) (i : ℕ) (m : Member) (pair : ℕ × ℕ) → Contains (enumerate_from 0 members) (i, m) →
      Contains m.pairs pair → ((v : ℕ) → OccursIn (rule_at rules m.rule).body (Variable v) → placed i v ≡ R.name (of_copy i v)) →
      Fits (query_map rules members R.name placed) (placed i) q (rule_at rules m.rule) pair
  matched_sent placed i m pair e j frontier =
      let keeps : KeepsPredicate q (rule_at rules m.rule) pair = (entry_unifier q rules members i m R.aggregate e).matching.each pair j in
      let goes : ℕ → Term = query_map rules members R.name placed in
      let left : List Term = (atom_at q.atoms pair.0).terms in
      let right : List Term = (atom_at (rule_at rules m.rule).heads pair.1).terms in
      let terms : terms_image goes left ≡ terms_image (placed i) right =
      map-same_zip (term_image goes) (term_image (placed i)) left right keeps.arity
      (λ t u b. beside_sent placed i m pair t u e j b (beside_right q (rule_at rules m.rule) pair t u keeps.in_head b) frontier) in
      atom_path _ _ keeps.name terms

  -- a variable of an atom that no member matches
  pub unmatched_separating : (place x : ℕ) → place < length q.atoms → ¬ Contains (places (all_pairs members)) place →
      Contains (atom_at q.atoms place).terms (Variable x) → (l : IsMet rules members R.name x) → IsSeparating q l.member.pairs x
  unmatched_separating place x lt out i l =
      inl (OccursIn-from_atom (unmatched q l.member.pairs) (Variable x) (atom_at q.atoms place)
      (Contains-unmatched q l.member.pairs place lt
      (λ p. out (Contains-places_of_all members l.member place (entry_member members l.copy l.member l.entry) p))) i)
