-- A rewriting of a safe query is safe.
use Rattle.std.proofs.Common.{◌≡◌, ◌<◌, ℕ, List, length, Contains, inr, sym, ◌∙◌, subst, ⊎_elim}
use Rattle.std.specs.List.{enumerate_from}
use Rattle.std.proofs.Math.Decide.{ℕ_discrete}
use Rattle.ucq_terms.specs.declared.Term.{Term}
use Rattle.ucq_terms.specs.declared.Term.TheVariants.{Constant, Variable}
use Rattle.ucq_terms.specs.Syntax.{Atom, Rule, Query, OccursIn, IsSafe}
use Rattle.ucq_terms.specs.Unifier.{Node, of_query, of_copy, query_node, copy_node, atom_at, places, AreJoined, alone, forth, back}
use Rattle.ucq_terms.specs.Rewriting.{Member, rule_at, all_pairs, all_links, Rewrites}
use Rattle.ucq_terms.proofs.Decide.{dec_contains, dec_occurs}
use Rattle.ucq_terms.proofs.Lists.{Contains-map, Contains-from_map, first_element, length-positive}
use Rattle.ucq_terms.proofs.Matched.{AreBeside, beside_right}
use Rattle.ucq_terms.proofs.Members.{MatchedAt, matched_at, Contains-all_links, entry_unifier, class_of_existential}
use Rattle.ucq_terms.proofs.Places.{place_of, Contains-unmatched}
use Rattle.ucq_terms.proofs.Subsets.{OccursIn-from_atom, OccursIn-atom}
use Rattle.ucq_terms.proofs.Zips.{Contains-zip, Contains-enumerate}
use Rattle.ucq_step.specs.inner.Building.{atom_named}
use Rattle.ucq_step.proofs.Standing.{body_named, rest_named}

module _ (q : Query) (rules : List Rule) (members : List Member) (r : Query) (R : Rewrites q rules members r) (safe : IsSafe q) where
  abbrev name : Node → Term
  name = R.name

  -- the name of a term of an unmatched atom occurs
  occurs_in_rest : (place u : ℕ) → place < length q.atoms → Contains (atom_at q.atoms place).terms (Variable u) →
      ¬ Contains (places (all_pairs members)) place → OccursIn r.atoms (name (of_query u))
  occurs_in_rest place u l c n =
      OccursIn-from_atom r.atoms (name (of_query u)) (atom_named (λ t. name (query_node t)) (atom_at q.atoms place))
      (rest_named q rules members r R (atom_at q.atoms place) (Contains-unmatched q (all_pairs members) place l n))
      (Contains-map (λ t. name (query_node t)) (atom_at q.atoms place).terms (Variable u) c)

  -- so does that of a variable of a copy's body
  occurs_in_body : (i : ℕ) (m : Member) (w : ℕ) → Contains {X = ℕ × Member} (enumerate_from 0 members) (i, m) →
      OccursIn (rule_at rules m.rule).body (Variable w) → OccursIn r.atoms (name (of_copy i w))
  occurs_in_body i m w e o =
      let (b, j, k) = OccursIn-atom (rule_at rules m.rule).body (Variable w) o in
      OccursIn-from_atom r.atoms (name (of_copy i w)) (atom_named (λ t. name (copy_node i t)) b) (body_named q rules members r R i m b e j)
      (Contains-map (λ t. name (copy_node i t)) b.terms (Variable w) k)

  -- an answer variable beside a term of a head is named by a constant, or like a variable of the copy's body
  occurs_beside : (i : ℕ) (m : Member) (pair : ℕ × ℕ) (u v : ℕ) (s : Term) → Contains {X = ℕ × Member} (enumerate_from 0 members) (i, m) →
      Contains m.pairs pair → Contains q.answers (Variable u) → AreBeside q (rule_at rules m.rule) pair (Variable u) s →
      name (of_query u) ≡ name (copy_node i s) → name (of_query u) ≡ Variable v → OccursIn r.atoms (name (of_query u))
  occurs_beside i m pair u v (Constant c) e k a b same f = let bad : Constant c ≡ Variable v = sym (R.names.constants c) ∙ (sym same ∙ f) in absurd cc
  occurs_beside i m pair u v (Variable w) e k a b same f = elim (dec_occurs (rule_at rules m.rule).body (Variable w)) [
    | yes o ↦ subst (OccursIn r.atoms) (sym same) (occurs_in_body i m w e o)
    | no n ↦
        let U = entry_unifier q rules members i m R.aggregate e in
        let head : OccursIn (rule_at rules m.rule).heads (Variable w) =
        beside_right q (rule_at rules m.rule) pair (Variable u) (Variable w) (U.matching.each pair k).in_head b in
        let link : AreJoined (all_links q rules members) (of_copy i w) (of_query u) =
        back (Contains-all_links q rules members i m pair (Variable u) (Variable w) e k b) alone in
        absurd
        (⊎_elim (λ d. cc) (λ (p : ¬ _). p (inr a)) (class_of_existential q rules members R.aggregate i m w (of_query u) e (head, n) link))
  ]

  occurs_matched : (place u v : ℕ) → place < length q.atoms → Contains (atom_at q.atoms place).terms (Variable u) → Contains q.answers (Variable u) →
      MatchedAt members place → name (of_query u) ≡ Variable v → OccursIn r.atoms (name (of_query u))
  occurs_matched place u v l c a M f =
      let U = entry_unifier q rules members M.copy M.member R.aggregate M.entry in
      let here : Contains (atom_at q.atoms M.pair.0).terms (Variable u) = subst (λ (n : ℕ). Contains (atom_at q.atoms n).terms (Variable u)) (sym M.at) c in
      let (s, b) =
      Contains-zip (atom_at q.atoms M.pair.0).terms (atom_at (rule_at rules M.member.rule).heads M.pair.1).terms (Variable u)
      (U.matching.each M.pair M.matched).arity here in
      let link = Contains-all_links q rules members M.copy M.member M.pair (Variable u) s M.entry M.matched b in
      occurs_beside M.copy M.member M.pair u v s M.entry M.matched a b ((R.names.classes (of_query u) (copy_node M.copy s)).1 (forth link alone)) f

  answer_occurs : (u v : ℕ) → Contains q.answers (Variable u) → name (of_query u) ≡ Variable v → OccursIn r.atoms (Variable v)
  answer_occurs u v a f =
      let (x, i, k) = OccursIn-atom q.atoms (Variable u) (safe.answers u a) in
      let (place, l, e) = place_of q.atoms x i in
      let here : Contains (atom_at q.atoms place).terms (Variable u) = subst (λ (y : Atom). Contains y.terms (Variable u)) (sym e) k in
      subst (OccursIn r.atoms) f (elim (dec_contains ℕ_discrete (places (all_pairs members)) place) [
        | yes c ↦ occurs_matched place u v l here a (matched_at members place c) f
        | no n ↦ occurs_in_rest place u l here n
      ])

  pub answers_occur : (v : ℕ) → Contains r.answers (Variable v) → OccursIn r.atoms (Variable v)
  answers_occur v c =
      let (t, j, e) = Contains-from_map (λ t. name (query_node t)) q.answers (Variable v) (subst (λ (ts : List Term). Contains ts (Variable v)) R.answers c) in
      go t j e
    where
      go : (t : Term) → Contains q.answers t → name (query_node t) ≡ Variable v → OccursIn r.atoms (Variable v)
      go (Constant c) j e = let bad : Constant c ≡ Variable v = sym (R.names.constants c) ∙ e in absurd cc
      go (Variable u) j e = answer_occurs u v j e

  -- where bodies aren't empty
  pub IsSafe-rewritten : ((m : Member) → Contains members m → 0 < length (rule_at rules m.rule).body) → IsSafe r
  IsSafe-rewritten some = record {
    nonempty =
        let (m, (i, l, e)) = first_element members R.aggregate.nonempty in
        let (b, j) = first_element (rule_at rules m.rule).body (some m (i, l, e)) in
        let entry : Contains {X = ℕ × Member} (enumerate_from 0 members) (i, m) =
        subst (λ (n : Member). Contains {X = ℕ × Member} (enumerate_from 0 members) (i, n)) e (Contains-enumerate members i m l) in
        length-positive r.atoms (atom_named (λ t. name (copy_node i t)) b) (body_named q rules members r R i m b entry j);
    answers = answers_occur;
  }
