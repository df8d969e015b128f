-- A rewriting of a sound query is sound.
use Rattle.std.proofs.Common.{◌≡◌, ℕ, ◌<◌, inr, sym, ◌∙◌, List, [], ◌++◌, map, length, All, Contains, subst}
use Rattle.std.specs.List.{enumerate_from}
use Rattle.std.proofs.Math.Decide.{ℕ_discrete}
use Rattle.std.proofs.lemmas.List.Elements.{All-contains, Contains-get_or}
use Rattle.ucq_terms.specs.declared.Term.{Term}
use Rattle.ucq_terms.specs.declared.Term.TheVariants.{Constant, Variable}
use Rattle.ucq_terms.specs.Syntax.{Atom, Rule, Query, OccursIn, IsSubset, terms_image, atom_image, atoms_image}
use Rattle.ucq_terms.specs.Chase.{IsKnownIn, IsChaseAnswer}
use Rattle.ucq_terms.specs.Unifier.{constant, of_query, of_copy, query_node, atom_at, places, unmatched, KeepsPredicate}
use Rattle.ucq_terms.specs.Rewriting.{Member, rule_at, all_pairs, IsMember, Rewrites}
use Rattle.ucq_chase.specs.Laws.{OneStepIsSound}
use Rattle.ucq_terms.proofs.Decide.{dec_contains, dec_occurs}
use Rattle.ucq_terms.proofs.Images.{terms_image-agree, atom_image-agree, IsSubset-from_image, IsSubset-image}
use Rattle.ucq_terms.proofs.Lists.{Contains-from_map, All-from_contains}
use Rattle.ucq_terms.proofs.Matched.{AreBeside, beside_right, Fits}
use Rattle.ucq_terms.proofs.Places.{place_of, Contains-unmatched}
use Rattle.ucq_terms.proofs.Subsets.{IsSubset-contains, OccursIn-from_atom, OccursIn-atom}
use Rattle.ucq_terms.proofs.Zips.{Contains-zip}
use Rattle.ucq_chase.proofs.Firing.{FiredAll, fire_all}
use Rattle.ucq_chase.proofs.Meetings.{query_map, met_is_private, query_map-other, beside_named, matched_sent, unmatched_separating}
use Rattle.ucq_terms.proofs.Members.{MatchedAt, matched_at, entry_unifier}
use Rattle.ucq_terms.proofs.Parts.{query_names, copy_names, body_in, unmatched_in, answers_named}
use Rattle.ucq_chase.proofs.Replay.{carried}
use Rattle.ucq_chase.proofs.Steps.{IsChaseSequence-append, OccursIn-known, OccursIn-trigger}

module _ (q : Query) (rules : List Rule) (members : List Member) (result : Query) (rewrites : Rewrites q rules members result) where
  -- the rules of the members, applied to the rewriting
  fired : FiredAll rules rewrites.name (enumerate_from 0 members) result.atoms
  fired =
      fire_all rules rewrites.name 0 members result.atoms (λ m i. (All-contains (IsMember q rules) members m rewrites.aggregate.each i).rule)
      (body_in q rules members result rewrites)

  -- the query maps into the last instance
  query_sent : (f : FiredAll rules rewrites.name (enumerate_from 0 members) result.atoms) →
      IsSubset (atoms_image (query_map rules members rewrites.name f.placed) q.atoms) f.last
  query_sent f = IsSubset-from_image goes q.atoms f.last (λ a i.
      let (place, lt, is) = place_of q.atoms a i in
      subst (λ (b : Atom). Contains f.last (atom_image goes b)) is (at place lt))
    where
      goes : ℕ → Term
      goes = query_map rules members rewrites.name f.placed

      at : (place : ℕ) → place < length q.atoms → Contains f.last (atom_image goes (atom_at q.atoms place))
      at place lt = elim (dec_contains ℕ_discrete (places (all_pairs members)) place) [
        | yes i ↦
            let w : MatchedAt members place = matched_at members place i in
            let keeps : KeepsPredicate q (rule_at rules w.member.rule) w.pair =
            (entry_unifier q rules members w.copy w.member rewrites.aggregate w.entry).matching.each w.pair w.matched in
            let same : Fits goes (f.placed w.copy) q (rule_at rules w.member.rule) w.pair =
            matched_sent q rules members result rewrites f.placed w.copy w.member w.pair w.entry w.matched (f.frontier w.copy w.member w.entry) in
            let there : Contains f.last (atom_image (f.placed w.copy) (atom_at (rule_at rules w.member.rule).heads w.pair.1)) =
            IsSubset-image (f.placed w.copy) (rule_at rules w.member.rule).heads f.last (f.heads w.copy w.member w.entry)
            (atom_at (rule_at rules w.member.rule).heads w.pair.1)
            (Contains-get_or (rule_at rules w.member.rule).heads w.pair.1 (record { name = 0; terms = [] }) keeps.in_head) in
            subst (λ (n : ℕ). Contains f.last (atom_image goes (atom_at q.atoms n))) w.at (subst (λ (b : Atom). Contains f.last b) (sym same) there)
        | no out ↦
            let a : Atom = atom_at q.atoms place in
            let left : Contains (unmatched q (all_pairs members)) a = Contains-unmatched q (all_pairs members) place lt out in
            let same : atom_image goes a ≡ atom_image (query_names rewrites.name) a = atom_image-agree goes (query_names rewrites.name) a (λ v i.
            query_map-other q rules members result rewrites f.placed v (λ l.
            met_is_private q rules members result rewrites v l (unmatched_separating q rules members result rewrites place v lt out i l))) in
            subst (λ (b : Atom). Contains f.last b) (sym same)
            (IsSubset-contains result.atoms f.last (atom_image (query_names rewrites.name) a) f.grows
            (IsSubset-image (query_names rewrites.name) (unmatched q (all_pairs members)) result.atoms
            (unmatched_in q rules members result rewrites) a left))
      ]

  -- with the rewriting's answer list
  answers_sent : (f : FiredAll rules rewrites.name (enumerate_from 0 members) result.atoms) →
      terms_image (query_map rules members rewrites.name f.placed) q.answers ≡ result.answers
  answers_sent f =
      let goes : ℕ → Term = query_map rules members rewrites.name f.placed in
      let first : terms_image goes q.answers ≡ terms_image (query_names rewrites.name) q.answers =
      terms_image-agree goes (query_names rewrites.name) q.answers (λ v i.
      query_map-other q rules members result rewrites f.placed v (λ l.
      met_is_private q rules members result rewrites v l (inr i))) in
      first ∙ answers_named q rules members result rewrites

  -- a term that stands beside an answer variable is a constant, or a variable that the body has
  answer_beside : (x u : ℕ) (i : ℕ) (m : Member) (pair : ℕ × ℕ) (t : Term) → Contains q.answers (Variable x) →
      rewrites.name (of_query x) ≡ Variable u → Contains (enumerate_from 0 members) (i, m) → Contains m.pairs pair →
      AreBeside q (rule_at rules m.rule) pair (Variable x) t → OccursIn result.atoms (Variable u)
  answer_beside x u i m pair (Constant c) j p e k b =
      let same : rewrites.name (of_query x) ≡ rewrites.name (constant c) =
      (rewrites.names.classes (of_query x) (constant c)).1 (beside_named q rules members result rewrites i m pair (Variable x) (Constant c) e k b) in
      let is : rewrites.name (constant c) ≡ Constant c = rewrites.names.constants c in
      let bad : Constant c ≡ Variable u = sym is ∙ sym same ∙ p in
      absurd (cc)
  answer_beside x u i m pair (Variable v) j p e k b =
      let same : rewrites.name (of_query x) ≡ rewrites.name (of_copy i v) =
      (rewrites.names.classes (of_query x) (of_copy i v)).1 (beside_named q rules members result rewrites i m pair (Variable x) (Variable v) e k b) in
      elim (dec_occurs (rule_at rules m.rule).body (Variable v)) [
        | yes o ↦ OccursIn-trigger (rule_at rules m.rule).body result.atoms (copy_names rewrites.name i) v u
            (body_in q rules members result rewrites i m e) o (sym same ∙ p)
        | no n ↦
            let keeps : KeepsPredicate q (rule_at rules m.rule) pair = (entry_unifier q rules members i m rewrites.aggregate e).matching.each pair k in
            let head : OccursIn (rule_at rules m.rule).heads (Variable v) =
            beside_right q (rule_at rules m.rule) pair (Variable x) (Variable v) keeps.in_head b in
            absurd (met_is_private q rules members result rewrites x
            (record { copy = i; member = m; variable = v; entry = e; existential = (head, n); same = same }) (inr j))
      ]

  answer_occurs : (x u : ℕ) → OccursIn q.atoms (Variable x) → Contains q.answers (Variable x) → rewrites.name (of_query x) ≡ Variable u →
      OccursIn result.atoms (Variable u)
  answer_occurs x u o j p =
      let (a, i, k) = OccursIn-atom q.atoms (Variable x) o in
      let (place, lt, is) = place_of q.atoms a i in
      let here : Contains (atom_at q.atoms place).terms (Variable x) = subst (λ (b : Atom). Contains b.terms (Variable x)) (sym is) k in
      elim (dec_contains ℕ_discrete (places (all_pairs members)) place) [
        | yes matched ↦
            let w : MatchedAt members place = matched_at members place matched in
            let keeps : KeepsPredicate q (rule_at rules w.member.rule) w.pair =
            (entry_unifier q rules members w.copy w.member rewrites.aggregate w.entry).matching.each w.pair w.matched in
            let there : Contains (atom_at q.atoms w.pair.0).terms (Variable x) =
            subst (λ (n : ℕ). Contains (atom_at q.atoms n).terms (Variable x)) (sym w.at) here in
            let (t, b) =
            Contains-zip (atom_at q.atoms w.pair.0).terms (atom_at (rule_at rules w.member.rule).heads w.pair.1).terms (Variable x) keeps.arity there in
            answer_beside x u w.copy w.member w.pair t j p w.entry w.matched b
        | no out ↦ OccursIn-trigger (unmatched q (all_pairs members)) result.atoms (query_names rewrites.name) x u
            (unmatched_in q rules members result rewrites)
            (OccursIn-from_atom (unmatched q (all_pairs members)) (Variable x) (atom_at q.atoms place)
            (Contains-unmatched q (all_pairs members) place lt out) here) p
      ]

  -- the rewriting's answers are constants or among its variables
  answers_known : All (IsKnownIn q.atoms) q.answers → All (IsKnownIn result.atoms) result.answers
  answers_known known = All-from_contains (IsKnownIn result.atoms) result.answers (λ s i.
      let i' : Contains (map (λ t. rewrites.name (query_node t)) q.answers) s = subst (λ (ts : List Term). Contains ts s) rewrites.answers i in
      let (t, j, p) = Contains-from_map (λ t. rewrites.name (query_node t)) q.answers s i' in
      go t s j p)
    where
      go : (t s : Term) → Contains q.answers t → rewrites.name (query_node t) ≡ s → IsKnownIn result.atoms s
      go t (Constant c) j p = tt
      go (Constant d) (Variable u) j p =
          let is : rewrites.name (constant d) ≡ Constant d = rewrites.names.constants d in let bad : Constant d ≡ Variable u = sym is ∙ p in absurd (cc)
      go (Variable x) (Variable u) j p = answer_occurs x u (OccursIn-known q.atoms x q.answers known j) j p

-- the chase of the rewriting applies the members' rules first, and then goes on as the query's
pub one_step_is_sound : OneStepIsSound
one_step_is_sound problem q result members sound rewrites =
    let rules : List Rule = problem.rules in
    let f : FiredAll rules rewrites.name (enumerate_from 0 members) result.atoms = fired q rules members result rewrites in
    let goes : ℕ → Term = query_map rules members rewrites.name f.placed in
    let answer : IsChaseAnswer problem f.last (terms_image goes q.answers) =
    carried problem q.atoms f.last q.answers goes sound (query_sent q rules members result rewrites f) in
    record {
      known = answers_known q rules members result rewrites sound.known;
      steps = f.steps ++ answer.steps;
      last = answer.last;
      chase = IsChaseSequence-append rules result.atoms f.last answer.last f.steps answer.steps f.chase answer.chase;
      maps = record {
        mapping = answer.maps.mapping;
        homomorphism = record {
          atoms = answer.maps.homomorphism.atoms;
          answers = answer.maps.homomorphism.answers ∙ answers_sent q rules members result rewrites f;
        };
      };
    }
