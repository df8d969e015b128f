-- One chase step, pulled back through a query.
use Rattle.std.proofs.Common.{◌≡◌, ℕ, zero, suc, ◌<◌, ◌≤◌, List, [], ◌++◌, length, ◌⊎◌, Contains, refl, sym, ap, ◌∙◌, subst, inl, inr, ⊎_elim, arith}
use Rattle.std.proofs.lemmas.List.{get_or_default}
use Rattle.std.proofs.lemmas.List.Elements.{Contains-get_or, Contains-append_cases}
use Rattle.ucq_terms.specs.declared.Term.{Term}
use Rattle.ucq_terms.specs.declared.Term.TheVariants.{Constant, Variable}
use Rattle.ucq_terms.specs.Syntax.{Atom, Rule, Query, OccursIn, IsSubset, term_image, atom_image, atoms_image}
use Rattle.ucq_terms.specs.Homomorphism.{MapsInto, IsHomomorphism}
use Rattle.ucq_terms.specs.Chase.{IsExistential, IsChaseStep}
use Rattle.ucq_terms.specs.Unifier.{atom_at, unmatched, IsMatching, IsSeparating, IsPieceUnifier}
use Rattle.ucq_terms.specs.Rewriting.{rule_at, IsOneStepWith, IsOneStep}
use Rattle.ucq_chase.specs.Laws.{PullBack}
use Rattle.std.proofs.lemmas.Bool.{cases_lt}
use Rattle.ucq_terms.proofs.Decide.{chosen, chosen-yes, chosen-no, dec_occurs}
use Rattle.ucq_terms.proofs.Images.{atom_image-agree, Contains-from_image, IsSubset-from_image, IsSubset-image, IsSubset-agree, OccursIn-image}
use Rattle.ucq_terms.proofs.Lists.{Contains-empty, Contains-map, length-positive}
use Rattle.ucq_terms.proofs.Matched.{Fits, maps_unify, KeepsPredicate-from_fits}
use Rattle.ucq_terms.proofs.Places.{place_of, Contains-from_places, Contains-from_unmatched}
use Rattle.ucq_terms.proofs.Subsets.{IsSubset-contains, OccursIn-from_atom, OccursIn-atom, OccursIn-at}
use Rattle.ucq_chase.proofs.Choice.{IsChoice, choose}
use Rattle.ucq_chase.proofs.Joined.{unifiers_map}
use Rattle.ucq_terms.proofs.Split.{AreDisjoint}

-- where a step sends the rule's variables
module _ (rule : Rule) (before after : List Atom) (step : IsChaseStep rule before after) where
  -- a variable of the body goes with the trigger, and any other where it is placed
  sent : ℕ → Term
  sent v = chosen (dec_occurs rule.body (Variable v)) (step.trigger v) (step.placed v)

  sent-in_body : (v : ℕ) → OccursIn rule.body (Variable v) → sent v ≡ step.trigger v
  unfolding sent
  sent-in_body v o = chosen-yes (dec_occurs rule.body (Variable v)) (step.trigger v) (step.placed v) o

  sent-out_of_body : (v : ℕ) → ¬ OccursIn rule.body (Variable v) → sent v ≡ step.placed v
  unfolding sent
  sent-out_of_body v o = chosen-no (dec_occurs rule.body (Variable v)) (step.trigger v) (step.placed v) o

  sent_head : (v : ℕ) → OccursIn rule.heads (Variable v) → step.placed v ≡ sent v
  sent_head v o = elim (dec_occurs rule.body (Variable v)) [
    | yes b ↦ step.frontier v (o, b) ∙ sym (sent-in_body v b)
    | no b ↦ sym (sent-out_of_body v b)
  ]

  sent_bodies : IsSubset (atoms_image sent rule.body) before
  sent_bodies = IsSubset-agree sent step.trigger rule.body before sent-in_body step.applies

  body_known : (v : ℕ) → OccursIn rule.body (Variable v) → OccursIn before (sent v)
  body_known v o = OccursIn-image sent rule.body before (Variable v) sent_bodies o

  -- an existential variable goes to no term of the instance before
  existential_new : (v : ℕ) (t : Term) → IsExistential rule v → sent v ≡ t → OccursIn before t → ⊥
  existential_new v t e s o = let f = step.fresh v e in f.2 (subst (λ t. OccursIn before t) (sym s ∙ (sent-out_of_body v e.1 ∙ f.1)) o)

  existential_variable : (v c : ℕ) → IsExistential rule v → ¬ (sent v ≡ Constant c)
  existential_variable v c e s = let f = step.fresh v e in let k : Variable f.0 ≡ Constant c = sym f.1 ∙ (sym (sent-out_of_body v e.1) ∙ s) in cc

  existential_apart : (v w : ℕ) → IsExistential rule v → OccursIn rule.heads (Variable w) → sent v ≡ sent w → v ≡ w
  existential_apart v w e o s = elim (dec_occurs rule.body (Variable w)) [
    | yes b ↦ absurd (existential_new v (sent w) e s (body_known w b))
    | no b ↦ step.apart v w e (o, b) (sym (sent-out_of_body v e.1) ∙ (s ∙ sent-out_of_body w b))
  ]

  head_sent : (place : ℕ) → place < length rule.heads → atom_image step.placed (atom_at rule.heads place) ≡ atom_image sent (atom_at rule.heads place)
  head_sent place l = atom_image-agree step.placed sent (atom_at rule.heads place) (λ v c. sent_head v (OccursIn-at rule.heads place (Variable v) l c))

module _ (rules : List Rule) (number : ℕ) (before after : List Atom) (step : IsChaseStep (rule_at rules number) before after) (q : Query)
    (tuple : List Term) (inside : number < length rules)
    (known : (v : ℕ) → IsExistential (rule_at rules number) v → ¬ Contains tuple (step.placed v)) (h : ℕ → Term) (H : IsHomomorphism h q after tuple) where
  abbrev rule : Rule
  rule = rule_at rules number

  abbrev goes : ℕ → Term
  goes = sent rule before after step

  -- the atom's image was there before, or is the image of an atom of the head
  was_or_is_new : (k : ℕ) → 0 ≤ k → k < length q.atoms →
      Contains before (atom_image h (atom_at q.atoms k)) ⊎ ((j : ℕ) × ((j < length rule.heads) × Fits h goes q rule (k, j)))
  was_or_is_new k z l =
      let x = atom_image h (atom_at q.atoms k) in
      let heads = rule.heads in
      let i = IsSubset-image h q.atoms after H.atoms (atom_at q.atoms k) (Contains-get_or q.atoms k _ l) in
      ⊎_elim (λ b. inl b)
      (λ n.
      let r = Contains-from_image step.placed heads x n in
      let p = place_of heads r.0 r.1 in
      inr (p.0, (p.1, sym r.2 ∙ (ap (atom_image step.placed) (sym p.2) ∙ head_sent rule before after step p.0 p.1))))
      (Contains-append_cases before (atoms_image step.placed heads) x (IsSubset-contains after (before ++ atoms_image step.placed heads) x step.adds.0 i))

  -- The atoms that were there before pass, and the others are joined with atoms of the head.
  abbrev Passes : ℕ → Type 0
  Passes k = Contains before (atom_image h (atom_at q.atoms k))

  abbrev Joins : ℕ → ℕ → Type 0
  Joins k j = (j < length rule.heads) × Fits h goes q rule (k, j)

  module _ (pairs : List (ℕ × ℕ)) (C : IsChoice Passes Joins 0 (length q.atoms) pairs) where
    matching : 0 < length pairs → IsMatching q rule pairs
    matching some = record {
      nonempty = some;
      rising = C.rising;
      each = λ p c. KeepsPredicate-from_fits h goes q rule p (C.within p c).1 (C.each p c).0 (C.each p c).1;
    }

    -- a separating variable's image was there before, or stands in the tuple
    separating : (v u : ℕ) → IsExistential rule v → IsSeparating q pairs u → ¬ (goes v ≡ h u)
    separating v u e (inl o) s =
        let r = OccursIn-atom (unmatched q pairs) (Variable u) o in
        let m = Contains-from_unmatched q pairs r.0 r.1 in
        let i : Contains before (atom_image h r.0) = subst (λ (a : Atom). Contains before (atom_image h a)) m.2 (C.rest m.0 (omega arith) m.1 m.3) in
        existential_new rule before after step v (h u) e s
        (OccursIn-from_atom before (h u) (atom_image h r.0) i (Contains-map (term_image h) r.0.terms (Variable u) r.2))
    separating v u e (inr a) s =
        let i : Contains tuple (h u) = subst (λ l. Contains l (h u)) H.answers (Contains-map (term_image h) q.answers (Variable u) a) in
        known v e (subst (λ t. Contains tuple t) (sym s ∙ sent-out_of_body rule before after step v e.1) i)

    -- the joined atoms make a piece-unifier
    unifier : 0 < length pairs → IsPieceUnifier q rule pairs
    unifier some = maps_unify h goes q rule pairs (matching some) (λ p c. (C.each p c).1)
        (existential_variable rule before after step) (existential_apart rule before after step) separating

    -- the rewriting by its single pieces maps into the instance before
    rewritten : 0 < length pairs → (result : Query) × IsOneStepWith rules number q result × MapsInto result before tuple
    rewritten some = subst (λ t. (result : Query) × IsOneStepWith rules number q result × MapsInto result before t) H.answers
        (unifiers_map rules number q h (λ i. goes) before 1 (λ i. only i) inside (record {
          disjoint = λ i j n. apart i j n;
          unifies = λ i l. inr (subst (IsPieceUnifier q rule) (sym (only_zero i l)) (unifier some));
          fits = λ i l p c. (C.each p (subst (λ l. Contains l p) (only_zero i l) c)).1;
          body = λ i l. sent_bodies rule before after step;
          rest = λ k l f. C.rest k (omega arith) l (f 0 (omega arith));
          some = (0, omega arith, some);
        }))
      where
        only : ℕ → List (ℕ × ℕ)
        only zero = pairs
        only (suc i) = []

        only_zero : (i : ℕ) → i < 1 → only i ≡ pairs
        only_zero zero l = refl
        only_zero (suc i) l = absurd (omega arith)

        apart : (i j : ℕ) → ¬ (i ≡ j) → AreDisjoint (only i) (only j)
        apart zero zero n place a b = n refl
        apart (suc i) j n place a b = Contains-empty place a
        apart zero (suc j) n place a b = Contains-empty place b

    -- where nothing is joined the query maps there itself
    mapped : length pairs ≤ 0 → MapsInto q before tuple
    mapped none = record {
      mapping = h;
      homomorphism = record {
        atoms = IsSubset-from_image h q.atoms before (λ a c.
            let k = place_of q.atoms a c in
            let i = C.rest k.0 (omega arith) k.1 (λ d. let p = Contains-from_places pairs k.0 d in let l = length-positive pairs p.0 p.1 in omega (arith, l)) in
            subst (λ (a : Atom). Contains before (atom_image h a)) k.2 i);
        answers = H.answers;
      };
    }

  pulled : MapsInto q before tuple ⊎ ((result : Query) × IsOneStepWith rules number q result × MapsInto result before tuple)
  pulled =
      let c = choose Passes Joins (length q.atoms) 0 (length q.atoms) (omega arith) was_or_is_new in
      ⊎_elim (λ l. inr (rewritten c.0 c.1 l)) (λ l. inl (mapped c.0 c.1 l)) (cases_lt 0 (length c.0))

pub pull_back : PullBack
pull_back rules number before after step q tuple inside known m = pulled rules number before after step q tuple inside known m.mapping m.homomorphism

-- the same for a step of a rule that stands in the list, as a chase sequence has it
pub pull_back_step : (rules : List Rule) (rule : Rule) (before after : List Atom) → Contains rules rule →
    (step : IsChaseStep rule before after) (q : Query) (tuple : List Term) →
    ((v : ℕ) → IsExistential rule v → ¬ Contains tuple (step.placed v)) → MapsInto q after tuple →
    MapsInto q before tuple ⊎ ((result : Query) × IsOneStep rules q result × MapsInto result before tuple)
pull_back_step rules rule before after c step q tuple known m =
    subst (λ (r : Rule). (step : IsChaseStep r before after) →
    ((v : ℕ) → IsExistential r v → ¬ Contains tuple (step.placed v)) →
    MapsInto q before tuple ⊎ ((result : Query) × IsOneStep rules q result × MapsInto result before tuple))
    (get_or_default rules c.0 _ rule c.1 ∙ c.2)
    (λ step known. ⊎_elim (λ i. inl i) (λ r. inr (r.0, record { rule = c.0; step = r.1 }, r.2)) (pull_back rules c.0 before after step q tuple c.1 known m))
    step known
