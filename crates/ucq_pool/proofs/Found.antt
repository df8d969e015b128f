-- What is found rule by rule.
use Rattle.std.proofs.Common.{◌≡◌, ℕ, ◌+◌, ◌<◌, ◌≤◌, List, [], ◌∷◌, ◌++◌, length, Any, append_assoc, get_or, slice_index, sym, ap, ◌∙◌, subst, ⊎_elim, arith}
use Rattle.std.proofs.lemmas.List.{get_or_read}
use Rattle.std.proofs.lemmas.List.Elements.{Contains-append_left, Contains-append_right, Contains-get_or, All-append, All-contains}
use Rattle.std.proofs.lemmas.Bool.{cases_order}
use Rattle.ucq_terms.specs.Syntax.{Rule, Query}
use Rattle.ucq_terms.specs.Homomorphism.{Covers}
use Rattle.ucq_terms.specs.Unifier.{KeepsPredicate}
use Rattle.ucq_terms.specs.Rewriting.{Member, rule_at, IsMember, IsOneStepWith}
use Rattle.ucq_terms.proofs.Lists.{All-from_contains, Any-from_contains, Any-contains, first_element}
use Rattle.ucq_store.specs.Candidates.{Candidate, HoldsCore, HoldCores}
use Rattle.ucq_store.specs.Lawful.{HasWideStep, IsCoreOfOneStep}
use Rattle.ucq_store.specs.Reports.{AreFound}
use Rattle.ucq_store.proofs.Holding.{hold_append, hold_push}
use Rattle.ucq_step.specs.Steps.{IsCoreOfStep, IsCoveredBy, AreSteps, IsTooWide}
use Rattle.ucq_pool.specs.inner.ByHead.{AreRelevant}
use Rattle.ucq_pool.specs.Rewritings.{AreFoundBefore, AreProposed}
use Rattle.ucq_pool.proofs.Renumbered.{step_from_alone, step_to_alone, step_within}

-- one of two lists has it
Any-left : {X : Type 0} (P : X → Type 0) (xs ys : List X) → Any P xs → Any P (xs ++ ys)
Any-left P xs ys h = let (x, c, p) = Any-contains P xs h in Any-from_contains P (xs ++ ys) x (Contains-append_left xs ys x c) p

Any-right : {X : Type 0} (P : X → Type 0) (xs ys : List X) → Any P ys → Any P (xs ++ ys)
Any-right P xs ys h = let (x, c, p) = Any-contains P ys h in Any-from_contains P (xs ++ ys) x (Contains-append_right xs ys x c) p

some_covers : (cores : List Query) (result : Query) → IsCoveredBy cores result → Any (λ c. Covers c result) cores
some_covers cores result by = Any-from_contains (λ c. Covers c result) cores by.core by.among by.covers

-- the rule at that number, as code reads it
module _ (rules : List Rule) (number : ℕ) (rule : Rule) (within : number < length rules) (is : rule ≡ get_or rules number rule) where
  read_rule : rule_at rules number ≡ rule
  read_rule = sym (get_or_read rules number rule within is (record { heads = []; body = [] }))

  among_rules : (q result : Query) → IsOneStepWith (rule ∷ []) 0 q result → IsOneStepWith rules number q result
  among_rules q result step =
      step_from_alone rules number q result within (subst (λ (r : Rule). IsOneStepWith (r ∷ []) 0 q result) (sym read_rule) step)

  alone_rule : (q result : Query) → IsOneStepWith rules number q result → IsOneStepWith (rule ∷ []) 0 q result
  alone_rule q result step = subst (λ (r : Rule). IsOneStepWith (r ∷ []) 0 q result) read_rule (step_to_alone rules number q result step)

  core_among_rules : (q reduced : Query) → IsCoreOfStep q rule reduced → IsCoreOfOneStep rules q reduced
  core_among_rules q reduced h = record {
    result = h.rewriting;
    step = record { rule = number; step = among_rules q h.rewriting h.step };
    core_of = h.shrunk;
  }

  pub wide_step : (q : Query) (count : ℕ) → IsTooWide q rule count → HasWideStep rules q number count
  wide_step q count h = record { result = h.rewriting; step = among_rules q h.rewriting h.step; width = h.width; wide = h.above }

  -- the candidates of one more rule
  pub found_more : (numbers : List ℕ) (place : ℕ) → slice_index numbers place ≡ number → (q : Query) (candidates more : List Candidate) (cores : List Query) →
      AreFoundBefore rules numbers place q candidates → AreSteps q rule cores → AreProposed candidates cores more → AreFoundBefore rules numbers (place + 1) q more
  found_more numbers place at q candidates more cores was new proposed = record {
    cores = was.cores ++ cores;
    fresh = subst (λ (cs : List Candidate). HoldCores cs (was.cores ++ cores)) (sym proposed.are)
        (hold_append candidates proposed.more was.cores cores was.fresh proposed.hold);
    derived = All-append (IsCoreOfOneStep rules q) was.cores cores was.derived (All-from_contains (IsCoreOfOneStep rules q) cores (λ c among. core_among_rules q c (new.each c among)));
    covered = λ k result less step.
        ⊎_elim
        (λ same.
        let here : slice_index numbers k ≡ number = ap (slice_index numbers) same ∙ at in
        Any-right (λ c. Covers c result) was.cores cores (some_covers cores result (new.all result (alone_rule q result (subst (λ (n : ℕ). IsOneStepWith rules n q result) here step)))))
        (λ differ. ⊎_elim
        (λ below. Any-left (λ c. Covers c result) was.cores cores (was.covered k result below step))
        (λ above. absurd (omega arith))
        differ)
        (cases_order k place);
  }

-- one more candidate is proposed
pub one_proposed : (before now : List Candidate) (cores : List Query) (c : Candidate) (core : Query) → AreProposed before cores now → HoldsCore c core →
    AreProposed before (cores ++ core ∷ []) (now ++ c ∷ [])
one_proposed before now cores c core was holds = record {
  more = was.more ++ c ∷ [];
  are = ap (λ (cs : List Candidate). cs ++ c ∷ []) was.are ∙ append_assoc before was.more (c ∷ []);
  hold = hold_push was.more cores c core was.hold holds;
}

-- a rewriting with a rule matches an atom of the query with one of its head
step_meets : (rules : List Rule) (number : ℕ) (q result : Query) → IsOneStepWith rules number q result → (pair : ℕ × ℕ) × KeepsPredicate q (rule_at rules number) pair
step_meets rules number q result step =
    let (m, among) = first_element step.members step.rewrites.aggregate.nonempty in
    let is : IsMember q rules m = All-contains (IsMember q rules) step.members m step.rewrites.aggregate.each among in
    let same : m.rule ≡ number = All-contains (λ (x : Member). x.rule ≡ number) step.members m step.uses_only among in
    let matching = is.single.unifier.matching in
    let (pair, here) = first_element m.pairs matching.nonempty in
    (pair, subst (λ (n : ℕ). KeepsPredicate q (rule_at rules n) pair) same (matching.each pair here))

-- the candidates of all relevant rules
pub found_all : (rules : List Rule) (numbers : List ℕ) (place : ℕ) (q : Query) (candidates : List Candidate) → AreRelevant rules q numbers → length numbers ≤ place →
    AreFoundBefore rules numbers place q candidates → AreFound rules q candidates
found_all rules numbers place q candidates relevant end was = record {
  cores = was.cores;
  fresh = was.fresh;
  derived = was.derived;
  whole = record {
    covered = λ result step.
        let within : step.rule < length rules = step_within rules step.rule q result step.step in
        let (pair, keeps) = step_meets rules step.rule q result step.step in
        let (k, less, at) = relevant.all step.rule pair within keeps in
        let here : slice_index numbers k ≡ step.rule = sym (get_or_read numbers k step.rule less (sym at) 0) in
        was.covered k result (omega arith) (subst (λ (n : ℕ). IsOneStepWith rules n q result) (sym here) step.step);
  };
}

-- the rules and the numbers as code reads them are those, so that the next number is of a rule
pub next_rule : (rules read_rules : List Rule) (numbers read : List ℕ) (place : ℕ) (q : Query) (candidates : List Candidate) → read_rules ≡ rules → read ≡ numbers →
    AreRelevant rules q numbers → place < length numbers → AreFoundBefore rules numbers place q candidates →
    (place < length read) × ((slice_index read place < length read_rules) × AreFoundBefore read_rules read place q candidates)
next_rule rules read_rules numbers read place q candidates same_rules same relevant within found =
    subst (λ (rs : List Rule). (place < length read) × ((slice_index read place < length rs) × AreFoundBefore rs read place q candidates)) (sym same_rules)
    (subst (λ (ns : List ℕ). (place < length ns) × ((slice_index ns place < length rules) × AreFoundBefore rules ns place q candidates)) (sym same)
    (within, (relevant.within (slice_index numbers place) (Contains-get_or numbers place 0 within), found)))
