-- A rule applied at a trigger, and the rules of all members of an aggregate, applied one after the other.
use Rattle.std.proofs.Common.{◌≡◌, ℕ, ◌+◌, ◌<◌, ◌≤◌, inl, inr, refl, sym, ap, ◌∙◌, List, [], ◌∷◌, ◌++◌, length, Contains, arith, subst}
use Rattle.std.specs.List.{enumerate_from}
use Rattle.std.proofs.lemmas.List.Elements.{Contains-get_or}
use Rattle.ucq_terms.specs.declared.Term.{Term}
use Rattle.ucq_terms.specs.declared.Term.TheVariants.{Variable}
use Rattle.ucq_terms.specs.Syntax.{Atom, Rule, OccursIn, IsSubset, atoms_image}
use Rattle.ucq_terms.specs.Chase.{IsChaseSequence, IsChaseStep}
use Rattle.ucq_terms.specs.Unifier.{Node, of_copy}
use Rattle.ucq_terms.specs.Rewriting.{Member, rule_at}
use Rattle.std.proofs.Math.Decide.{ℕ_discrete}
use Rattle.ucq_terms.proofs.Decide.{chosen, chosen-yes, chosen-no, dec_occurs}
use Rattle.ucq_terms.proofs.Images.{IsSubset-agree}
use Rattle.ucq_terms.proofs.Lists.{Contains-first, Contains-rest, Contains-cons_cases, Contains-empty}
use Rattle.ucq_terms.proofs.Subsets.{IsSubset-refl, IsSubset-trans, IsSubset-append_left, IsSubset-append_right, IsSameSet-refl}
use Rattle.ucq_terms.proofs.Zips.{Contains-enumerate_above}
use Rattle.ucq_terms.proofs.Occurrences.{variables, Contains-variables, bound, bound-above}

-- One application of a rule, at a trigger, with new unknown values.
pub record IsFiring (rule : Rule) (facts : List Atom) (trigger placed : ℕ → Term) : Type 0 where
  pub frontier : (v : ℕ) → OccursIn rule.body (Variable v) → placed v ≡ trigger v
  pub step : IsChaseStep rule facts (facts ++ atoms_image placed rule.heads)

-- a rule whose body an instance has can be applied to it
pub fire : (rule : Rule) (facts : List Atom) (trigger : ℕ → Term) → IsSubset (atoms_image trigger rule.body) facts →
    (placed : ℕ → Term) × IsFiring rule facts trigger placed
fire rule facts trigger s = (
  placed,
  record {
    frontier = λ v o. in_body v o;
    step = record {
      trigger = trigger;
      applies = s;
      placed = placed;
      frontier = λ v f. in_body v f.1;
      fresh =
          λ v e. (
            least + v,
            out_of_body v e.1,
            λ o. let lt : least + v < least = bound-above (variables facts) (least + v) (Contains-variables facts (least + v) o) in omega arith,
          );
      apart = λ v w e f p.
          let pv : placed v ≡ Variable (least + v) = out_of_body v e.1 in
          let pw : placed w ≡ Variable (least + w) = out_of_body w f.1 in
          let same : least + v ≡ least + w = cc in
          omega arith;
      adds = IsSameSet-refl (facts ++ atoms_image placed rule.heads);
    };
  },
)
  where
    least : ℕ
    least = bound (variables facts)

    placed : ℕ → Term
    placed v = chosen (dec_occurs rule.body (Variable v)) (trigger v) (Variable (least + v))

    in_body : (v : ℕ) → OccursIn rule.body (Variable v) → placed v ≡ trigger v
    in_body v o = chosen-yes (dec_occurs rule.body (Variable v)) (trigger v) (Variable (least + v)) o

    out_of_body : (v : ℕ) → ¬ OccursIn rule.body (Variable v) → placed v ≡ Variable (least + v)
    out_of_body v n = chosen-no (dec_occurs rule.body (Variable v)) (trigger v) (Variable (least + v)) n

-- The rules of the members have been applied, each with its copy's names for a trigger.
pub record FiredAll (rules : List Rule) (name : Node → Term) (entries : List (ℕ × Member)) (facts : List Atom) : Type 0 where
  pub steps : List (List Atom)
  pub last : List Atom
  pub chase : IsChaseSequence rules facts steps last
  pub grows : IsSubset facts last
  -- where each copy's head variables go
  pub placed : ℕ → ℕ → Term
  pub frontier : (i : ℕ) (m : Member) → Contains entries (i, m) → (v : ℕ) → OccursIn (rule_at rules m.rule).body (Variable v) → placed i v ≡ name (of_copy i v)
  pub heads : (i : ℕ) (m : Member) → Contains entries (i, m) → IsSubset (atoms_image (placed i) (rule_at rules m.rule).heads) last

pub fire_all : (rules : List Rule) (name : Node → Term) (n : ℕ) (members : List Member) (facts : List Atom) →
    ((m : Member) → Contains members m → m.rule < length rules) →
    ((i : ℕ) (m : Member) → Contains (enumerate_from n members) (i, m) → IsSubset (atoms_image (λ v. name (of_copy i v)) (rule_at rules m.rule).body) facts) →
    FiredAll rules name (enumerate_from n members) facts
fire_all rules name n [] facts known bodies = record {
  steps = [];
  last = facts;
  chase = refl;
  grows = IsSubset-refl facts;
  placed = λ i v. name (of_copy i v);
  frontier = λ i m e. absurd (Contains-empty (i, m) e);
  heads = λ i m e. absurd (Contains-empty (i, m) e);
}
fire_all rules name n (m ∷ ms) facts known bodies =
    let rule : Rule = rule_at rules m.rule in
    let (placed, f) = fire rule facts (λ v. name (of_copy n v)) (bodies n m (Contains-first (n, m) (enumerate_from (n + 1) ms))) in
    let more : List Atom = facts ++ atoms_image placed rule.heads in
    let wider : IsSubset facts more = IsSubset-append_left facts (atoms_image placed rule.heads) in
    let r : FiredAll rules name (enumerate_from (n + 1) ms) more = fire_all rules name (n + 1) ms more
    (λ k i. known k (Contains-rest m ms k i))
    (λ i k e. IsSubset-trans (atoms_image (λ v. name (of_copy i v)) (rule_at rules k.rule).body) facts more
    (bodies i k (Contains-rest (n, m) (enumerate_from (n + 1) ms) (i, k) e)) wider) in
    both rules name n m ms facts (known m (Contains-first m ms)) placed f r
  where
    both : (rules : List Rule) (name : Node → Term) (n : ℕ) (m : Member) (ms : List Member) (facts : List Atom) → m.rule < length rules →
        (placed : ℕ → Term) → IsFiring (rule_at rules m.rule) facts (λ v. name (of_copy n v)) placed →
        FiredAll rules name (enumerate_from (n + 1) ms) (facts ++ atoms_image placed (rule_at rules m.rule).heads) →
        FiredAll rules name ((n, m) ∷ enumerate_from (n + 1) ms) facts
    both rules name n m ms facts known placed f r = record {
      steps = (facts ++ atoms_image placed rule.heads) ∷ r.steps;
      last = r.last;
      chase = ((rule, Contains-get_or rules m.rule none known, f.step), r.chase);
      grows = IsSubset-trans facts (facts ++ atoms_image placed rule.heads) r.last (IsSubset-append_left facts (atoms_image placed rule.heads)) r.grows;
      placed = everywhere;
      frontier = λ i k e v o. elim (Contains-cons_cases (n, m) (enumerate_from (n + 1) ms) (i, k) e) [
        | inl p ↦
            let at : i ≡ n = ap (λ q. q.0) (sym p) in
            let of : k ≡ m = ap (λ q. q.1) (sym p) in
            here i v at ∙ f.frontier v (subst (λ (x : Member). OccursIn (rule_at rules x.rule).body (Variable v)) of o) ∙
            ap (λ (x : ℕ). name (of_copy x v)) (sym at)
        | inr j ↦ there i v (later i k j) ∙ r.frontier i k j v o
      ];
      heads = λ i k e. elim (Contains-cons_cases (n, m) (enumerate_from (n + 1) ms) (i, k) e) [
        | inl p ↦
            let at : i ≡ n = ap (λ q. q.0) (sym p) in
            let of : m ≡ k = ap (λ q. q.1) p in
            subst (λ (x : Member). IsSubset (atoms_image (everywhere i) (rule_at rules x.rule).heads) r.last) of
            (IsSubset-agree (everywhere i) placed rule.heads r.last (λ v o. here i v at)
            (IsSubset-trans (atoms_image placed rule.heads) (facts ++ atoms_image placed rule.heads) r.last
            (IsSubset-append_right facts (atoms_image placed rule.heads)) r.grows))
        | inr j ↦ IsSubset-agree (everywhere i) (r.placed i) (rule_at rules k.rule).heads r.last (λ v o. there i v (later i k j)) (r.heads i k j)
      ];
    }
      where
        none : Rule
        none = record { heads = []; body = [] }

        rule : Rule
        rule = rule_at rules m.rule

        everywhere : ℕ → ℕ → Term
        everywhere i v = chosen (ℕ_discrete i n) (placed v) (r.placed i v)

        here : (i v : ℕ) → i ≡ n → everywhere i v ≡ placed v
        here i v at = chosen-yes (ℕ_discrete i n) (placed v) (r.placed i v) at

        there : (i v : ℕ) → (i ≡ n → ⊥) → everywhere i v ≡ r.placed i v
        there i v out = chosen-no (ℕ_discrete i n) (placed v) (r.placed i v) out

        later : (i : ℕ) (k : Member) → Contains (enumerate_from (n + 1) ms) (i, k) → i ≡ n → ⊥
        later i k j at = let le : n + 1 ≤ i = Contains-enumerate_above (n + 1) ms (i, k) j in omega arith
