-- What the store of a rule's head tells of its body's query, and what is said of the rule.
use Rattle.std.proofs.Common.{◌≡◌, ℕ, List, length, map, All, refl, sym, ◌∙◌, subst}
use Rattle.std.specs.Prelude.{Result, Ok, Err, IfOk}
use Rattle.ucq_terms.specs.declared.Term.TheVariants.{Variable}
use Rattle.ucq_terms.specs.Syntax.{Problem, Query, Rule}
use Rattle.ucq_terms.proofs.Lists.{All-from_contains, Contains-from_map}
use Rattle.ucq_chase.specs.Names.{IsHeldProblem, IsHeldQuery, IsHeldRule, IsHeldTerm}
use Rattle.ucq_chase.proofs.Names.{covering_keeps_names}
use Rattle.ucq_antichain.specs.declared.Row.{Row}
use Rattle.ucq_store.specs.Store.{Store}
use Rattle.ucq_store.specs.Lawful.{IsLawfulByLevels}
use Rattle.ucq_store.specs.Laws.{CutListing, EnoughBudget}
use Rattle.ucq_print.specs.declared.compared.Judged.TheVariants.{Follows, Needed}
use Rattle.ucq_print.specs.Texts.{cut_lines, lines_text}
use Rattle.ucq_within.specs.declared.Within.{Within}
use Rattle.ucq_within.specs.declared.Within.TheVariants.{Yes, No, Open}
use Rattle.ucq_within.specs.Containment.{IsContained, TellsWithin}
use Rattle.ucq_within.specs.Needless.{FollowsIsContainment, asked_of, frontier_of}
use Rattle.ucq_within.proofs.Following.{made_normal}
use Rattle.ucq_run.specs.Compared.{HasSmallFrontier, IsJudgedText, NoneCovers, RuleAsked, head_question, others_in, rule_in}
use Rattle.ucq_run.specs.inner.Comparing.{is_open, judged_text}
use Rattle.ucq_run.specs.inner.Request.{problem_with}
use Rattle.ucq_run.proofs.Comparing.{none_covers}
use Rattle.ucq_run.proofs.Printing.{cut_is_told}

abbrev body_of : RuleAsked → Query
body_of r = asked_of (rule_in r) (rule_in r).body

-- the store is that of the rule's head, under the others and at the budget, lawful, and its names are held
pub record IsOfHead (r : RuleAsked) (s : Store) : Type 0 where
  pub problem : s.problem ≡ (head_question r).problem
  pub budget : s.budget ≡ r.budget
  pub lawful : IsLawfulByLevels s
  pub held : IsHeldProblem (length r.names) s.problem

-- what is said of the rule
pub judged_is_told : CutListing → EnoughBudget → FollowsIsContainment → (r : RuleAsked) (s : Store) (w : Within) → HasSmallFrontier (rule_in r) → IsOfHead r s →
    TellsWithin s (body_of r) w → IsJudgedText r (is_open w) (judged_text r.names r.number w s)
judged_is_told listing enough law r s (Yes row) small of tells = record {
  told = Follows;
  judged =
      (small, (law (rule_in r) (others_in r)).1 (subst (λ (p : Problem). IsContained p.rules (body_of r) p.query) of.problem tells.1));
  printed = refl;
}
judged_is_told listing enough law r s No small of tells = record {
  told = Needed;
  judged =
      (small, λ follows. tells.2 (subst (λ (p : Problem). IsContained p.rules (body_of r) p.query) (sym of.problem) ((law (rule_in r) (others_in r)).0 follows)));
  printed = refl;
}
judged_is_told listing enough law r s Open small of tells =
    let (says, rows) = cut_is_told listing enough (head_question r) s of.problem of.budget of.lawful of.held tells.0 in
    record {
      small = small;
      cut_text = lines_text (cut_lines r.names s);
      cut = says;
      none = subst (λ (listed : List Row). NoneCovers listed (body_of r)) (sym rows) (none_covers s (body_of r) tells.1);
      printed = refl;
    }

-- ---- the store that is asked

-- the query of a rule's head has the rule's names
pub head_is_held : (count : ℕ) (rule : Rule) → IsHeldRule count rule → IsHeldQuery count (asked_of rule rule.heads)
head_is_held count rule held =
    covering_keeps_names count (asked_of rule rule.heads) (record { answers = map Variable (frontier_of rule); atoms = rule.heads }) (made_normal rule rule.heads).1
    (record {
      answers = All-from_contains (IsHeldTerm count) (map Variable (frontier_of rule)) (λ t i.
          let (v, j, e) = Contains-from_map Variable (frontier_of rule) t i in subst (IsHeldTerm count) e tt);
      atoms = held.heads;
    })

-- a store's problem is one that its own equals
pub store_is_of : {E : Type 0} (p q : Problem) (budget : ℕ) (store : Result Store E) → IfOk store (λ (s : Store). (s.problem ≡ p) × (s.budget ≡ budget)) → p ≡ q →
    IfOk store (λ (s : Store). s.problem ≡ q)
store_is_of p q budget (Ok s) h e = h.0 ∙ e
store_is_of p q budget (Err x) h e = tt

-- and has its names
pub store_is_held : {E : Type 0} (count : ℕ) (p : Problem) (rules : List Rule) (rule : Rule) (budget : ℕ) (store : Result Store E) →
    IfOk store (λ (s : Store). (s.problem ≡ p) × (s.budget ≡ budget)) → p ≡ problem_with rules (asked_of rule rule.heads) → All (IsHeldRule count) rules → IsHeldRule count rule →
    IfOk store (λ (s : Store). IsHeldProblem count s.problem)
store_is_held count p rules rule budget (Ok s) h e all held =
    subst (IsHeldProblem count) (sym (h.0 ∙ e)) (record { rules = all; query = head_is_held count rule held })
store_is_held count p rules rule budget (Err x) h e all held = tt
