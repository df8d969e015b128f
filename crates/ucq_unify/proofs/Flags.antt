-- Flags of existential variables, and the numbers of a query and a rule.
use Rattle.std.proofs.Common.{◌≡◌, ◌<◌, ◌+◌, ◌↔◌, ℕ, Bool, true, false, List, [], ◌∷◌, ◌++◌, length, Contains, get_or, refl, sym, ap, ◌∙◌, subst, inl, inr, arith}
use Rattle.std.proofs.lemmas.Bool.{cases_eq}
use Rattle.std.proofs.lemmas.List.{length-append, get_or_push, get_or_append_left}
use Rattle.ucq_terms.specs.declared.Term.TheVariants.{Constant, Variable}
use Rattle.ucq_terms.specs.Query.{IsStored}
use Rattle.ucq_terms.specs.Syntax.{Query, Rule, OccursIn}
use Rattle.ucq_terms.specs.Chase.{IsExistential}
use Rattle.ucq_classes.specs.Numbers.{Numbers, NumbersQuery}
use Rattle.ucq_classes.proofs.Numbers.{query_numbered, heads_numbered}
use Rattle.ucq_unify.specs.inner.Sides.{HasFlags, AreFlags, AreNumbered}

-- a flag more
pub HasFlags-more : (rule : Rule) (n : ℕ) (flags more : List Bool) (b : Bool) → HasFlags rule n flags → (b ≡ true) ↔ IsExistential rule n →
    more ≡ flags ++ b ∷ [] → HasFlags rule (n + 1) more
HasFlags-more rule n flags more b h f e = record {
  count = ap length e ∙ (length-append flags (b ∷ []) ∙ ap (λ k. k + 1) h.count);
  tells =
      λ v l. subst (λ (xs : List Bool). (get_or xs v false ≡ true) ↔ IsExistential rule v) (sym e) (elim (cases_eq v n) [
        | inl d ↦
            let at : get_or (flags ++ b ∷ []) v false ≡ b = get_or_push flags b false v (h.count ∙ sym d) in
            subst (λ (x : Bool). (x ≡ true) ↔ IsExistential rule v) (sym at) (subst (λ (k : ℕ). (b ≡ true) ↔ IsExistential rule k) (sym d) f)
        | inr d ↦
            let m : v < n = omega (arith, l, d) in
            let k : v < length flags = omega (arith, h.count) in
            subst (λ (x : Bool). (x ≡ true) ↔ IsExistential rule v) (sym (get_or_append_left flags (b ∷ []) false v k)) (h.tells v m)
      ]);
}

-- The query's terms, then the constants of the rule's head, and then one copy of it have numbers.
pub numbered_sides : (q : Query) (rule : Rule) (flags : List Bool) (n m k : Numbers) → NumbersQuery n q → IsStored q → n.widths ≡ [] →
    ((c : ℕ) → Contains n.constants c → Contains m.constants c) → ((c : ℕ) → OccursIn rule.heads (Constant c) → Contains m.constants c) →
    m ≡ record n { constants = m.constants } → AreFlags rule flags → k ≡ record m { widths = m.widths ++ length flags ∷ [] } → AreNumbered q rule flags k
numbered_sides q rule flags n m k hq stored none kept noted rest told added =
    let all : Numbers = record { constants = m.constants; variables = n.variables; widths = length flags ∷ [] } in
    let empty : m.widths ≡ [] = ap (λ (x : Numbers). x.widths) rest ∙ none in
    let same : k ≡ all =
    added ∙ (ap (λ (x : Numbers). record x { widths = m.widths ++ length flags ∷ [] }) rest ∙
    ap (λ (ws : List ℕ). record { constants = m.constants; variables = n.variables; widths = ws ++ length flags ∷ [] }) empty) in
    subst (AreNumbered q rule flags) (sym same) (record {
      query = query_numbered all q (λ c o. kept c (hq.each (Constant c) o)) (λ v o. hq.each (Variable v) o);
      heads = heads_numbered all 0 rule noted told.heads;
      told = told.told;
      answers = record { low = λ v i. hq.each (Variable v) (stored.safe.answers v i) };
      one_copy = refl;
      few_atoms = stored.few_atoms;
    })
