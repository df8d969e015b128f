-- Rules whose variables are numbered by first occurrence.
use Rattle.std.proofs.Common.{◌≡◌, ℕ, ◌+◌, ◌*◌, ◌<◌, ◌≤◌, List, [], ◌++◌, length, Contains, sym, ap, ◌∙◌, subst, arith, Bool, true, false, not, ◌↔◌, IsTrue}
use Rattle.std.proofs.lemmas.Bool.{not-true, false_from_ne_true}
use Rattle.std.proofs.lemmas.List.{length-map}
use Rattle.std.proofs.lemmas.List.Elements.{Contains-append_left, Contains-append_right}
use Rattle.ucq_terms.specs.declared.Term.TheVariants.{Variable}
use Rattle.ucq_terms.specs.Syntax.{Atom, Rule, OccursIn}
use Rattle.ucq_terms.specs.Chase.{IsExistential, IsFrontier}
use Rattle.ucq_terms.specs.Rule.{IsKeptRule, IsNumberedRule}
use Rattle.ucq_terms.specs.Numbering.{terms_of, order_with, rule_order, numbered_atom, numbered_atoms}
use Rattle.ucq_terms.proofs.Normal.{numbered_atoms_below}
use Rattle.ucq_terms.proofs.Orders.{order_with-append, Contains-order_with, Contains-terms_of, numbered_atoms-with}

-- A rule's order has its variables.
pub Contains-rule_order_head : (r : Rule) (v : ℕ) → OccursIn r.heads (Variable v) → Contains (rule_order r) v
Contains-rule_order_head r v o = Contains-order_with [] (terms_of r.heads ++ terms_of r.body) v
    (Contains-append_left (terms_of r.heads) (terms_of r.body) (Variable v) (Contains-terms_of r.heads (Variable v) o))

pub Contains-rule_order_body : (r : Rule) (v : ℕ) → OccursIn r.body (Variable v) → Contains (rule_order r) v
Contains-rule_order_body r v o = Contains-order_with [] (terms_of r.heads ++ terms_of r.body) v
    (Contains-append_right (terms_of r.heads) (terms_of r.body) (Variable v) (Contains-terms_of r.body (Variable v) o))

rule_path : (r s : Rule) → r.heads ≡ s.heads → r.body ≡ s.body → r ≡ s
rule_path r s p q = λ i. record { heads = p i; body = q i }

-- what a function that numbers in place makes of a rule's parts
pub record IsRuleMadeBy (r : Rule) (first last : List ℕ) (heads body : List Atom) : Type 0 where
  pub first_is : first ≡ order_with [] (terms_of r.heads)
  pub last_is : last ≡ order_with first (terms_of r.body)
  pub heads_are : heads ≡ numbered_atoms first r.heads
  pub body_are : body ≡ numbered_atoms last r.body
  pub few_first : length first ≤ 16 * length r.heads
  pub few_last : length last ≤ length first + 16 * length r.body

-- is the numbered rule
pub IsNumberedRule-made : (r : Rule) (first last : List ℕ) (heads body : List Atom) → IsRuleMadeBy r first last heads body → length r.heads ≤ 32 →
    length r.body ≤ 32 → IsNumberedRule r (record { heads = heads; body = body })
IsNumberedRule-made r first last heads body m few_heads few_body =
    let split = sym (order_with-append [] (terms_of r.heads) (terms_of r.body)) in
    let whole : last ≡ rule_order r = m.last_is ∙ (ap (λ o. order_with o (terms_of r.body)) m.first_is ∙ split) in
    let early : heads ≡ numbered_atoms (rule_order r) r.heads =
    m.heads_are ∙ (ap (λ o. numbered_atoms o r.heads) m.first_is ∙ (numbered_atoms-with [] r.heads (terms_of r.body) ∙ ap (λ o. numbered_atoms o r.heads) split)) in
    record {
      same = rule_path _ _ early (m.body_are ∙ ap (λ o. numbered_atoms o r.body) whole);
      few = subst (λ o. length o ≤ 1024) whole (omega (arith, m.few_first, m.few_last));
    }

-- and kept
pub IsKeptRule-from : (r numbered : Rule) → IsNumberedRule r numbered → 0 < length r.heads → length r.heads ≤ 32 → 0 < length r.body → length r.body ≤ 32 →
    IsKeptRule numbered
IsKeptRule-from r numbered n some_heads few_heads some_body few_body =
    let order = rule_order r in
    let few = n.few in
    subst IsKeptRule (sym n.same) (record {
      some_heads = omega (arith, length-map r.heads (numbered_atom order));
      few_heads = omega (arith, length-map r.heads (numbered_atom order));
      some_body = omega (arith, length-map r.body (numbered_atom order));
      few_body = omega (arith, length-map r.body (numbered_atom order));
      head_variables = λ v o. let l = numbered_atoms_below order r.heads v (λ w i. Contains-rule_order_head r w i) o in omega (arith, l, few);
      body_variables = λ v o. let l = numbered_atoms_below order r.body v (λ w i. Contains-rule_order_body r w i) o in omega (arith, l, few);
    })

-- the same for equal lists
pub IsNumberedRule-same : (heads next_heads made next_made body next_body kept next_kept : List Atom) → heads ≡ next_heads → body ≡ next_body → next_made ≡ made →
    next_kept ≡ kept → IsNumberedRule (record { heads = heads; body = body }) (record { heads = made; body = kept }) →
    IsNumberedRule (record { heads = next_heads; body = next_body }) (record { heads = next_made; body = next_kept })
IsNumberedRule-same heads next_heads made next_made body next_body kept next_kept e f g h n =
    let from = rule_path (record { heads = heads; body = body }) (record { heads = next_heads; body = next_body }) e f in
    let to = rule_path (record { heads = next_made; body = next_kept }) (record { heads = made; body = kept }) g h in
    subst (λ r. IsNumberedRule r (record { heads = next_made; body = next_kept })) from
    (subst (λ r. IsNumberedRule (record { heads = heads; body = body }) r) (sym to) n)

-- The kind of a variable of the head, by a test of the body.
pub IsFrontier-tested : (r : Rule) (v : ℕ) (heads body : List Atom) (first second : Bool) → heads ≡ r.heads → body ≡ r.body →
    IsTrue first ↔ OccursIn heads (Variable v) → IsTrue second ↔ OccursIn body (Variable v) → first ≡ true → IsTrue second ↔ IsFrontier r v
IsFrontier-tested r v heads body first second e f h k t =
    let in_head = subst (λ l. OccursIn l (Variable v)) e (h.0 t) in
    (λ s. (in_head, subst (λ l. OccursIn l (Variable v)) f (k.0 s)), λ p. k.1 (subst (λ l. OccursIn l (Variable v)) (sym f) p.1))

pub IsExistential-tested : (r : Rule) (v : ℕ) (heads body : List Atom) (first second : Bool) → heads ≡ r.heads → body ≡ r.body →
    IsTrue first ↔ OccursIn heads (Variable v) → IsTrue second ↔ OccursIn body (Variable v) → first ≡ true → IsTrue (not second) ↔ IsExistential r v
IsExistential-tested r v heads body first second e f h k t =
    let in_head = subst (λ l. OccursIn l (Variable v)) e (h.0 t) in (
      λ s. (in_head, λ o. let bad : true ≡ false = sym (k.1 (subst (λ l. OccursIn l (Variable v)) (sym f) o)) ∙ not-true second s in absurd cc),
      λ p. ap not (false_from_ne_true second (λ s. p.1 (subst (λ l. OccursIn l (Variable v)) f (k.0 s)))),
    )
