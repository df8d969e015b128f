-- A rewriting with one rule asks for no number of the rule: the rule may stand in another list.
use Rattle.std.proofs.Common.{◌≡◌, ℕ, suc, ◌+◌, ◌<◌, List, [], ◌∷◌, ◌++◌, map, length, flat_map, refl, sym, ap, ap₂, ◌∙◌, subst, arith}
use Rattle.std.specs.List.{enumerate_from}
use Rattle.std.proofs.lemmas.List.{length-map}
use Rattle.ucq_terms.specs.declared.Term.{Term}
use Rattle.ucq_terms.specs.Syntax.{Atom, Rule, Query, IsSameSet}
use Rattle.ucq_terms.specs.Unifier.{Node, query_node, copy_node, unmatched, links, HasNoClash, IsSinglePiece}
use Rattle.ucq_terms.specs.Rewriting.{Member, rule_at, all_links, all_pairs, AreApart, IsMember, IsAggregate, NamesClasses, atoms_named, bodies, UsesOnly, IsOneStepWith}
use Rattle.ucq_terms.proofs.Lists.{Contains-from_map, All-from_contains, first_element}
use Rattle.ucq_terms.proofs.Pairwise.{AllPairs-map}

-- the members, with that rule number
abbrev pub renumbered : ℕ → List Member → List Member
renumbered number members = map (λ (m : Member). let other : Member = record { rule = number; pairs = m.pairs } in other) members

UsesOnly-rest : (number : ℕ) (m : Member) (members : List Member) → UsesOnly number (m ∷ members) → UsesOnly number members
UsesOnly-rest number m members only = λ k d l. only (suc k) d (omega arith)

-- what the members contribute is the same where the rules of these numbers are
copies_agree : {A : Type 0} (F : ℕ → Rule → List (ℕ × ℕ) → List A) (rules others : List Rule) (n number : ℕ) → rule_at rules n ≡ rule_at others number →
    (k : ℕ) (members : List Member) → UsesOnly n members →
    flat_map (λ (p : ℕ × Member). F p.0 (rule_at others p.1.rule) p.1.pairs) (enumerate_from k (renumbered number members)) ≡
    flat_map (λ (p : ℕ × Member). F p.0 (rule_at rules p.1.rule) p.1.pairs) (enumerate_from k members)
copies_agree F rules others n number same k [] only = refl
copies_agree F rules others n number same k (m ∷ members) only =
    let here : m.rule ≡ n = only 0 m (omega arith) in
    let rule : rule_at others number ≡ rule_at rules m.rule = sym (ap (rule_at rules) here ∙ same) in
    ap₂ (λ x y. x ++ y) (ap (λ (r : Rule). F k r m.pairs) rule)
    (copies_agree F rules others n number same (k + 1) members (UsesOnly-rest n m members only))

pairs_agree : (number : ℕ) (members : List Member) → all_pairs (renumbered number members) ≡ all_pairs members
pairs_agree number [] = refl
pairs_agree number (m ∷ members) = ap (λ ps. m.pairs ++ ps) (pairs_agree number members)

module _ (rules others : List Rule) (n number : ℕ) (same : rule_at rules n ≡ rule_at others number) (within : number < length others) where
  links_agree : (q : Query) (members : List Member) → UsesOnly n members → all_links q others (renumbered number members) ≡ all_links q rules members
  links_agree q members only = copies_agree (λ copy rule pairs. links q copy rule pairs) rules others n number same 0 members only

  bodies_agree : (name : Node → Term) (members : List Member) → UsesOnly n members → bodies name others (renumbered number members) ≡ bodies name rules members
  bodies_agree name members only =
      copies_agree (λ copy rule pairs. atoms_named (λ t. name (copy_node copy t)) rule.body) rules others n number same 0 members only

  member : (q : Query) (m : Member) → m.rule ≡ n → IsMember q rules m → IsMember q others (record { rule = number; pairs = m.pairs })
  member q m at is = record {
    rule = within;
    single = subst (λ (r : Rule). IsSinglePiece q r m.pairs) (ap (rule_at rules) at ∙ same) is.single;
  }

  aggregate : (q : Query) (members : List Member) → UsesOnly n members → IsAggregate q rules members → IsAggregate q others (renumbered number members)
  aggregate q members only was = record {
    nonempty = subst (λ (k : ℕ). 0 < k) (sym (length-map members _)) was.nonempty;
    each = All-from_contains _ (renumbered number members) (λ x c.
        let (m, i, e) = Contains-from_map _ members x c in
        subst (IsMember q others) e
        (member q m (subst (λ (y : Member). y.rule ≡ n) i.2 (only i.0 m i.1)) (subst (IsMember q rules) i.2 (was.each i.0 m i.1))));
    apart = AllPairs-map AreApart _ members was.apart;
    no_clash = subst HasNoClash (sym (links_agree q members only)) was.no_clash;
  }

  -- a step with the rule of one list is a step with the same rule of another
  pub renumber : (q result : Query) → IsOneStepWith rules n q result → IsOneStepWith others number q result
  renumber q result step =
      let r = step.rewrites in
      let only = step.uses_only in
      record {
        members = renumbered number step.members;
        uses_only = All-from_contains _ (renumbered number step.members) (λ x c.
            let (m, i, e) = Contains-from_map _ step.members x c in ap (λ (y : Member). y.rule) (sym e));
        rewrites = record {
          aggregate = aggregate q step.members only r.aggregate;
          name = r.name;
          names = subst (λ ls. NamesClasses ls r.name) (sym (links_agree q step.members only)) r.names;
          answers = r.answers;
          atoms = subst (λ (as_ : List Atom). IsSameSet result.atoms as_)
              (ap₂ (λ bs ps. bs ++ atoms_named (λ t. r.name (query_node t)) (unmatched q ps)) (sym (bodies_agree r.name step.members only)) (sym (pairs_agree number step.members)))
              r.atoms;
        };
      }

-- a step with one rule alone, as one of a list of rules, and back
pub step_from_alone : (rules : List Rule) (number : ℕ) (q result : Query) → number < length rules → IsOneStepWith (rule_at rules number ∷ []) 0 q result → IsOneStepWith rules number q result
step_from_alone rules number q result within step = renumber (rule_at rules number ∷ []) rules 0 number refl within q result step

pub step_to_alone : (rules : List Rule) (number : ℕ) (q result : Query) → IsOneStepWith rules number q result → IsOneStepWith (rule_at rules number ∷ []) 0 q result
step_to_alone rules number q result step = renumber rules (rule_at rules number ∷ []) number 0 refl (omega arith) q result step

-- each step is with one of the rules
pub step_within : (rules : List Rule) (number : ℕ) (q result : Query) → IsOneStepWith rules number q result → number < length rules
step_within rules number q result step =
    let a = step.rewrites.aggregate in
    let (m, i) = first_element step.members a.nonempty in
    subst (λ (k : ℕ). k < length rules) (subst (λ (y : Member). y.rule ≡ number) i.2 (step.uses_only i.0 m i.1))
    (subst (IsMember q rules) i.2 (a.each i.0 m i.1)).rule
