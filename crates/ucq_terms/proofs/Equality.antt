-- Tests that are true exactly at equal values.
use Rattle.std.proofs.Common.{◌≡◌, Bool, true, false, ◌&&◌, nat_eq, refl, sym, ap, ◌∙◌, subst}
use Rattle.std.specs.Bool.{Decides}
use Rattle.std.proofs.lemmas.Bool.Decides.{Decides-eqb, same_from_decides}
use Rattle.std.proofs.lemmas.Bool.{and_parts, and_from}
use Rattle.std.specs.Cmp.Lexicographic.{pointwise, pointwise_decides}
use Rattle.ucq_terms.specs.Syntax.{Problem}
use Rattle.ucq_terms.specs.Numbering.{term_eq, atom_eq}
use Rattle.ucq_terms.specs.Equality.{query_eq, rule_eq, Decides-term_eq, Decides-atom_eq, Decides-query_eq, Decides-rule_eq}

-- the test is true exactly at equal values
pub record IsEquality {A : Type 0} (eq : A → A → Bool) : Type 0 where
  pub decides : (x y : A) → Decides (eq x y) (x ≡ y)

pub IsEquality-nat_eq : IsEquality nat_eq
IsEquality-nat_eq = record { decides = Decides-eqb }

pub IsEquality-term_eq : IsEquality term_eq
IsEquality-term_eq = record { decides = Decides-term_eq }

pub IsEquality-atom_eq : IsEquality atom_eq
IsEquality-atom_eq = record { decides = Decides-atom_eq }

module _ {A : Type 0} (eq : A → A → Bool) (same : IsEquality eq) where
  pub eq_same : (x y : A) → eq x y ≡ true → x ≡ y
  eq_same x y e = (same.decides x y).0 e

  pub eq_refl : (x : A) → eq x x ≡ true
  eq_refl x = (same.decides x x).1 refl

  pub eq_symm : (x y : A) → eq x y ≡ eq y x
  eq_symm x y = same_from_decides (eq x y) (eq y x) (same.decides x y)
      (λ e. sym ((same.decides y x).0 e), λ e. (same.decides y x).1 (sym e))

-- two problems are equal where their queries and their rules are
pub Decides-problem : (p q r s : Problem) (queries rules : Bool) → r ≡ p → s ≡ q → queries ≡ query_eq r.query s.query →
    rules ≡ pointwise rule_eq r.rules s.rules → Decides (queries && rules) (p ≡ q)
Decides-problem p q r s queries rules d e f g =
    let both = pointwise_decides Decides-rule_eq r.rules s.rules in
    let one = Decides-query_eq r.query s.query in (
      λ h. let h' = and_parts queries rules h in sym d ∙ (problem_path r s (both.0 (sym g ∙ h'.1)) (one.0 (sym f ∙ h'.0)) ∙ e),
      λ h. let k : r ≡ s = d ∙ (h ∙ sym e) in
          and_from queries rules (f ∙ one.1 (ap (λ (x : Problem). x.query) k)) (g ∙ both.1 (ap (λ (x : Problem). x.rules) k)),
    )
  where
    problem_path : (p q : Problem) → p.rules ≡ q.rules → p.query ≡ q.query → p ≡ q
    problem_path p q a b = λ i. record { rules = a i; query = b i }

-- the second test decides where the first is true, and the first where it is false
pub Decides-second : {P : Type 0} (a b : Bool) → a ≡ true → Decides (a && b) P → Decides b P
Decides-second {P} a b e h = subst (λ x. Decides (x && b) P) e h

pub Decides-first : {P : Type 0} (a b : Bool) → a ≡ false → Decides (a && b) P → Decides a P
Decides-first {P} a b e h = subst (λ x. Decides x P) (sym e) (subst (λ x. Decides (x && b) P) e h)
