-- Names by labels.
use Rattle.std.proofs.Common.{◌≡◌, ◌≢◌, ◌<◌, ◌≤◌, ℕ, Bool, true, false, List, length, AllPairs, nat_eq, cond, get_or, refl, sym, ap, ◌∙◌, inl, inr}
use Rattle.std.specs.Prelude.{nat_lt}
use Rattle.std.specs.List.{position_or_len}
use Rattle.std.proofs.lemmas.Bool.{cases_lt, lt-ltb, le-ltb}
use Rattle.ucq_terms.specs.declared.Term.TheVariants.{Constant, Variable}
use Rattle.ucq_classes.proofs.Numbers.{place_at}
use Rattle.ucq_join.specs.inner.Naming.{name_by}

pub name_by-constant : (xs : List ℕ) (k : ℕ) → k < length xs → name_by xs k ≡ Constant (get_or xs k 0)
name_by-constant xs k l = go (nat_lt k (length xs)) (lt-ltb k (length xs) l)
  where
    go : (b : Bool) → b ≡ true → cond b (Constant (get_or xs k 0)) (Variable k) ≡ Constant (get_or xs k 0)
    go true e = refl
    go false e = cc

pub name_by-variable : (xs : List ℕ) (k : ℕ) → length xs ≤ k → name_by xs k ≡ Variable k
name_by-variable xs k l = go (nat_lt k (length xs)) (le-ltb k (length xs) l)
  where
    go : (b : Bool) → b ≡ false → cond b (Constant (get_or xs k 0)) (Variable k) ≡ Variable k
    go true e = cc
    go false e = refl

-- different labels give different names
pub name_by-same : (xs : List ℕ) (k m : ℕ) → AllPairs (λ (c d : ℕ). c ≢ d) xs → name_by xs k ≡ name_by xs m → k ≡ m
name_by-same xs k m o e =
    elim (cases_lt k (length xs)) [
      | inl l ↦ elim (cases_lt m (length xs)) [
        | inl n ↦
            let same : Constant (get_or xs k 0) ≡ Constant (get_or xs m 0) = sym (name_by-constant xs k l) ∙ (e ∙ name_by-constant xs m n) in
            let d : get_or xs k 0 ≡ get_or xs m 0 = cc in
            sym (place_at xs k o l) ∙ (ap (λ (c : ℕ). position_or_len (nat_eq c) xs) d ∙ place_at xs m o n)
        | inr n ↦ let bad : Constant (get_or xs k 0) ≡ Variable m = sym (name_by-constant xs k l) ∙ (e ∙ name_by-variable xs m n) in cc
      ]
      | inr l ↦ elim (cases_lt m (length xs)) [
        | inl n ↦ let bad : Variable k ≡ Constant (get_or xs m 0) = sym (name_by-variable xs k l) ∙ (e ∙ name_by-constant xs m n) in cc
        | inr n ↦ let same : Variable k ≡ Variable m = sym (name_by-variable xs k l) ∙ (e ∙ name_by-variable xs m n) in cc
      ]
    ]
