-- The marks that are bits of a number are listed one after another.
use Rattle.std.proofs.Common.{◌≡◌, ◌≢◌, ℕ, ◌+◌, ◌<◌, ◌≤◌, inl, inr, refl, sym, ◌∙◌, List, length, take, get_or, arith, subst}
use Rattle.std.specs.Int.{bit_at}
use Rattle.std.proofs.Math.ListN.{set}
use Rattle.std.proofs.lemmas.Bool.{cases_eq}
use Rattle.std.proofs.lemmas.List.{get_or-set_same, get_or-set_other, get_or-take, length-take-le}
use Rattle.ucq_antichain.specs.inner.Sets.{IsListOf}
use Rattle.ucq_antichain.proofs.Words.{cases_below}

-- the first so many of the list are the marks below one that are bits
pub record AreBelow (list : List ℕ) (count marks mark : ℕ) : Type 0 where
  pub few : count ≤ mark
  pub only : (k : ℕ) → k < count → (get_or list k 0 < 128) × (bit_at marks (get_or list k 0) ≡ 1)
  pub all : (m : ℕ) → m < mark → bit_at marks m ≡ 1 → (k : ℕ) × (k < count) × (get_or list k 0 ≡ m)

pub none_below : (list : List ℕ) (marks : ℕ) → AreBelow list 0 marks 0
none_below list marks = record { few = omega arith; only = λ k l. absurd (omega arith); all = λ m l. absurd (omega arith) }

pub below_skipped : (list : List ℕ) (count marks from to : ℕ) → AreBelow list count marks from → from ≤ to → ((i : ℕ) → from ≤ i → i < to → bit_at marks i ≡ 0) → AreBelow list count marks to
below_skipped list count marks from to b further unset = record {
  few = let l = b.few in omega (arith, l, further);
  only = b.only;
  all = λ m l bit. elim (cases_below m from) [
    | inl before ↦ b.all m before bit
    | inr after ↦ let none = unset m after l in absurd (omega (arith, none, bit))
  ];
}

pub below_added : (list : List ℕ) (count marks mark : ℕ) → AreBelow list count marks mark → length list ≡ 128 → mark < 128 → bit_at marks mark ≡ 1 →
    AreBelow (set list count mark) (count + 1) marks (mark + 1)
below_added list count marks mark b size low bit = record {
  few = let l = b.few in omega arith;
  only = λ k l. elim (cases_eq k count) [
    | inl e ↦ subst (λ (m : ℕ). (m < 128) × (bit_at marks m ≡ 1)) (sym (at k e)) (low, bit)
    | inr ne ↦ subst (λ (m : ℕ). (m < 128) × (bit_at marks m ≡ 1)) (sym (before k ne)) (b.only k (omega (arith, l, ne)))
  ];
  all = λ m l is. elim (cases_eq m mark) [
    | inl e ↦ (count, omega arith, at count refl ∙ sym e)
    | inr ne ↦
        let (k, n, f) = b.all m (omega (arith, l, ne)) is in
        (k, omega (arith, n), before k (omega (arith, n)) ∙ f)
  ];
}
  where
    at : (k : ℕ) → k ≡ count → get_or (set list count mark) k 0 ≡ mark
    at k e = subst (λ (i : ℕ). get_or (set list count mark) i 0 ≡ mark) (sym e) (get_or-set_same list count mark 0 (let l = b.few in omega (arith, size, low, l)))

    before : (k : ℕ) → k ≢ count → get_or (set list count mark) k 0 ≡ get_or list k 0
    before k ne = get_or-set_other list count k mark 0 ne

pub all_listed : (list : List ℕ) (count marks : ℕ) → AreBelow list count marks 128 → length list ≡ 128 → IsListOf (take count list) marks
all_listed list count marks b size = record {
  few = let l = b.few in omega (arith, l, many);
  only = λ k l. subst (λ (m : ℕ). (m < 128) × (bit_at marks m ≡ 1)) (sym (read k (omega (arith, l, many)))) (b.only k (omega (arith, l, many)));
  all = λ m l is. let (k, n, f) = b.all m l is in (k, omega (arith, n, many), read k n ∙ f);
}
  where
    many : length (take count list) ≡ count
    many = let l = b.few in length-take-le count list (omega (arith, l, size))

    read : (k : ℕ) → k < count → get_or (take count list) k 0 ≡ get_or list k 0
    read k l = get_or-take count list k 0 l
