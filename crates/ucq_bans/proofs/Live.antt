-- Images of live rows, row after row.
use Rattle.std.proofs.Common.{◌≡◌, ℕ, zero, suc, ◌+◌, ◌<◌, ◌⊎◌, List, [], refl, sym, ap, subst, inl, inr, arith}
use Rattle.ucq_terms.specs.Syntax.{Atom}
use Rattle.ucq_terms.proofs.Lists.{Contains-empty}
use Rattle.ucq_store.specs.Store.{Store, IsLive, query_of}
use Rattle.ucq_bans.specs.inner.Images.{AreImagesBefore, IsImageOf}
use Rattle.ucq_bans.specs.inner.Search.{IsGrownBy}

pub AreImagesBefore-none : (s : Store) (facts : List Atom) → AreImagesBefore s 0 facts []
AreImagesBefore-none s facts = record {
  each = λ set. (λ i. absurd (Contains-empty set i), λ m. let l = m.before in absurd (omega (arith, l)));
}

pub below_or_last : (k n : ℕ) → k < n + 1 → (k < n) ⊎ (k ≡ n)
below_or_last zero zero l = inr refl
below_or_last zero (suc n) l = inl (omega arith)
below_or_last (suc k) zero l = absurd (omega (arith, l))
below_or_last (suc k) (suc n) l = elim (below_or_last k n (omega (arith, l))) [
  | inl lt ↦ inl (omega (arith, lt))
  | inr e ↦ inr (ap suc e)
]

-- one more row, which is live
pub AreImagesBefore-live : (s : Store) (row : ℕ) (facts atoms : List Atom) (us vs : List (List ℕ)) → IsLive s row → atoms ≡ (query_of s row).atoms → AreImagesBefore s row facts us →
    IsGrownBy (IsImageOf atoms facts) us vs → AreImagesBefore s (row + 1) facts vs
AreImagesBefore-live s row facts atoms us vs live is m g = record {
  each = λ set. (
    λ i. elim ((g.each set).0 i) [
      | inl j ↦ let k = (m.each set).0 j in let l = k.before in record { row = k.row; before = omega (arith, l); live = k.live; image = k.image }
      | inr h ↦ record { row = row; before = omega arith; live = live; image = subst (λ (xs : List Atom). IsImageOf xs facts set) is h }
    ],
    λ k. elim (below_or_last k.row row k.before) [
      | inl l ↦ (g.each set).1 (inl ((m.each set).1 (record { row = k.row; before = l; live = k.live; image = k.image })))
      | inr e ↦ (g.each set).1 (inr (subst (λ (xs : List Atom). IsImageOf xs facts set) (sym is)
          (subst (λ (r : ℕ). IsImageOf (query_of s r).atoms facts set) e k.image)))
    ],
  );
}

-- and one that isn't
pub AreImagesBefore-dead : (s : Store) (row : ℕ) (facts : List Atom) (us : List (List ℕ)) → ¬ IsLive s row → AreImagesBefore s row facts us → AreImagesBefore s (row + 1) facts us
AreImagesBefore-dead s row facts us dead m = record {
  each = λ set. (
    λ i. let k = (m.each set).0 i in let l = k.before in record { row = k.row; before = omega (arith, l); live = k.live; image = k.image },
    λ k. elim (below_or_last k.row row k.before) [
      | inl l ↦ (m.each set).1 (record { row = k.row; before = l; live = k.live; image = k.image })
      | inr e ↦ absurd (dead (subst (IsLive s) e k.live))
    ],
  );
}
