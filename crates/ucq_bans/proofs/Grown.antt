-- Lists of sets that grow by those with a property.
use Rattle.std.proofs.Common.{ℕ, List, Contains, ◌⊎◌, inl, inr}
use Rattle.ucq_bans.specs.inner.Search.{IsGrownBy}

-- nothing to add
pub IsGrownBy-nothing : (P : List ℕ → Type 0) (xs : List (List ℕ)) → ((t : List ℕ) → P t → Contains xs t) → IsGrownBy P xs xs
IsGrownBy-nothing P xs f = record { each = λ t. (λ i. inl i, λ i. elim i [ inl j ↦ j | inr p ↦ f t p ]) }

-- another property of the same sets
pub IsGrownBy-same : (P Q : List ℕ → Type 0) (xs ys : List (List ℕ)) → ((t : List ℕ) → P t → Q t) → ((t : List ℕ) → Q t → P t) → IsGrownBy P xs ys →
    IsGrownBy Q xs ys
IsGrownBy-same P Q xs ys f g s = record {
  each = λ t. (
    λ i. elim ((s.each t).0 i) [ inl j ↦ inl j | inr p ↦ inr (f t p) ],
    λ i. elim i [ inl j ↦ (s.each t).1 (inl j) | inr q ↦ (s.each t).1 (inr (g t q)) ],
  );
}

-- two steps
pub IsGrownBy-both : (P Q R : List ℕ → Type 0) (xs ys zs : List (List ℕ)) → ((t : List ℕ) → R t → P t ⊎ Q t) → ((t : List ℕ) → P t → R t) →
    ((t : List ℕ) → Q t → R t) → IsGrownBy P xs ys → IsGrownBy Q ys zs → IsGrownBy R xs zs
IsGrownBy-both P Q R xs ys zs f g h s u = record {
  each = λ t. (
    λ i. elim ((u.each t).0 i) [
      | inl j ↦ elim ((s.each t).0 j) [ inl k ↦ inl k | inr p ↦ inr (g t p) ]
      | inr q ↦ inr (h t q)
    ],
    λ i. elim i [
      | inl j ↦ (u.each t).1 (inl ((s.each t).1 (inl j)))
      | inr r ↦ elim (f t r) [ inl p ↦ (u.each t).1 (inl ((s.each t).1 (inr p))) | inr q ↦ (u.each t).1 (inr q) ]
    ],
  );
}
