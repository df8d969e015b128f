-- Sets of places that are made of a list, and added to others.
use Rattle.std.proofs.Common.{◌≡◌, ℕ, Bool, true, false, cond, nat_eq, List, [], ◌∷◌, ◌++◌, map, Contains, refl, sym, ap, ◌∙◌, subst, inl, inr, arith}
use Rattle.std.specs.List.{list_any, dedup}
use Rattle.std.specs.List.Sorted.{IsPermutation, IsSorted}
use Rattle.std.specs.Ordering.{nat_cmp, eq_by_cmp}
use Rattle.std.specs.Cmp.Lexicographic.{pointwise, pointwise_decides}
use Rattle.std.proofs.lemmas.Bool.Decides.{Decides-eqb, nat_tests}
use Rattle.std.proofs.lemmas.Cmp.{nat_cmp_total}
use Rattle.std.proofs.lemmas.List.{map-append}
use Rattle.std.proofs.lemmas.List.Elements.{Contains-append_left, Contains-push, Contains-push_cases}
use Rattle.std.proofs.lemmas.List.Kept.{IsStrictlySortedBy-dedup, Contains-dedup_nat, Contains-from_dedup}
use Rattle.std.proofs.lemmas.List.Sorted.{Contains-permutation, IsPermutation-sym}
use Rattle.ucq_terms.proofs.Equality.{IsEquality}
use Rattle.ucq_terms.proofs.Numbering.{list_any-map, Contains-from_any}
use Rattle.ucq_bans.specs.inner.Search.{IsGrownBy, IsSetOf}
use Rattle.ucq_bans.proofs.Grown.{IsGrownBy-same}
use Rattle.ucq_bans.proofs.Sorted.{one_sorted_list}

IsEquality-sets : IsEquality (pointwise nat_eq)
IsEquality-sets = record { decides = pointwise_decides Decides-eqb }

module _ {V : Type 0} (f : V → List ℕ) (keys : List V) where
  -- the test finds the sets that are held
  held-found : (set : List ℕ) → list_any (λ v. pointwise nat_eq set (f v)) keys ≡ true → Contains (map f keys) set
  held-found set e = Contains-from_any (pointwise nat_eq) IsEquality-sets (map f keys) set (sym (list_any-map f (pointwise nat_eq set) keys) ∙ e)

  -- a key that is inserted adds its set
  pub IsGrownBy-inserted : (key : V) (set : List ℕ) → f key ≡ set →
      IsGrownBy (λ t. t ≡ set) (map f keys) (map f (cond (list_any (λ v. pointwise nat_eq (f key) (f v)) keys) keys (keys ++ key ∷ [])))
  IsGrownBy-inserted key set e = go (list_any (λ v. pointwise nat_eq (f key) (f v)) keys) refl
    where
      go : (b : Bool) → list_any (λ v. pointwise nat_eq (f key) (f v)) keys ≡ b → IsGrownBy (λ t. t ≡ set) (map f keys) (map f (cond b keys (keys ++ key ∷ [])))
      go true h =
          let held : Contains (map f keys) set = subst (λ (t : List ℕ). Contains (map f keys) t) e (held-found (f key) h) in
          record {
            each = λ t. (λ i. inl i, λ i. elim i [ inl j ↦ j | inr q ↦ subst (λ (x : List ℕ). Contains (map f keys) x) (sym q) held ]);
          }
      go false h =
          let whole : map f (keys ++ key ∷ []) ≡ map f keys ++ set ∷ [] = map-append f keys (key ∷ []) ∙ ap (λ x. map f keys ++ x ∷ []) e in
          subst (λ (xs : List (List ℕ)). IsGrownBy (λ t. t ≡ set) (map f keys) xs) (sym whole) (record {
            each = λ t. (
              λ i. elim (Contains-push_cases (map f keys) set t i) [ inl j ↦ inl j | inr q ↦ inr (sym q) ],
              λ i. elim i [
                | inl j ↦ Contains-append_left (map f keys) (set ∷ []) t j
                | inr q ↦ subst (λ (x : List ℕ). Contains (map f keys ++ set ∷ []) x) (sym q) (Contains-push (map f keys) set)
              ],
            );
          })

-- ---- a set of a list

-- the list sorted, each place once
pub IsSetOf-sorted : (chosen sorted set : List ℕ) → IsPermutation chosen sorted → IsSorted nat_cmp sorted → set ≡ dedup nat_eq sorted → IsSetOf chosen set
IsSetOf-sorted chosen sorted set moved rises e = subst (IsSetOf chosen) (sym e) (record {
  rising = IsStrictlySortedBy-dedup nat_cmp_total ties sorted rises;
  each = λ place. (
    λ i. Contains-permutation sorted chosen place (IsPermutation-sym chosen sorted moved) (Contains-from_dedup nat_eq sorted place i),
    λ i. Contains-dedup_nat sorted place (Contains-permutation chosen sorted place moved i),
  );
})
  where
    ties : (x y : ℕ) → nat_eq x y ≡ eq_by_cmp nat_cmp x y
    ties x y = grind (arith, nat_tests)

-- a list has one set
pub one_set : (chosen s t : List ℕ) → IsSetOf chosen s → IsSetOf chosen t → s ≡ t
one_set chosen s t a b = one_sorted_list nat_cmp_total s t a.rising b.rising (λ x i. (b.each x).1 ((a.each x).0 i)) (λ x i. (a.each x).1 ((b.each x).0 i))

pub IsGrownBy-set : (chosen set : List ℕ) (us vs : List (List ℕ)) → IsSetOf chosen set → IsGrownBy (λ t. t ≡ set) us vs → IsGrownBy (IsSetOf chosen) us vs
IsGrownBy-set chosen set us vs s g = IsGrownBy-same _ _ us vs (λ t e. subst (IsSetOf chosen) (sym e) s) (λ t u. one_set chosen t set u s) g
