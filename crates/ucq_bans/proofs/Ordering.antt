-- Sets that were found, in lexicographic order.
use Rattle.std.proofs.Common.{◌≡◌, ◌<◌, ◌+◌, refl, sym, ◌∙◌, ap, subst, arith, Bool, true, false, true≢false, cond, List, [], ◌∷◌, length, ℕ, nat_eq, get_or, map, Contains}
use Rattle.std.specs.List.{AllByRecursion, IsDistinct, dedup, dedup_from}
use Rattle.std.specs.List.Sorted.{IsSorted, IsStrictlySortedBy, IsPermutation}
use Rattle.std.specs.Ordering.{eq_by_cmp, is_lt, nat_cmp}
use Rattle.std.specs.declared.cmp.Ordering.{Ordering}
use Rattle.std.specs.Cmp.{IsTotalOrder, Equal-is}
use Rattle.std.specs.Cmp.Lexicographic.{slice_cmp, pointwise, pointwise_decides}
use Rattle.std.proofs.lemmas.Bool.Decides.{Decides-eqb}
use Rattle.std.proofs.lemmas.Cmp.{nat_list_cmp_total, eq_by_cmp_equiv}
use Rattle.std.proofs.lemmas.List.{get_or-map, length-map}
use Rattle.std.proofs.lemmas.List.Elements.{Contains-get_or}
use Rattle.std.proofs.lemmas.List.Kept.{IsStrictlySortedBy-dedup}
use Rattle.std.proofs.lemmas.List.Sorted.{Contains-permutation, IsPermutation-map, IsPermutation-sym}
use Rattle.std.proofs.lemmas.Map.Keys.{IsDistinct-cons, IsDistinct-head, IsDistinct-tail, IsDistinct-IsPermutation}
use Rattle.std.proofs.lemmas.Map.Lookups.{exact_bytes}
use Rattle.ucq_terms.proofs.Lists.{first_element}
use Rattle.ucq_bans.specs.inner.Parts.{AreSortedFrom}

-- dedup leaves a list of elements that differ as it is
dedup_from-distinct : {X : Type 0} {R : X → X → Ordering} → IsTotalOrder R → (k : X) (xs : List X) → IsDistinct (eq_by_cmp R) (k ∷ xs) → dedup_from (eq_by_cmp R) k xs ≡ k ∷ xs
dedup_from-distinct o k [] h = refl
dedup_from-distinct {X} {R} o k (x ∷ xs) h =
    let differs : eq_by_cmp R x k ≡ false = (eq_by_cmp_equiv o).symm x k ∙ (IsDistinct-head (eq_by_cmp R) k (x ∷ xs) h).0 in
    ap (λ (b : Bool). cond b (dedup_from (eq_by_cmp R) k xs) (k ∷ dedup_from (eq_by_cmp R) x xs)) differs
    ∙ ap (λ (ys : List X). k ∷ ys) (dedup_from-distinct o x xs (IsDistinct-tail (eq_by_cmp R) k (x ∷ xs) h))

dedup-distinct : {X : Type 0} {R : X → X → Ordering} → IsTotalOrder R → (xs : List X) → IsDistinct (eq_by_cmp R) xs → dedup (eq_by_cmp R) xs ≡ xs
dedup-distinct o [] h = refl
dedup-distinct o (x ∷ xs) h = dedup_from-distinct o x xs h

-- a sorted list of elements that differ is strictly sorted
strictly_from_sorted : {X : Type 0} {R : X → X → Ordering} → IsTotalOrder R → (xs : List X) → IsSorted R xs → IsDistinct (eq_by_cmp R) xs → IsStrictlySortedBy R xs
strictly_from_sorted {X} {R} o xs sorted distinct = subst (λ (ys : List X). IsStrictlySortedBy R ys) (dedup-distinct o xs distinct) (IsStrictlySortedBy-dedup o (λ x y. refl) xs sorted)

-- elements that differ keep doing so under a map that tells them apart
differ_after : {X Y : Type 0} {E : X → X → Bool} (F : Y → Y → Bool) (f : X → Y) → ((x y : X) → F (f x) (f y) ≡ true → E x y ≡ true) → (x : X) (xs : List X) → AllByRecursion (λ (y : X). E x y ≡ false) xs → AllByRecursion (λ (y : Y). F (f x) y ≡ false) (map f xs)
differ_after F f apart x [] h = h
differ_after {X} {Y} {E} F f apart x (y ∷ ys) h = (not_true (F (f x) (f y)) (λ e. true≢false (sym (apart x y e) ∙ h.0)), differ_after F f apart x ys h.1)
  where
    not_true : (b : Bool) → (b ≡ true → ⊥) → b ≡ false
    not_true true k = absurd (k refl)
    not_true false k = refl

IsDistinct-mapped : {X Y : Type 0} {E : X → X → Bool} (F : Y → Y → Bool) (f : X → Y) → ((x y : X) → F (f x) (f y) ≡ true → E x y ≡ true) → (xs : List X) → IsDistinct E xs → IsDistinct F (map f xs)
unfolding IsDistinct
IsDistinct-mapped F f apart [] h = h
IsDistinct-mapped {X} {Y} {E} F f apart (x ∷ xs) h = IsDistinct-cons F (f x) (map f xs) (differ_after F f apart x xs (IsDistinct-head E x xs h)) (IsDistinct-mapped F f apart xs (IsDistinct-tail E x xs h))

-- a sorted list stays sorted under a map that keeps the order
sorted_mapped :
    {X Y : Type 0} {R : X → X → Ordering} (S : Y → Y → Ordering) (f : X → Y) (xs : List X) →
    ((x y : X) → Contains xs x → Contains xs y → S (f x) (f y) ≡ R x y) →
    IsSorted R xs →
    IsSorted S (map f xs)
sorted_mapped {X} {Y} {R} S f xs same sorted = λ k d low high.
    let inside : k + 1 < length xs = omega (arith, high, length-map xs f) in
    let first : k < length xs = omega (arith, inside) in
    let (e, _) = first_element xs (omega (arith, inside)) in
    let x : X = get_or xs k e in
    let y : X = get_or xs (k + 1) e in
    let at_x : get_or (map f xs) k d ≡ f x = get_or-map f xs k e d first in
    let at_y : get_or (map f xs) (k + 1) d ≡ f y = get_or-map f xs (k + 1) e d inside in
    ap (λ (z : Y). is_lt (S z (get_or (map f xs) k d))) at_y
    ∙ ap (λ (z : Y). is_lt (S (f y) z)) at_x
    ∙ ap is_lt (same y x (Contains-get_or xs (k + 1) e inside) (Contains-get_or xs k e first))
    ∙ sorted k e (omega arith) inside

-- ---- sets

-- the keys, once sorted, are the same sets in their order
pub sets_in_order : {V : Type 0} (f : V → List ℕ) (found before after : List V) → before ≡ found → IsPermutation before after →
    IsSorted (λ x y. slice_cmp nat_cmp (f x) (f y)) after → IsDistinct (λ x y. pointwise nat_eq (f x) (f y)) found → AreSortedFrom (map f found) (map f after)
sets_in_order {V} f found before after e permuted sorted distinct =
    let moved : IsPermutation (map f found) (map f after) = IsPermutation-map f found after (subst (λ (xs : List V). IsPermutation xs after) e permuted) in
    let total = nat_list_cmp_total in
    record {
      each = λ set. (
        λ i. Contains-permutation (map f after) (map f found) set (IsPermutation-sym (map f found) (map f after) moved) i,
        λ i. Contains-permutation (map f found) (map f after) set moved i,
      );
      sorted = strictly_from_sorted total (map f after) (sorted_mapped (slice_cmp nat_cmp) f after (λ x y i j. refl) sorted)
          (IsDistinct-IsPermutation (eq_by_cmp (slice_cmp nat_cmp)) (eq_by_cmp_equiv total).symm (map f found) (map f after) moved
          (IsDistinct-mapped (eq_by_cmp (slice_cmp nat_cmp)) f apart found distinct));
    }
  where
    apart : (x y : V) → eq_by_cmp (slice_cmp nat_cmp) (f x) (f y) ≡ true → pointwise nat_eq (f x) (f y) ≡ true
    apart x y h = (pointwise_decides Decides-eqb (f x) (f y)).1 (exact_bytes (f x) (f y) ((Equal-is (slice_cmp nat_cmp (f x) (f y))).0 h))
