-- Sorted lists of elements that differ, and tuples in the order of their texts.
use Rattle.std.proofs.Common.{◌≡◌, ◌≢◌, ◌↔◌, ◌<◌, ◌+◌, refl, sym, ◌∙◌, ap, subst, arith, Bool, true, false, true≢false, cond, List, [], ◌∷◌, length, ℕ, get_or, map, Contains}
use Rattle.std.specs.Prelude.{AllPairs, Decides}
use Rattle.std.specs.List.{AllByRecursion, IsDistinct, dedup, dedup_from}
use Rattle.std.specs.List.Sorted.{IsSorted, IsStrictlySortedBy, IsPermutation}
use Rattle.std.specs.Ordering.{eq_by_cmp, is_eq, is_gt, is_lt, nat_cmp, ordering_then}
use Rattle.std.specs.declared.cmp.Ordering.{Ordering}
use Rattle.std.specs.declared.cmp.Ordering.TheVariants.{Less, Equal, Greater}
use Rattle.std.specs.Cmp.{IsTotalOrder, Equal-is}
use Rattle.std.specs.Cmp.Lexicographic.{slice_cmp, on_texts}
use Rattle.std.proofs.lemmas.Cmp.{then_total, nat_list_cmp_total, tied_itself, eq_by_cmp_equiv}
use Rattle.std.proofs.lemmas.List.{get_or-map, length-map}
use Rattle.std.proofs.lemmas.List.Elements.{All-contains, Contains-get_or}
use Rattle.std.proofs.lemmas.List.Kept.{IsStrictlySortedBy-dedup}
use Rattle.std.proofs.lemmas.List.Sorted.{Contains-permutation, IsPermutation-map, IsPermutation-sym}
use Rattle.std.proofs.lemmas.Map.Keys.{IsDistinct-cons, IsDistinct-head, IsDistinct-tail, IsDistinct-IsPermutation}
use Rattle.std.proofs.lemmas.Map.Lookups.{exact_bytes}
use Rattle.std.proofs.lemmas.Map.Made.{IsDistinct-from_AllPairs}
use Rattle.ucq_terms.proofs.Lists.{All-from_contains, first_element}
use Rattle.ucq_eval.specs.declared.order.Printed.{Printed}
use Rattle.ucq_eval.specs.Tuples.{tuple_cmp, tuple_text}
use Rattle.ucq_eval.specs.Order.{AreInOrder, ArePrinted, HaveTexts, tuples_beside}

abbrev pub names_of : Printed → List ℕ
names_of p = p.names.items

abbrev pub printed_cmp : Printed → Printed → Ordering
printed_cmp p q = ordering_then (slice_cmp nat_cmp p.text.items q.text.items) (slice_cmp nat_cmp p.names.items q.names.items)

-- dedup leaves a list of elements that differ as it is
dedup_from-distinct : {X : Type 0} {R : X → X → Ordering} → IsTotalOrder R → (k : X) (xs : List X) → IsDistinct (eq_by_cmp R) (k ∷ xs) → dedup_from (eq_by_cmp R) k xs ≡ k ∷ xs
dedup_from-distinct o k [] h = refl
dedup_from-distinct {X} {R} o k (x ∷ xs) h =
    let differs : eq_by_cmp R x k ≡ false = (eq_by_cmp_equiv o).symm x k ∙ (IsDistinct-head (eq_by_cmp R) k (x ∷ xs) h).0 in
    ap (λ (b : Bool). cond b (dedup_from (eq_by_cmp R) k xs) (k ∷ dedup_from (eq_by_cmp R) x xs)) differs
    ∙ ap (λ (ys : List X). k ∷ ys) (dedup_from-distinct o x xs (IsDistinct-tail (eq_by_cmp R) k (x ∷ xs) h))

dedup-distinct : {X : Type 0} {R : X → X → Ordering} → IsTotalOrder R → (xs : List X) → IsDistinct (eq_by_cmp R) xs → dedup (eq_by_cmp R) xs ≡ xs
dedup-distinct o [] h = refl
dedup-distinct o (x ∷ xs) h = dedup_from-distinct o x xs h

-- a sorted list of elements that differ is strictly sorted
pub strictly_from_sorted : {X : Type 0} {R : X → X → Ordering} → IsTotalOrder R → (xs : List X) → IsSorted R xs → IsDistinct (eq_by_cmp R) xs → IsStrictlySortedBy R xs
strictly_from_sorted {X} {R} o xs sorted distinct = subst (λ (ys : List X). IsStrictlySortedBy R ys) (dedup-distinct o xs distinct) (IsStrictlySortedBy-dedup o (λ x y. refl) xs sorted)

-- elements that differ keep doing so under a map that tells them apart
differ_after : {X Y : Type 0} {E : X → X → Bool} (F : Y → Y → Bool) (f : X → Y) → ((x y : X) → F (f x) (f y) ≡ true → E x y ≡ true) → (x : X) (xs : List X) → AllByRecursion (λ (y : X). E x y ≡ false) xs → AllByRecursion (λ (y : Y). F (f x) y ≡ false) (map f xs)
differ_after F f apart x [] h = h
differ_after {X} {Y} {E} F f apart x (y ∷ ys) h = (not_true (F (f x) (f y)) (λ e. true≢false (sym (apart x y e) ∙ h.0)), differ_after F f apart x ys h.1)
  where
    not_true : (b : Bool) → (b ≡ true → ⊥) → b ≡ false
    not_true true k = absurd (k refl)
    not_true false k = refl

pub IsDistinct-mapped : {X Y : Type 0} {E : X → X → Bool} (F : Y → Y → Bool) (f : X → Y) → ((x y : X) → F (f x) (f y) ≡ true → E x y ≡ true) → (xs : List X) → IsDistinct E xs → IsDistinct F (map f xs)
unfolding IsDistinct
IsDistinct-mapped F f apart [] h = h
IsDistinct-mapped {X} {Y} {E} F f apart (x ∷ xs) h = IsDistinct-cons F (f x) (map f xs) (differ_after F f apart x xs (IsDistinct-head E x xs h)) (IsDistinct-mapped F f apart xs (IsDistinct-tail E x xs h))

-- a sorted list stays sorted under a map that keeps the order
pub sorted_mapped :
    {X Y : Type 0} {R : X → X → Ordering} (S : Y → Y → Ordering) (f : X → Y) (xs : List X) →
    ((x y : X) → Contains xs x → Contains xs y → S (f x) (f y) ≡ R x y) →
    IsSorted R xs →
    IsSorted S (map f xs)
sorted_mapped {X} {Y} {R} S f xs same sorted = λ k d low high.
    let inside : k + 1 < length xs = omega (arith, high, length-map xs f) in
    let first : k < length xs = omega (arith, inside) in
    let (e, _) = first_element xs (omega (arith, inside)) in
    let x : X = get_or xs k e in
    let y : X = get_or xs (k + 1) e in
    let at_x : get_or (map f xs) k d ≡ f x = get_or-map f xs k e d first in
    let at_y : get_or (map f xs) (k + 1) d ≡ f y = get_or-map f xs (k + 1) e d inside in
    ap (λ (z : Y). is_lt (S z (get_or (map f xs) k d))) at_y
    ∙ ap (λ (z : Y). is_lt (S (f y) z)) at_x
    ∙ ap is_lt (same y x (Contains-get_or xs (k + 1) e inside) (Contains-get_or xs k e first))
    ∙ sorted k e (omega arith) inside

-- ---- tuples

pub tuple_cmp_total : (names : List (List ℕ)) → IsTotalOrder (tuple_cmp names)
tuple_cmp_total names = then_total (on_texts (tuple_text names)) nat_list_cmp_total

second_equal : (p q : Ordering) → ordering_then p q ≡ Equal → q ≡ Equal
second_equal Less q h = absurd (true≢false (ap is_lt h))
second_equal Equal q h = h
second_equal Greater q h = absurd (true≢false (ap is_gt h))

-- only equal tuples tie
pub tuples_tie : (names : List (List ℕ)) (a b : List ℕ) → Decides (eq_by_cmp (tuple_cmp names) a b) (a ≡ b)
tuples_tie names a b = (
  λ h. exact_bytes a b (second_equal (slice_cmp nat_cmp (tuple_text names a) (tuple_text names b)) (slice_cmp nat_cmp a b) ((Equal-is (tuple_cmp names a b)).0 h)),
  λ e. ap is_eq (subst (λ (x : List ℕ). tuple_cmp names a x ≡ Equal) e (tied_itself (tuple_cmp_total names) a)),
)

-- tuples beside their texts, once sorted, are the same tuples in their order
pub same_tuples : (names : List (List ℕ)) (tuples : List (List ℕ)) (before after : List Printed) → ArePrinted names tuples before → IsPermutation before after → (tuple : List ℕ) → Contains (map names_of after) tuple ↔ Contains tuples tuple
same_tuples names tuples before after printed permuted tuple =
    let mapped = IsPermutation-map names_of before after permuted in (
      λ h. subst (λ (all : List (List ℕ)). Contains all tuple) printed.names_are (Contains-permutation (map names_of after) (map names_of before) tuple (IsPermutation-sym (map names_of before) (map names_of after) mapped) h),
      λ h. Contains-permutation (map names_of before) (map names_of after) tuple mapped (subst (λ (all : List (List ℕ)). Contains all tuple) (sym printed.names_are) h),
    )

-- a tuple of a permutation has its text too
text_of :
    (names : List (List ℕ)) (tuples : List (List ℕ)) (before after : List Printed) → ArePrinted names tuples before → IsPermutation before after →
    (p : Printed) → Contains after p → p.text.items ≡ tuple_text names p.names.items
text_of names tuples before after printed permuted p h =
    All-contains (λ (p : Printed). p.text.items ≡ tuple_text names p.names.items) before p printed.texts_are (Contains-permutation after before p (IsPermutation-sym before after permuted) h)

pub tuples_sorted : (names : List (List ℕ)) (tuples : List (List ℕ)) (before after : List Printed) → ArePrinted names tuples before → AllPairs (λ a b. a ≢ b) tuples → IsPermutation before after → IsSorted printed_cmp after → IsStrictlySortedBy (tuple_cmp names) (map names_of after)
tuples_sorted names tuples before after printed different permuted sorted =
    strictly_from_sorted (tuple_cmp_total names) (map names_of after) (sorted_mapped (tuple_cmp names) names_of after agree sorted) apart
  where
    agree : (p q : Printed) → Contains after p → Contains after q → tuple_cmp names (names_of p) (names_of q) ≡ printed_cmp p q
    agree p q h k =
        ap (λ (text : List ℕ). ordering_then (slice_cmp nat_cmp text (tuple_text names q.names.items)) (slice_cmp nat_cmp p.names.items q.names.items)) (sym (text_of names tuples before after printed permuted p h))
        ∙ ap (λ (text : List ℕ). ordering_then (slice_cmp nat_cmp p.text.items text) (slice_cmp nat_cmp p.names.items q.names.items)) (sym (text_of names tuples before after printed permuted q k))

    distinct : IsDistinct (eq_by_cmp (tuple_cmp names)) tuples
    distinct = IsDistinct-from_AllPairs (tuples_tie names) tuples different

    apart : IsDistinct (eq_by_cmp (tuple_cmp names)) (map names_of after)
    apart = IsDistinct-IsPermutation (eq_by_cmp (tuple_cmp names)) (eq_by_cmp_equiv (tuple_cmp_total names)).symm (map names_of before) (map names_of after) (IsPermutation-map names_of before after permuted) (subst (λ (all : List (List ℕ)). IsDistinct (eq_by_cmp (tuple_cmp names)) all) (sym printed.names_are) distinct)

pub have_texts : (names : List (List ℕ)) (tuples : List (List ℕ)) (before after : List Printed) → ArePrinted names tuples before → IsPermutation before after → HaveTexts names after
have_texts names tuples before after printed permuted = record {
  each = All-from_contains (λ (p : Printed). p.text.items ≡ tuple_text names p.names.items) after (text_of names tuples before after printed permuted);
}

-- the tuples found, beside their texts and sorted
pub ordered :
    (names : List (List ℕ)) (found : List (List ℕ)) (before after : List Printed) → ArePrinted names found before → AllPairs (λ a b. a ≢ b) found →
    IsPermutation before after → IsSorted printed_cmp after → AreInOrder names found (tuples_beside after)
ordered names found before after printed different permuted sorted = record {
  same = same_tuples names found before after printed permuted;
  order = tuples_sorted names found before after printed different permuted sorted;
}
