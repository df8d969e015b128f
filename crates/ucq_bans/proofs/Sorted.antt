-- Strictly sorted lists: those with the same elements are one list.
use Rattle.std.proofs.Common.{◌≡◌, refl, sym, ◌∙◌, ap, ap₂, subst, inl, inr, true≢false, List, [], ◌∷◌, Contains}
use Rattle.std.specs.List.Sorted.{IsStrictlySortedBy}
use Rattle.std.specs.Ordering.{is_lt}
use Rattle.std.specs.declared.cmp.Ordering.{Ordering}
use Rattle.std.specs.declared.cmp.Ordering.TheVariants.{Less}
use Rattle.std.specs.Cmp.{IsTotalOrder}
use Rattle.std.proofs.lemmas.Cmp.{tied_itself}
use Rattle.std.proofs.lemmas.List.Elements.{All-contains}
use Rattle.std.proofs.lemmas.Map.Keys.{sorted_tail}
use Rattle.std.proofs.lemmas.Map.Views.{All-after_first}
use Rattle.ucq_terms.proofs.Lists.{Contains-cons_cases, Contains-empty, Contains-first, Contains-rest}

-- nothing is less than itself
pub irreflexive : {X : Type 0} {R : X → X → Ordering} → IsTotalOrder R → (x : X) → R x x ≡ Less → ⊥
irreflexive o x h = true≢false (ap is_lt (sym h ∙ tied_itself o x))

-- the first of a strictly sorted list is less than every other element
pub below : {X : Type 0} (R : X → X → Ordering) (x : X) (xs : List X) → IsStrictlySortedBy R (x ∷ xs) → (y : X) → Contains xs y → R x y ≡ Less
below R x xs h y c = All-contains (λ y. R x y ≡ Less) xs y (All-after_first R x xs h) c

-- the first elements are the same, if each list has the other's
same_first : {X : Type 0} {R : X → X → Ordering} → IsTotalOrder R → (x y : X) (xs ys : List X) → IsStrictlySortedBy R (x ∷ xs) → IsStrictlySortedBy R (y ∷ ys) → Contains (y ∷ ys) x → Contains (x ∷ xs) y → x ≡ y
same_first {X} {R} o x y xs ys h k c d = elim (Contains-cons_cases y ys x c) [
  | inl e ↦ sym e
  | inr later ↦ elim (Contains-cons_cases x xs y d) [
    | inl e ↦ e
    | inr later2 ↦ absurd (irreflexive o x (o.trans x y x (below R x xs h y later2) (below R y ys k x later)))
  ]
]

-- without their first element, which is the same, each still has the other's
same_rest : {X : Type 0} {R : X → X → Ordering} → IsTotalOrder R → (x : X) (xs ys : List X) → IsStrictlySortedBy R (x ∷ xs) → ((z : X) → Contains (x ∷ xs) z → Contains (x ∷ ys) z) → (z : X) → Contains xs z → Contains ys z
same_rest {X} {R} o x xs ys h forth z c = elim (Contains-cons_cases x ys z (forth z (Contains-rest x xs z c))) [
  | inl e ↦ absurd (irreflexive o x (subst (λ (w : X). R x w ≡ Less) (sym e) (below R x xs h z c)))
  | inr i ↦ i
]

pub one_sorted_list : {X : Type 0} {R : X → X → Ordering} → IsTotalOrder R → (xs ys : List X) → IsStrictlySortedBy R xs → IsStrictlySortedBy R ys → ((z : X) → Contains xs z → Contains ys z) → ((z : X) → Contains ys z → Contains xs z) → xs ≡ ys
one_sorted_list o [] [] h k forth back = refl
one_sorted_list o [] (y ∷ ys) h k forth back = absurd (Contains-empty y (back y (Contains-first y ys)))
one_sorted_list o (x ∷ xs) [] h k forth back = absurd (Contains-empty x (forth x (Contains-first x xs)))
one_sorted_list {X} {R} o (x ∷ xs) (y ∷ ys) h k forth back =
    let first : x ≡ y = same_first o x y xs ys h k (forth x (Contains-first x xs)) (back y (Contains-first y ys)) in
    let sorted : IsStrictlySortedBy R (x ∷ ys) = subst (λ (z : X). IsStrictlySortedBy R (z ∷ ys)) (sym first) k in
    let forth2 : (z : X) → Contains (x ∷ xs) z → Contains (x ∷ ys) z = λ z c. subst (λ (w : X). Contains (w ∷ ys) z) (sym first) (forth z c) in
    let back2 : (z : X) → Contains (x ∷ ys) z → Contains (x ∷ xs) z = λ z c. back z (subst (λ (w : X). Contains (w ∷ ys) z) first c) in
    ap₂ (λ (w : X) (ws : List X). w ∷ ws) first (one_sorted_list o xs ys (sorted_tail R x xs h) (sorted_tail R x ys sorted) (same_rest o x xs ys h forth2) (same_rest o x ys xs sorted back2))
