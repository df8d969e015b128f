-- Parts of strictly sorted lists.
use Rattle.std.proofs.Common.{◌≡◌, ℕ, zero, suc, List, [], ◌∷◌, ◌++◌, take, drop, map, Contains, sym, subst, inl, inr}
use Rattle.std.specs.Prelude.{◌⊎◌}
use Rattle.std.specs.List.{AllByRecursion}
use Rattle.std.specs.List.Sorted.{IsStrictlySortedBy}
use Rattle.std.specs.declared.cmp.Ordering.{Ordering}
use Rattle.std.specs.declared.cmp.Ordering.TheVariants.{Less}
use Rattle.std.proofs.lemmas.List.{take-append-drop}
use Rattle.std.proofs.lemmas.List.Elements.{Contains-append_left, Contains-append_right, Contains-append_cases}
use Rattle.std.proofs.lemmas.Map.Keys.{sorted_tail}
use Rattle.ucq_terms.proofs.Lists.{Contains-first, Contains-rest, Contains-cons_cases, Contains-empty, Contains-map, Contains-from_map}
use Rattle.ucq_bans.proofs.Sorted.{below}

-- elements of the two parts of a list
pub Contains-take : {X : Type 0} (n : ℕ) (xs : List X) (x : X) → Contains (take n xs) x → Contains xs x
Contains-take n xs x i = subst (λ ys. Contains ys x) (take-append-drop n xs) (Contains-append_left (take n xs) (drop n xs) x i)

pub Contains-drop : {X : Type 0} (n : ℕ) (xs : List X) (x : X) → Contains (drop n xs) x → Contains xs x
Contains-drop n xs x i = subst (λ ys. Contains ys x) (take-append-drop n xs) (Contains-append_right (take n xs) (drop n xs) x i)

pub Contains-parts : {X : Type 0} (n : ℕ) (xs : List X) (x : X) → Contains xs x → Contains (take n xs) x ⊎ Contains (drop n xs) x
Contains-parts n xs x i = Contains-append_cases (take n xs) (drop n xs) x (subst (λ ys. Contains ys x) (sym (take-append-drop n xs)) i)

by_recursion : {X : Type 0} (P : X → Type 0) (xs : List X) → ((x : X) → Contains xs x → P x) → AllByRecursion P xs
by_recursion P [] f = tt
by_recursion P (x ∷ xs) f = (f x (Contains-first x xs), by_recursion P xs (λ y i. f y (Contains-rest x xs y i)))

module _ {K : Type 0} (R : K → K → Ordering) where
  -- an element before those that it is less than
  pub sorted_cons : (x : K) (xs : List K) → ((y : K) → Contains xs y → R x y ≡ Less) → IsStrictlySortedBy R xs → IsStrictlySortedBy R (x ∷ xs)
  unfolding IsStrictlySortedBy
  sorted_cons x xs f s = (by_recursion (λ y. R x y ≡ Less) xs f, s)

  pub sorted_nil : IsStrictlySortedBy R []
  unfolding IsStrictlySortedBy
  sorted_nil = tt

  -- and one behind those that are less than it
  pub sorted_push : (xs : List K) (y : K) → ((x : K) → Contains xs x → R x y ≡ Less) → IsStrictlySortedBy R xs → IsStrictlySortedBy R (xs ++ y ∷ [])
  sorted_push [] y f s = sorted_cons y [] (λ z i. absurd (Contains-empty z i)) sorted_nil
  sorted_push (x ∷ xs) y f s = sorted_cons x (xs ++ y ∷ []) (λ z i.
      elim (Contains-append_cases xs (y ∷ []) z i) [
        | inl j ↦ below R x xs s z j
        | inr j ↦ elim (Contains-cons_cases y [] z j) [
          | inl e ↦ subst (λ (w : K). R x w ≡ Less) e (f x (Contains-first x xs))
          | inr k ↦ absurd (Contains-empty z k)
        ]
      ]) (sorted_push xs y (λ z i. f z (Contains-rest x xs z i)) (sorted_tail R x xs s))

  pub sorted_drop : (n : ℕ) (xs : List K) → IsStrictlySortedBy R xs → IsStrictlySortedBy R (drop n xs)
  sorted_drop zero xs s = s
  sorted_drop (suc n) [] s = s
  sorted_drop (suc n) (x ∷ xs) s = sorted_drop n xs (sorted_tail R x xs s)

  pub sorted_take : (n : ℕ) (xs : List K) → IsStrictlySortedBy R xs → IsStrictlySortedBy R (take n xs)
  sorted_take zero xs s = sorted_nil
  sorted_take (suc n) [] s = s
  sorted_take (suc n) (x ∷ xs) s = sorted_cons x (take n xs) (λ y i. below R x xs s y (Contains-take n xs y i)) (sorted_take n xs (sorted_tail R x xs s))

-- a list sorted by one key is sorted by another that keeps the order
pub sorted_by_other : {X K L : Type 0} (R : K → K → Ordering) (S : L → L → Ordering) (g : X → K) (h : X → L) (xs : List X) →
    ((x y : X) → Contains xs x → Contains xs y → R (g x) (g y) ≡ Less → S (h x) (h y) ≡ Less) → IsStrictlySortedBy R (map g xs) → IsStrictlySortedBy S (map h xs)
sorted_by_other R S g h [] f s = sorted_nil S
sorted_by_other R S g h (x ∷ xs) f s = sorted_cons S (h x) (map h xs) (λ z i.
    let (y, j, e) = Contains-from_map h xs z i in
    subst (λ w. S (h x) w ≡ Less) e (f x y (Contains-first x xs) (Contains-rest x xs y j) (below R (g x) (map g xs) s (g y) (Contains-map g xs y j))))
    (sorted_by_other R S g h xs (λ y z i j. f y z (Contains-rest x xs y i) (Contains-rest x xs z j)) (sorted_tail R (g x) (map g xs) s))
