-- The pairs of a choice.
use Rattle.std.proofs.Common.{◌≡◌, ◌≢◌, ℕ, zero, suc, ◌+◌, ◌<◌, ◌≤◌, List, [], ◌∷◌, ◌++◌, length, take, set, get_or, Option, Some, None, Contains, ◌⊎◌, refl, sym, ap, ap₂, ◌∙◌, subst, inl, inr, arith}
use Rattle.std.proofs.Common.{AllPairs}
use Rattle.std.proofs.lemmas.Bool.{cases_eq, cases_lt}
use Rattle.std.proofs.lemmas.List.{get_or-set_same, get_or-set_other, get_or_past, length-set, take_more, length-take-le}
use Rattle.std.proofs.lemmas.List.Elements.{Contains-get_or}
use Rattle.std.proofs.lemmas.List.Kept.{AllPairs-from_increasing}
use Rattle.ucq_terms.proofs.Pairwise.{AllPairs-first, AllPairs-rest}
use Rattle.std.specs.List.Sorted.{IsStrictlyIncreasing}
use Rattle.ucq_terms.specs.Unifier.{places}
use Rattle.ucq_terms.proofs.Lists.{Contains-first, Contains-rest, Contains-cons_cases, Contains-empty}
use Rattle.ucq_terms.proofs.Places.{Contains-from_places, Contains-places}
use Rattle.ucq_unify.specs.inner.Growing.{pairs_from, pairs_of, head_at, with_head}

-- A pair of the choice is the head at its place.
from_pairs : (n : ℕ) (choice : List (Option ℕ)) (pair : ℕ × ℕ) → Contains (pairs_from n choice) pair →
    (k : ℕ) × (k < length choice) × (n + k ≡ pair.0) × (head_at choice k ≡ Some pair.1)
from_pairs n [] pair c = absurd (Contains-empty pair c)
from_pairs n (None ∷ rest) pair c =
    let (k, l, e, h) = from_pairs (n + 1) rest pair c in
    (suc k, omega (arith, l), omega (arith, e), h)
from_pairs n (Some head ∷ rest) pair c = elim (Contains-cons_cases (n, head) (pairs_from (n + 1) rest) pair c) [
  | inl e ↦ (zero, omega arith, (let f : n ≡ pair.0 = ap (λ (p : ℕ × ℕ). p.0) e in omega arith), ap (λ (p : ℕ × ℕ). Some p.1) e)
  | inr i ↦ let (k, l, e, h) = from_pairs (n + 1) rest pair i in (suc k, omega (arith, l), omega (arith, e), h)
]

to_pairs : (n : ℕ) (choice : List (Option ℕ)) (k head : ℕ) → head_at choice k ≡ Some head → Contains {X = ℕ × ℕ} (pairs_from n choice) (n + k, head)
to_pairs n [] k head h = cc
to_pairs n (None ∷ rest) zero head h = cc
to_pairs n (None ∷ rest) (suc k) head h =
    let e : n + 1 + k ≡ n + suc k = omega arith in
    subst (λ (m : ℕ). Contains {X = ℕ × ℕ} (pairs_from (n + 1) rest) (m, head)) e (to_pairs (n + 1) rest k head h)
to_pairs n (Some other ∷ rest) zero head h =
    let d : other ≡ head = cc in
    let z : n ≡ n + 0 = omega arith in
    let e : (n, other) ≡ (n + 0, head) = λ i. (z i, d i) in
    subst (λ (p : ℕ × ℕ). Contains ((n, other) ∷ pairs_from (n + 1) rest) p) e (Contains-first (n, other) (pairs_from (n + 1) rest))
to_pairs n (Some other ∷ rest) (suc k) head h =
    let e : n + 1 + k ≡ n + suc k = omega arith in
    Contains-rest (n, other) (pairs_from (n + 1) rest) (n + suc k, head)
    (subst (λ (m : ℕ). Contains {X = ℕ × ℕ} (pairs_from (n + 1) rest) (m, head)) e (to_pairs (n + 1) rest k head h))

pub head-from_pair : (choice : List (Option ℕ)) (pair : ℕ × ℕ) → Contains (pairs_of choice) pair → head_at choice pair.0 ≡ Some pair.1
head-from_pair choice pair c =
    let (k, l, e, h) = from_pairs 0 choice pair c in
    let f : k ≡ pair.0 = omega (arith, e) in
    subst (λ (m : ℕ). head_at choice m ≡ Some pair.1) f h

pub pair_from_head : (choice : List (Option ℕ)) (place head : ℕ) → head_at choice place ≡ Some head → Contains {X = ℕ × ℕ} (pairs_of choice) (place, head)
pair_from_head choice place head h =
    let e : 0 + place ≡ place = omega arith in
    subst (λ (m : ℕ). Contains {X = ℕ × ℕ} (pairs_of choice) (m, head)) e (to_pairs 0 choice place head h)

-- a place without a head is in no pair
pub no_head-no_place : (choice : List (Option ℕ)) (place : ℕ) → head_at choice place ≡ None → Contains (places (pairs_of choice)) place → ⊥
no_head-no_place choice place e c =
    let (pair, i, f) = Contains-from_places (pairs_of choice) place c in
    let h : head_at choice place ≡ Some pair.1 = subst (λ (m : ℕ). head_at choice m ≡ Some pair.1) f (head-from_pair choice pair i) in
    cc

-- and a place that is in no pair has no head
pub head-no_place : (choice : List (Option ℕ)) (place : ℕ) → ¬ Contains (places (pairs_of choice)) place → head_at choice place ≡ None
head-no_place choice place n = go (head_at choice place) refl
  where
    go : (o : Option ℕ) → head_at choice place ≡ o → head_at choice place ≡ None
    go None e = e
    go (Some head) e = absurd (n (Contains-places (pairs_of choice) (place, head) (pair_from_head choice place head e)))

-- Pairs of a choice with a head for one place more.
pub with_head-cases : (choice : List (Option ℕ)) (place head : ℕ) (pair : ℕ × ℕ) → Contains (pairs_of (with_head choice place head)) pair →
    (pair ≡ (place, head)) ⊎ Contains (pairs_of choice) pair
with_head-cases choice place head pair c = elim (cases_eq pair.0 place) [
  | inl e ↦
      let l : place < length choice = subst (λ (n : ℕ). n < length choice) e below in
      let h : head_at (with_head choice place head) place ≡ Some pair.1 = subst (λ (n : ℕ). head_at (with_head choice place head) n ≡ Some pair.1) e here in
      let k : Some head ≡ Some pair.1 = sym (get_or-set_same choice place (Some head) None l) ∙ h in
      let d : pair.1 ≡ head = cc in
      inl (λ i. (e i, d i))
  | inr n ↦ inr (pair_from_head choice pair.0 pair.1 (sym (get_or-set_other choice place pair.0 (Some head) None n) ∙ here))
]
  where
    here : head_at (with_head choice place head) pair.0 ≡ Some pair.1
    here = head-from_pair (with_head choice place head) pair c

    below : pair.0 < length choice
    below = elim (cases_lt pair.0 (length choice)) [
      | inl l ↦ l
      | inr l ↦
          let e : head_at (with_head choice place head) pair.0 ≡ None =
          get_or_past (with_head choice place head) pair.0 None (omega (arith, length-set choice place (Some head))) in
          let f : None ≡ Some pair.1 = sym e ∙ here in cc
    ]

pub with_head-older : (choice : List (Option ℕ)) (place head : ℕ) (pair : ℕ × ℕ) → head_at choice place ≡ None → Contains (pairs_of choice) pair →
    Contains (pairs_of (with_head choice place head)) pair
with_head-older choice place head pair e c =
    let h = head-from_pair choice pair c in
    let n : pair.0 ≢ place = λ d. let f : None ≡ Some pair.1 = sym e ∙ subst (λ (m : ℕ). head_at choice m ≡ Some pair.1) d h in cc in
    pair_from_head (with_head choice place head) pair.0 pair.1 (get_or-set_other choice place pair.0 (Some head) None n ∙ h)

pub with_head-newest : (choice : List (Option ℕ)) (place head : ℕ) → place < length choice → Contains {X = ℕ × ℕ} (pairs_of (with_head choice place head)) (place, head)
with_head-newest choice place head l = pair_from_head (with_head choice place head) place head (get_or-set_same choice place (Some head) None l)

-- Lists of pairs whose places rise.
abbrev pub Rises : List (ℕ × ℕ) → Type 0
Rises pairs = AllPairs (λ (m n : ℕ). m < n) (places pairs)

pub rises_from_rising : (pairs : List (ℕ × ℕ)) → IsStrictlyIncreasing (places pairs) → Rises pairs
rises_from_rising pairs h = AllPairs-from_increasing (places pairs) h

rising_cons : (x : ℕ) (xs : List ℕ) → ((y : ℕ) → Contains xs y → x < y) → IsStrictlyIncreasing xs → IsStrictlyIncreasing (x ∷ xs)
rising_cons x xs f h = λ k l. go k (omega (arith, l))
  where
    go : (k : ℕ) → k < length xs → get_or (x ∷ xs) k 0 < get_or (x ∷ xs) (k + 1) 0
    go zero l = f (get_or xs 0 0) (Contains-get_or xs 0 0 l)
    go (suc k) l =
        let e : k + 1 ≡ suc k = omega arith in
        let f : suc (suc k) ≡ suc k + 1 = omega arith in
        let m : k + 1 < length xs = omega (arith, l) in
        let r : get_or xs k 0 < get_or xs (suc k) 0 = subst (λ (n : ℕ). get_or xs k 0 < get_or xs n 0) e (h k m) in
        subst (λ (n : ℕ). get_or xs k 0 < get_or (x ∷ xs) n 0) f r

rising_from : (n : ℕ) (choice : List (Option ℕ)) → IsStrictlyIncreasing (places (pairs_from n choice))
rising_from n [] = λ k l. absurd (omega (arith, l))
rising_from n (None ∷ rest) = rising_from (n + 1) rest
rising_from n (Some head ∷ rest) = rising_cons n (places (pairs_from (n + 1) rest)) above (rising_from (n + 1) rest)
  where
    above : (y : ℕ) → Contains (places (pairs_from (n + 1) rest)) y → n < y
    above y i =
        let (pair, j, e) = Contains-from_places (pairs_from (n + 1) rest) y i in
        let (k, l, f, h) = from_pairs (n + 1) rest pair j in
        omega (arith, e, f)

pub pairs_rise : (choice : List (Option ℕ)) → IsStrictlyIncreasing (places (pairs_of choice))
pairs_rise choice = rising_from 0 choice

below_rest : (x : ℕ × ℕ) (xs : List (ℕ × ℕ)) (z : ℕ × ℕ) → Rises (x ∷ xs) → Contains xs z → x.0 < z.0
below_rest x xs z r i = AllPairs-first (λ (m n : ℕ). m < n) x.0 (places xs) z.0 r (Contains-places xs z i)

rest_rises : (x : ℕ × ℕ) (xs : List (ℕ × ℕ)) → Rises (x ∷ xs) → Rises xs
rest_rises x xs r = AllPairs-rest (λ (m n : ℕ). m < n) x.0 (places xs) r

-- a place stands in one pair
pub same_pair : (xs : List (ℕ × ℕ)) (a b : ℕ × ℕ) → Rises xs → Contains xs a → Contains xs b → a.0 ≡ b.0 → a ≡ b
same_pair [] a b r i j e = absurd (Contains-empty a i)
same_pair (x ∷ xs) a b r i j e = go (Contains-cons_cases x xs a i) (Contains-cons_cases x xs b j)
    (λ k l. same_pair xs a b (rest_rises x xs r) k l e)
  where
    go : (x ≡ a) ⊎ Contains xs a → (x ≡ b) ⊎ Contains xs b → (Contains xs a → Contains xs b → a ≡ b) → a ≡ b
    go (inl d) (inl f) ih = sym d ∙ f
    go (inl d) (inr l) ih = let p = ap (λ (z : ℕ × ℕ). z.0) d in let q : x.0 < b.0 = below_rest x xs b r l in absurd (omega (arith, p, e))
    go (inr k) (inl f) ih = let p = ap (λ (z : ℕ × ℕ). z.0) f in let q : x.0 < a.0 = below_rest x xs a r k in absurd (omega (arith, p, e))
    go (inr k) (inr l) ih = ih k l

-- two lists with the same pairs are equal
pub same_pairs : (xs ys : List (ℕ × ℕ)) → Rises xs → Rises ys → ((z : ℕ × ℕ) → Contains xs z → Contains ys z) →
    ((z : ℕ × ℕ) → Contains ys z → Contains xs z) → xs ≡ ys
same_pairs [] [] r s f g = refl
same_pairs [] (y ∷ ys) r s f g = absurd (Contains-empty y (g y (Contains-first y ys)))
same_pairs (x ∷ xs) [] r s f g = absurd (Contains-empty x (f x (Contains-first x xs)))
same_pairs (x ∷ xs) (y ∷ ys) r s f g =
    ap₂ (λ (z : ℕ × ℕ) (zs : List (ℕ × ℕ)). z ∷ zs) first
    (same_pairs xs ys (rest_rises x xs r) (rest_rises y ys s)
    (λ z i. past y ys z (f z (Contains-rest x xs z i)) (λ e. apart x xs z r i (first ∙ e)))
    (λ z i. past x xs z (g z (Contains-rest y ys z i)) (λ e. apart y ys z s i (sym first ∙ e))))
  where
    apart : (w : ℕ × ℕ) (ws : List (ℕ × ℕ)) (z : ℕ × ℕ) → Rises (w ∷ ws) → Contains ws z → w ≡ z → ⊥
    apart w ws z t i e = let p : w.0 ≡ z.0 = ap (λ (v : ℕ × ℕ). v.0) e in let l : w.0 < z.0 = below_rest w ws z t i in omega arith

    past : (w : ℕ × ℕ) (ws : List (ℕ × ℕ)) (z : ℕ × ℕ) → Contains (w ∷ ws) z → ¬ (w ≡ z) → Contains ws z
    past w ws z i n = elim (Contains-cons_cases w ws z i) [ inl e ↦ absurd (n e) | inr j ↦ j ]

    first : x ≡ y
    first = elim (Contains-cons_cases y ys x (f x (Contains-first x xs))) [
      | inl e ↦ sym e
      | inr i ↦
          elim (Contains-cons_cases x xs y (g y (Contains-first y ys))) [
            | inl e ↦ e
            | inr j ↦ let p : y.0 < x.0 = below_rest y ys x s i in let o : x.0 < y.0 = below_rest x xs y r j in absurd (omega arith)
          ]
    ]

-- the first pair has the least place
pub least_pair : (xs : List (ℕ × ℕ)) → 0 < length xs → Rises xs → (z : ℕ × ℕ) × Contains xs z × ((y : ℕ × ℕ) → Contains xs y → z.0 ≤ y.0)
least_pair [] l r = absurd (omega arith)
least_pair (x ∷ xs) l r = (
  x,
  Contains-first x xs,
  λ y i. elim (Contains-cons_cases x xs y i) [
    | inl e ↦ let p : x.0 ≡ y.0 = ap (λ (z : ℕ × ℕ). z.0) e in omega arith
    | inr j ↦ let p : x.0 < y.0 = below_rest x xs y r j in omega arith
  ],
)

-- The pair of a place and what a choice has for it.
abbrev pub pair_at : ℕ → Option ℕ → List (ℕ × ℕ)
pair_at place None = []
pair_at place (Some head) = (place, head) ∷ []

pairs_push : (n : ℕ) (choice : List (Option ℕ)) (o : Option ℕ) → pairs_from n (choice ++ o ∷ []) ≡ pairs_from n choice ++ pair_at (n + length choice) o
pairs_push n [] None = refl
pairs_push n [] (Some head) = let e : n ≡ n + 0 = omega arith in ap (λ (k : ℕ). (k, head) ∷ []) e
pairs_push n (None ∷ rest) o =
    let e : n + 1 + length rest ≡ n + suc (length rest) = omega arith in
    pairs_push (n + 1) rest o ∙ ap (λ (k : ℕ). pairs_from (n + 1) rest ++ pair_at k o) e
pairs_push n (Some head ∷ rest) o =
    let e : n + 1 + length rest ≡ n + suc (length rest) = omega arith in
    ap (λ (l : List (ℕ × ℕ)). (n, head) ∷ l) (pairs_push (n + 1) rest o ∙ ap (λ (k : ℕ). pairs_from (n + 1) rest ++ pair_at k o) e)

pub pairs_of-more : (choice : List (Option ℕ)) (i : ℕ) → i < length choice → pairs_of (take (i + 1) choice) ≡ pairs_of (take i choice) ++ pair_at i (head_at choice i)
pairs_of-more choice i l =
    let e : 0 + length (take i choice) ≡ i = omega (arith, length-take-le i choice (omega (arith, l))) in
    ap pairs_of (take_more choice i None l) ∙
    (pairs_push 0 (take i choice) (head_at choice i) ∙ ap (λ (k : ℕ). pairs_of (take i choice) ++ pair_at k (head_at choice i)) e)

-- how many places have no head
abbrev pub free_places : List (Option ℕ) → ℕ
free_places [] = 0
free_places (None ∷ rest) = suc (free_places rest)
free_places (Some head ∷ rest) = free_places rest

pub free_places-with_head : (choice : List (Option ℕ)) (place head : ℕ) → place < length choice → head_at choice place ≡ None →
    free_places choice ≡ suc (free_places (with_head choice place head))
free_places-with_head [] place head l e = absurd (omega (arith, l))
free_places-with_head (None ∷ rest) zero head l e = refl
free_places-with_head (Some other ∷ rest) zero head l e = cc
free_places-with_head (None ∷ rest) (suc place) head l e = ap suc (free_places-with_head rest place head (omega (arith, l)) e)
free_places-with_head (Some other ∷ rest) (suc place) head l e = free_places-with_head rest place head (omega (arith, l)) e

-- taking the head away again
pub without_head : (choice : List (Option ℕ)) (place head : ℕ) → head_at choice place ≡ None → set (with_head choice place head) place None ≡ choice
without_head [] place head e = refl
without_head (None ∷ rest) zero head e = refl
without_head (Some other ∷ rest) zero head e = cc
without_head (o ∷ rest) (suc place) head e = ap (λ (xs : List (Option ℕ)). o ∷ xs) (without_head rest place head e)

-- A choice of no heads has no pairs.
pub no_heads-no_pairs : (choice : List (Option ℕ)) → ((k : ℕ) → head_at choice k ≡ None) → (pair : ℕ × ℕ) → Contains (pairs_of choice) pair → ⊥
no_heads-no_pairs choice f pair c = let e : None ≡ Some pair.1 = sym (f pair.0) ∙ head-from_pair choice pair c in cc
