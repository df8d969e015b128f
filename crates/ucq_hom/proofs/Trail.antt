-- How bindings grow by a variable at a time, and shrink again by their trail.
use Rattle.std.proofs.Common.{◌≡◌, ◌≢◌, ℕ, ◌+◌, ◌-◌, ◌<◌, ◌≤◌, List, [], ◌∷◌, ◌++◌, length, take, set, get_or, Option, Some, None, AllPairs, Contains, ◌⊎◌, refl, sym, ap, ap₂, ◌∙◌, subst, inl, inr, arith}
use Rattle.std.specs.Option.{IsSome}
use Rattle.std.specs.List.{range_with_len}
use Rattle.std.proofs.lemmas.Bool.{cases_eq, cases_lt}
use Rattle.std.proofs.lemmas.List.{take_more, get_or-take, get_or-set_same, get_or-set_other, get_or_past, get_or_default, length-set, append_assoc, append-nil, ext_get_or, length-append, length-take-le}
use Rattle.std.proofs.lemmas.List.FromFn.{length-range_with_len, get_or-range_with_len}
use Rattle.std.proofs.lemmas.List.Elements.{Contains-append_left, Contains-append_right, Contains-append_cases, Contains-push, Contains-push_cases}
use Rattle.std.proofs.Math.Seq.{take-length, take-append_seam, get_or-append_seam}
use Rattle.ucq_terms.specs.declared.Term.{Term}
use Rattle.ucq_terms.specs.declared.TheConstants.{VARIABLES}
use Rattle.ucq_terms.proofs.Lists.{Contains-first, Contains-cons_cases, Contains-empty}
use Rattle.ucq_terms.proofs.Pairwise.{AllPairs-cons, AllPairs-append}
use Rattle.ucq_terms.proofs.Distinct.{length-distinct_le}
use Rattle.ucq_hom.specs.Space.{image, IsClear}
use Rattle.ucq_hom.specs.Bindings.{Bound, IsKept, Grown, with_binding, without_last, last_bound}

-- Images after a write.
pub image_none : {o : Option Term} → o ≡ None → IsSome o → ⊥
image_none {o} e s = let bad : IsSome {T = Term} None = subst (λ (x : Option Term). IsSome x) e s in cc

pub some_or_none : (o : Option Term) → IsSome o ⊎ (o ≡ None)
some_or_none None = inr refl
some_or_none (Some t) = inl refl

pub image_below : (xs : List (Option Term)) (v : ℕ) → IsSome (image xs v) → v < length xs
image_below xs v s = elim (cases_lt v (length xs)) [ inl l ↦ l | inr l ↦ absurd (image_none (get_or_past xs v None l) s) ]

pub image_freed : (xs : List (Option Term)) (v : ℕ) → image (set xs v None) v ≡ None
image_freed xs v = elim (cases_lt v (length xs)) [
  | inl l ↦ get_or-set_same xs v None None l
  | inr l ↦ get_or_past (set xs v None) v None (omega (arith, length-set xs v None))
]

pub image_other : (xs : List (Option Term)) (v w : ℕ) (x : Option Term) → w ≢ v → image (set xs v x) w ≡ image xs w
image_other xs v w x n = get_or-set_other xs v w x None n

-- The last element of a list, and those before it.
pub ends : {X : Type 0} (xs : List X) (d : X) → 0 < length xs → xs ≡ take (length xs - 1) xs ++ get_or xs (length xs - 1) d ∷ []
ends xs d l =
    let less : length xs - 1 < length xs = omega arith in
    let one : length xs ≡ length xs - 1 + 1 = omega arith in
    sym (take-length xs) ∙ (ap (λ n. take n xs) one ∙ take_more xs (length xs - 1) d less)

AllPairs-front : {X : Type 0} (R : X → X → Type 0) (xs : List X) (n : ℕ) → n ≤ length xs → AllPairs R xs → AllPairs R (take n xs)
AllPairs-front {X} R xs n l h = λ i j d a b.
    let m : length (take n xs) ≡ n = length-take-le n xs l in
    let p : i < n = omega arith in
    let q : j < n = omega arith in
    subst (λ (x : X). R x (get_or (take n xs) j d)) (sym (get_or-take n xs i d p))
    (subst (λ (y : X). R (get_or xs i d) y) (sym (get_or-take n xs j d q)) (h i j d a (omega arith)))

-- The trail keeps telling what is bound.
pub IsKept-bind : (b : Bound) (v : ℕ) (t : Term) → v < VARIABLES → image b.images v ≡ None → IsKept b → IsKept (with_binding b v t)
IsKept-bind b v t l e k =
    let size : length b.images ≡ VARIABLES = k.room in
    let here : image (set b.images v (Some t)) v ≡ Some t = get_or-set_same b.images v (Some t) None (omega arith) in
    let off : (w : ℕ) → Contains b.trail w → w ≢ v = λ w i q. image_none e (subst (λ (x : ℕ). IsSome (image b.images x)) q (k.bound w i)) in
    record {
      room = length-set b.images v (Some t) ∙ k.room;
      bound =
          λ w i. elim (Contains-push_cases b.trail v w i) [
            | inl j ↦ subst (λ (x : Option Term). IsSome x) (sym (image_other b.images v w (Some t) (off w j))) (k.bound w j)
            | inr q ↦ subst (λ (x : ℕ). IsSome (image (set b.images v (Some t)) x)) q (subst (λ (x : Option Term). IsSome x) (sym here) refl)
          ];
      on_trail =
          λ w s. elim (cases_eq w v) [
            | inl q ↦ subst (λ (x : ℕ). Contains (b.trail ++ v ∷ []) x) (sym q) (Contains-push b.trail v)
            | inr n ↦
                Contains-append_left b.trail (v ∷ []) w (k.on_trail w (subst (λ (x : Option Term). IsSome x) (image_other b.images v w (Some t) n) s))
          ];
      once =
          AllPairs-append (λ (x y : ℕ). x ≢ y) b.trail (v ∷ []) k.once (λ i j d a c. absurd (omega arith))
          (λ x y i j q. elim (Contains-cons_cases v [] y j) [ inl r ↦ off x i (q ∙ sym r) | inr c ↦ Contains-empty y c ]);
    }

pub IsKept-free : (b : Bound) → 0 < length b.trail → IsKept b → IsKept (without_last b)
IsKept-free b l k =
    let v = last_bound b in
    let front = take (length b.trail - 1) b.trail in
    let split : b.trail ≡ front ++ v ∷ [] = ends b.trail 0 l in
    let last_off : (w : ℕ) → Contains front w → w ≢ v = λ w i q. apart_from_last b.trail w l k.once i q in
    record {
      room = length-set b.images v None ∙ k.room;
      bound = λ w i. subst (λ (x : Option Term). IsSome x) (sym (image_other b.images v w None (last_off w i)))
          (k.bound w (subst (λ (x : List ℕ). Contains x w) (sym split) (Contains-append_left front (v ∷ []) w i)));
      on_trail =
          λ w s. elim (cases_eq w v) [
            | inl q ↦ absurd (image_none (image_freed b.images v) (subst (λ (x : ℕ). IsSome (image (set b.images v None) x)) q s))
            | inr n ↦
                elim (Contains-push_cases front v w (subst (λ (x : List ℕ). Contains x w) split (k.on_trail w (subst (λ (x : Option Term). IsSome x) (image_other b.images v w None n) s)))) [
                  | inl i ↦ i
                  | inr q ↦ absurd (n (sym q))
                ]
          ];
      once = AllPairs-front (λ (x y : ℕ). x ≢ y) b.trail (length b.trail - 1) (omega arith) k.once;
    }
  where
    apart_from_last : (xs : List ℕ) (w : ℕ) → 0 < length xs → AllPairs (λ (x y : ℕ). x ≢ y) xs → Contains (take (length xs - 1) xs) w → w ≡ get_or xs (length xs - 1) 0 → ⊥
    apart_from_last xs w l h (i, m, e) q =
        let less : length xs - 1 ≤ length xs = omega arith in
        let size : length (take (length xs - 1) xs) ≡ length xs - 1 = length-take-le (length xs - 1) xs less in
        let p : i < length xs - 1 = omega arith in
        let at : get_or xs i w ≡ w = sym (get_or-take (length xs - 1) xs i w p) ∙ e in
        let same : get_or xs (length xs - 1) w ≡ get_or xs (length xs - 1) 0 = get_or_default xs (length xs - 1) w 0 (omega arith) in
        h i (length xs - 1) w p (omega arith) (at ∙ (q ∙ sym same))

-- there is room on the trail for a free variable
pub trail_room : (b : Bound) (v n : ℕ) → n ≡ VARIABLES → v < n → image b.images v ≡ None → IsKept b → length b.trail < n
trail_room b v n m l e k =
    let some : (w : ℕ) → Contains b.trail w → w ≢ v = λ w i q. image_none e (subst (λ (x : ℕ). IsSome (image b.images x)) q (k.bound w i)) in
    let size : length b.images ≡ n = k.room ∙ sym m in
    let within : (w : ℕ) → w < n → Contains (range_with_len 0 n) w = λ w p. (w, omega (arith, length-range_with_len 0 n), get_or-range_with_len 0 n w w p ∙ (let z : 0 + w ≡ w = omega arith in z)) in
    let le : length (v ∷ b.trail) ≤ length (range_with_len 0 n) =
    length-distinct_le (v ∷ b.trail) (range_with_len 0 n) (AllPairs-cons (λ (x y : ℕ). x ≢ y) v b.trail (λ y i q. some y i (sym q)) k.once)
    (λ x i. elim (Contains-cons_cases v b.trail x i) [
      | inl q ↦ within x (subst (λ (y : ℕ). y < n) q l)
      | inr j ↦ within x (let s : x < length b.images = image_below b.images x (k.bound x j) in omega arith)
    ]) in
    omega (arith, length-range_with_len 0 n)

-- How bindings grow.
pub bound_path : (a b : Bound) → a.images ≡ b.images → a.trail ≡ b.trail → a ≡ b
bound_path a b p q = λ i. record { images = p i; trail = q i }

pub Grown-refl : (b : Bound) → Grown b b
Grown-refl b = record {
  added = [];
  room = refl;
  trail = sym (append-nil b.trail);
  fresh = λ v i. absurd (Contains-empty v i);
  others = λ v n. refl;
}

pub Grown-bind : (b : Bound) (v : ℕ) (t : Term) → image b.images v ≡ None → Grown b (with_binding b v t)
Grown-bind b v t e = record {
  added = v ∷ [];
  room = length-set b.images v (Some t);
  trail = refl;
  fresh = λ w i. elim (Contains-cons_cases v [] w i) [
    | inl q ↦ subst (λ (x : ℕ). image b.images x ≡ None) q e
    | inr c ↦ absurd (Contains-empty w c)
  ];
  others = λ w n. image_other b.images v w (Some t) (λ q. n (subst (λ (x : ℕ). Contains (v ∷ []) x) (sym q) (Contains-first v [])));
}

-- what was bound before stays bound to it
pub Grown-kept : (a b : Bound) (v : ℕ) (t : Term) → Grown a b → image a.images v ≡ Some t → image b.images v ≡ Some t
Grown-kept a b v t g e = g.others v (λ i. let f : None ≡ Some t = sym (g.fresh v i) ∙ e in cc) ∙ e

pub Grown-trans : (a b c : Bound) → Grown a b → Grown b c → Grown a c
Grown-trans a b c g h = record {
  added = g.added ++ h.added;
  room = h.room ∙ g.room;
  trail = h.trail ∙ (ap (λ (x : List ℕ). x ++ h.added) g.trail ∙ append_assoc a.trail g.added h.added);
  fresh = λ v i. elim (Contains-append_cases g.added h.added v i) [
    | inl j ↦ g.fresh v j
    | inr j ↦
        elim (some_or_none (image a.images v)) [
          | inr e ↦ e
          | inl s ↦ absurd (some_kept v (image a.images v) s refl (h.fresh v j))
        ]
  ];
  others = λ v n. h.others v (λ i. n (Contains-append_right g.added h.added v i)) ∙ g.others v (λ i. n (Contains-append_left g.added h.added v i));
}
  where
    some_kept : (v : ℕ) (o : Option Term) → IsSome o → image a.images v ≡ o → image b.images v ≡ None → ⊥
    some_kept v None s e f = cc
    some_kept v (Some t) s e f = let k : image b.images v ≡ Some t = Grown-kept a b v t g e in cc

-- Freeing the last variable goes back along the trail, to where it started.
pub Grown-free : (a b : Bound) → Grown a b → length a.trail < length b.trail → Grown a (without_last b)
Grown-free a b g l =
    let size : length b.trail ≡ length a.trail + length g.added = ap length g.trail ∙ length-append a.trail g.added in
    let more : 0 < length g.added = omega arith in
    let v = get_or g.added (length g.added - 1) 0 in
    let front = take (length g.added - 1) g.added in
    let split : g.added ≡ front ++ v ∷ [] = ends g.added 0 more in
    let whole : b.trail ≡ (a.trail ++ front) ++ v ∷ [] = g.trail ∙ (ap (λ (x : List ℕ). a.trail ++ x) split ∙ sym (append_assoc a.trail front (v ∷ []))) in
    let long : length b.trail ≡ length (a.trail ++ front) + 1 = ap length whole ∙ length-append (a.trail ++ front) (v ∷ []) in
    let place : length b.trail - 1 ≡ length (a.trail ++ front) = omega arith in
    let last : last_bound b ≡ v = ap₂ (λ (x : List ℕ) (n : ℕ). get_or x n 0) whole place ∙ get_or-append_seam (a.trail ++ front) v [] 0 in
    let rest : take (length b.trail - 1) b.trail ≡ a.trail ++ front = ap₂ (λ (n : ℕ) (x : List ℕ). take n x) place whole ∙ take-append_seam (a.trail ++ front) (v ∷ []) in
    record {
      added = front;
      room = length-set b.images (last_bound b) None ∙ g.room;
      trail = rest;
      fresh = λ w i. g.fresh w (subst (λ (x : List ℕ). Contains x w) (sym split) (Contains-append_left front (v ∷ []) w i));
      others =
          λ w n. subst (λ (x : ℕ). image (set b.images x None) w ≡ image a.images w) (sym last) (elim (cases_eq w v) [
            | inl q ↦
                subst (λ (x : ℕ). image (set b.images v None) x ≡ image a.images x) (sym q)
                (image_freed b.images v ∙ sym (g.fresh v (subst (λ (x : List ℕ). Contains x v) (sym split) (Contains-push front v))))
            | inr ne ↦
                image_other b.images v w None ne ∙
                g.others w (λ i. elim (Contains-push_cases front v w (subst (λ (x : List ℕ). Contains x w) split i)) [ inl j ↦ n j | inr q ↦ ne (sym q) ])
          ]);
    }

pub Grown-same : (a b : Bound) → Grown a b → length b.trail ≤ length a.trail → b ≡ a
Grown-same a b g l =
    let size : length b.trail ≡ length a.trail + length g.added = ap length g.trail ∙ length-append a.trail g.added in
    let none : length g.added ≡ 0 = omega arith in
    bound_path b a
    (ext_get_or None b.images a.images g.room (λ v m. g.others v (λ i. let p = i.1 in omega arith)))
    (g.trail ∙ (ap (λ (x : List ℕ). a.trail ++ x) (no_elements g.added none) ∙ append-nil a.trail))
  where
    no_elements : (xs : List ℕ) → length xs ≡ 0 → xs ≡ []
    no_elements [] e = refl
    no_elements (x ∷ xs) e = absurd (omega arith)

-- where nothing is on the trail, nothing is bound
pub IsClear-kept : (b : Bound) → IsKept b → length b.trail ≡ 0 → IsClear b.images
IsClear-kept b k e = record {
  none = λ v. elim (some_or_none (image b.images v)) [ inr n ↦ n | inl s ↦ absurd (let i = k.on_trail v s in let p = i.1 in omega arith) ];
}
