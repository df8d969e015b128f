-- Sets of which others are parts, found in a sorted list.
use Rattle.std.proofs.Common.{◌≡◌, ℕ, zero, suc, ◌+◌, ◌-◌, ◌<◌, ◌≤◌, true, false, List, [], ◌∷◌, ◌++◌, length, take, drop, get_or, map, Contains, Some, slice_get, refl, sym, ap, ◌∙◌, subst, inl, inr, arith, length-drop, leb, leb-true, leb-false, All}
use Rattle.std.specs.Prelude.{◌⊎◌}
use Rattle.std.specs.List.Sorted.{IsNonDecreasingBy, IsPartitionPoint}
use Rattle.std.specs.Ordering.{nat_cmp, ordering_then}
use Rattle.std.specs.declared.cmp.Ordering.{Ordering}
use Rattle.std.specs.declared.cmp.Ordering.TheVariants.{Less, Equal, Greater}
use Rattle.std.specs.Cmp.{nat_cmp_is}
use Rattle.std.specs.Cmp.Lexicographic.{slice_cmp}
use Rattle.std.proofs.lemmas.List.{get_or-map, get_or-drop, get_or-take, length-map, length-take, drop-map, map-append, take_more}
use Rattle.std.proofs.Math.Seq.{take-length}
use Rattle.std.proofs.lemmas.List.Elements.{All-contains, Contains-push, Contains-push_cases, Contains-append_left}
use Rattle.std.proofs.lemmas.Option.{same_Some, none-some, slice_get_within}
use Rattle.std.proofs.lemmas.Map.Keys.{Less-from_sorted}
use Rattle.ucq_terms.proofs.Lists.{All-from_contains, Contains-map, Contains-from_map, Contains-first, Contains-cons_cases, Contains-empty}
use Rattle.ucq_bans.specs.inner.Parts.{AreSorted, AreSortedBehind, AreBeginning, AreMinimalBefore, IsCutAt, IsSubsequence, SomePart, key_of}
use Rattle.ucq_bans.proofs.Sorted.{below}
use Rattle.ucq_bans.proofs.Sublists.{Contains-take, Contains-drop, Contains-parts, sorted_nil, sorted_push, sorted_drop, sorted_take, sorted_by_other}

-- ---- keys

-- the place at the depth is the first one behind it
pub behind_at : (set : List ℕ) (depth place : ℕ) → slice_get set depth ≡ Some place → drop depth set ≡ place ∷ drop (suc depth) set
behind_at [] depth place e = absurd (none-some place e)
behind_at (x ∷ xs) zero place e = ap (λ (y : ℕ). y ∷ xs) (same_Some x place e)
behind_at (x ∷ xs) (suc depth) place e = behind_at xs depth place e

pub key_at : (set : List ℕ) (depth place : ℕ) → slice_get set depth ≡ Some place → key_of (drop depth set) ≡ suc place
key_at set depth place e = ap key_of (behind_at set depth place e)

pub at_key : (set : List ℕ) (depth place : ℕ) → key_of (drop depth set) ≡ suc place → slice_get set depth ≡ Some place
at_key [] zero place e = absurd (omega (arith, e))
at_key [] (suc depth) place e = absurd (omega (arith, e))
at_key (x ∷ xs) zero place e = let same : x ≡ place = omega (arith, e) in ap Some same
at_key (x ∷ xs) (suc depth) place e = at_key xs depth place e

tied : (x : ℕ) → nat_cmp x x ≡ Equal
tied x = sym (nat_cmp_is x x Equal refl)

-- a list that is less has no greater key
key_rises : (a b : List ℕ) → slice_cmp nat_cmp a b ≡ Less → key_of a ≤ key_of b
key_rises [] b e = omega arith
key_rises (x ∷ xs) [] e = absurd cc
key_rises (x ∷ xs) (y ∷ ys) e = elim (apart x y) [
  | inl l ↦ omega (arith, l)
  | inr g ↦ let greater : nat_cmp x y ≡ Greater = sym (nat_cmp_is x y Greater g) in
      let bad : Greater ≡ Less = sym (ap (λ (o : Ordering). ordering_then o (slice_cmp nat_cmp xs ys)) greater) ∙ e in absurd cc
]
  where
    apart : (x y : ℕ) → (x ≤ y) ⊎ (y < x)
    apart zero y = inl (omega arith)
    apart (suc x) zero = inr (omega arith)
    apart (suc x) (suc y) = elim (apart x y) [ inl l ↦ inl (omega (arith, l)) | inr g ↦ inr (omega (arith, g)) ]

-- the lists behind one more place, where that is the same
same_head : (place : ℕ) (a b : List ℕ) → slice_cmp nat_cmp (place ∷ a) (place ∷ b) ≡ Less → slice_cmp nat_cmp a b ≡ Less
same_head place a b e = sym (ap (λ (o : Ordering). ordering_then o (slice_cmp nat_cmp a b)) (tied place)) ∙ e

-- the keys don't fall along lists that are sorted behind the depth
pub keys_rise : (depth : ℕ) (sets : List (List ℕ)) → AreSortedBehind depth sets → (i j : ℕ) (d : List ℕ) → i ≤ j → j < length sets →
    key_of (drop depth (get_or sets i d)) ≤ key_of (drop depth (get_or sets j d))
keys_rise depth sets s i j d l within = elim (less_or_same i j l) [
  | inl less ↦
      let first : i < length sets = omega (arith, less, within) in
      let size : length (map (drop depth) sets) ≡ length sets = length-map sets (drop depth) in
      let order = Less-from_sorted (slice_cmp nat_cmp) (map (drop depth) sets) i j (drop depth d) s.sorted less (omega (arith, size, within)) in
      key_rises _ _ (subst (λ (x : List ℕ). slice_cmp nat_cmp x (drop depth (get_or sets j d)) ≡ Less) (get_or-map (drop depth) sets i d (drop depth d) first)
      (subst (λ (y : List ℕ). slice_cmp nat_cmp (get_or (map (drop depth) sets) i (drop depth d)) y ≡ Less) (get_or-map (drop depth) sets j d (drop depth d) within) order))
  | inr e ↦ subst (λ (k : ℕ). key_of (drop depth (get_or sets i d)) ≤ key_of (drop depth (get_or sets k d))) e (omega arith)
]
  where
    less_or_same : (i j : ℕ) → i ≤ j → (i < j) ⊎ (i ≡ j)
    less_or_same zero zero l = inr refl
    less_or_same zero (suc j) l = inl (omega arith)
    less_or_same (suc i) zero l = absurd (omega (arith, l))
    less_or_same (suc i) (suc j) l = elim (less_or_same i j (omega (arith, l))) [ inl m ↦ inl (omega (arith, m)) | inr e ↦ inr (ap suc e) ]

-- ---- sets with one place at the depth

pub AreSortedBehind-drop : (depth n : ℕ) (sets : List (List ℕ)) → AreSortedBehind depth sets → AreSortedBehind depth (drop n sets)
AreSortedBehind-drop depth n sets s = record {
  long = All-from_contains (λ (set : List ℕ). depth ≤ length set) (drop n sets) (λ set i. All-contains (λ (set : List ℕ). depth ≤ length set) sets set s.long (Contains-drop n sets set i));
  sorted = subst (λ (xs : List (List ℕ)). AreSorted xs) (drop-map (drop depth) n sets) (sorted_drop (slice_cmp nat_cmp) n (map (drop depth) sets) s.sorted);
}

take-map : {X Y : Type 0} (f : X → Y) (n : ℕ) (xs : List X) → take n (map f xs) ≡ map f (take n xs)
take-map f zero xs = refl
take-map f (suc n) [] = refl
take-map f (suc n) (x ∷ xs) = ap (λ ys. f x ∷ ys) (take-map f n xs)

module _ (depth place : ℕ) (sets : List (List ℕ)) (start end : ℕ) (s : AreSortedBehind depth sets) (one : IsCutAt depth place sets start)
    (two : IsCutAt depth (place + 1) (drop start sets) end) where
  in_cut : (set : List ℕ) → Contains (take end (drop start sets)) set → slice_get set depth ≡ Some place
  in_cut set i =
      let low = All-contains (λ (x : List ℕ). key_of (drop depth x) ≤ place + 1) (take end (drop start sets)) set two.before i in
      let high = All-contains (λ (x : List ℕ). place < key_of (drop depth x)) (drop start sets) set one.behind (Contains-take end (drop start sets) set i) in
      at_key set depth place (omega (arith, low, high))

  cut_has : (set : List ℕ) → Contains sets set → slice_get set depth ≡ Some place → Contains (take end (drop start sets)) set
  cut_has set i e =
      let key = key_at set depth place e in
      elim (Contains-parts start sets set i) [
        | inl j ↦ let low = All-contains (λ (x : List ℕ). key_of (drop depth x) ≤ place) (take start sets) set one.before j in absurd (omega (arith, low, key))
        | inr j ↦ elim (Contains-parts end (drop start sets) set j) [
          | inl k ↦ k
          | inr k ↦ let high = All-contains (λ (x : List ℕ). place + 1 < key_of (drop depth x)) (drop end (drop start sets)) set two.behind k in absurd (omega (arith, high, key))
        ]
      ]

  pub AreBeginning-cut : AreBeginning depth place sets (take end (drop start sets))
  AreBeginning-cut =
      let rest = AreSortedBehind-drop depth start sets s in
      let sorted : AreSorted (map (drop depth) (take end (drop start sets))) =
      subst (λ (xs : List (List ℕ)). AreSorted xs) (take-map (drop depth) end (drop start sets)) (sorted_take (slice_cmp nat_cmp) end (map (drop depth) (drop start sets)) rest.sorted) in
      record {
        each = λ set. (
          λ i. (Contains-drop start sets set (Contains-take end (drop start sets) set i), in_cut set i),
          λ p. cut_has set p.0 p.1,
        );
        sorted = record {
          long = All-from_contains (λ (set : List ℕ). depth + 1 ≤ length set) (take end (drop start sets)) (λ set i. let l = slice_get_within set depth place (in_cut set i) in omega (arith, l));
          sorted = sorted_by_other (slice_cmp nat_cmp) (slice_cmp nat_cmp) (drop depth) (drop (depth + 1)) (take end (drop start sets)) (λ x y i j e.
              let next : depth + 1 ≡ suc depth = omega arith in
              let a : drop depth x ≡ place ∷ drop (depth + 1) x = behind_at x depth place (in_cut x i) ∙ ap (λ (n : ℕ). place ∷ drop n x) (sym next) in
              let b : drop depth y ≡ place ∷ drop (depth + 1) y = behind_at y depth place (in_cut y j) ∙ ap (λ (n : ℕ). place ∷ drop n y) (sym next) in
              same_head place (drop (depth + 1) x) (drop (depth + 1) y)
              (subst (λ (u : List ℕ). slice_cmp nat_cmp u (place ∷ drop (depth + 1) y) ≡ Less) a
              (subst (λ (u : List ℕ). slice_cmp nat_cmp (drop depth x) u ≡ Less) b e))) sorted;
        };
      }

-- ---- parts

-- a subsequence of the places behind the first is one of all
IsSubsequence-more : (xs : List ℕ) (y : ℕ) (ys : List ℕ) → IsSubsequence xs ys → IsSubsequence xs (y ∷ ys)
IsSubsequence-more [] y ys h = tt
IsSubsequence-more (x ∷ xs) y ys h = inr h

module _ (depth : ℕ) (place : ℕ) (rest : List ℕ) (size : ℕ) (sets beginning : List (List ℕ)) (b : AreBeginning depth place sets beginning) where
  pub SomePart-with : SomePart (depth + 1) rest size beginning → SomePart depth (place ∷ rest) size sets
  SomePart-with p =
      let among = (b.each p.part).0 p.among in
      let next : depth + 1 ≡ suc depth = omega arith in
      let split : drop depth p.part ≡ place ∷ drop (depth + 1) p.part = behind_at p.part depth place among.1 ∙ ap (λ (n : ℕ). place ∷ drop n p.part) (sym next) in
      record {
        part = p.part;
        among = among.0;
        smaller = p.smaller;
        left = subst (λ (xs : List ℕ). IsSubsequence xs (place ∷ rest)) (sym split) (inl (refl, p.left));
      }

  pub SomePart-without : SomePart depth rest size sets → SomePart depth (place ∷ rest) size sets
  SomePart-without p = record { part = p.part; among = p.among; smaller = p.smaller; left = IsSubsequence-more (drop depth p.part) place rest p.left }

  pub SomePart-cases : SomePart depth (place ∷ rest) size sets → SomePart (depth + 1) rest size beginning ⊎ SomePart depth rest size sets
  SomePart-cases p = go (drop depth p.part) refl p.left
    where
      go : (tail : List ℕ) → drop depth p.part ≡ tail → IsSubsequence tail (place ∷ rest) → SomePart (depth + 1) rest size beginning ⊎ SomePart depth rest size sets
      go [] e h = inr (record { part = p.part; among = p.among; smaller = p.smaller; left = subst (λ (xs : List ℕ). IsSubsequence xs rest) (sym e) tt })
      go (x ∷ xs) e (inr h) = inr (record { part = p.part; among = p.among; smaller = p.smaller; left = subst (λ (ys : List ℕ). IsSubsequence ys rest) (sym e) h })
      go (x ∷ xs) e (inl (same, h)) =
          let here : slice_get p.part depth ≡ Some place = at_key p.part depth place (ap key_of e ∙ ap suc same) in
          let next : depth + 1 ≡ suc depth = omega arith in
          let tail : place ∷ drop (depth + 1) p.part ≡ x ∷ xs = ap (λ (n : ℕ). place ∷ drop n p.part) next ∙ (sym (behind_at p.part depth place here) ∙ e) in
          let rest_is : drop (depth + 1) p.part ≡ xs = cc in
          inl (record { part = p.part; among = (b.each p.part).1 (p.among, here); smaller = p.smaller; left = subst (λ (ys : List ℕ). IsSubsequence ys rest) (sym rest_is) h })

-- where no places are left, a part is the list that ends at the depth, which is the first
pub none_without_places : (depth size : ℕ) (first : List ℕ) (others : List (List ℕ)) → AreSortedBehind depth (first ∷ others) → ¬ (length first ≡ depth) →
    ¬ SomePart depth [] size (first ∷ others)
none_without_places depth size first others s longer p = go (drop depth p.part) refl p.left
  where
    not_less : (x : List ℕ) → slice_cmp nat_cmp x [] ≡ Less → ⊥
    not_less [] e = cc
    not_less (y ∷ ys) e = cc

    ended : drop depth p.part ≡ [] → ⊥
    ended e = elim (Contains-cons_cases first others p.part p.among) [
      | inl same ↦
          let long = All-contains (λ (set : List ℕ). depth ≤ length set) (first ∷ others) first s.long (Contains-first first others) in
          let size : length (drop depth p.part) ≡ length p.part - depth = length-drop depth p.part in
          let none : length (drop depth p.part) ≡ 0 = ap (λ (xs : List ℕ). length xs) e in
          let here : length first ≡ length p.part = ap (λ (xs : List ℕ). length xs) same in
          longer (omega (arith, long, size, none, here))
      | inr later ↦ not_less (drop depth first) (subst (λ (x : List ℕ). slice_cmp nat_cmp (drop depth first) x ≡ Less) e
          (below (slice_cmp nat_cmp) (drop depth first) (map (drop depth) others) s.sorted (drop depth p.part) (Contains-map (drop depth) others p.part later)))
    ]

    go : (tail : List ℕ) → drop depth p.part ≡ tail → IsSubsequence tail [] → ⊥
    go [] e h = ended e
    go (x ∷ xs) e h = h

-- a list of at least so many places is no part
pub none_as_small : (depth size : ℕ) (places : List ℕ) (sets : List (List ℕ)) → AreSortedBehind depth sets → size ≤ depth → ¬ SomePart depth places size sets
none_as_small depth size places sets s small p =
    let long = All-contains (λ (set : List ℕ). depth ≤ length set) sets p.part s.long p.among in
    let less = p.smaller in
    omega (arith, long, less, small)

-- ---- sets of which none is a part

-- one more set, of which none is a part, and one of which some set is
pub AreMinimalBefore-more : (sets done minimal : List (List ℕ)) (set : List ℕ) → ((x : List ℕ) → Contains done x → slice_cmp nat_cmp x set ≡ Less) →
    ¬ SomePart 0 set (length set) sets → AreMinimalBefore sets done minimal → AreMinimalBefore sets (done ++ set ∷ []) (minimal ++ set ∷ [])
AreMinimalBefore-more sets done minimal set less none m = record {
  each = λ x. (
    λ i. elim (Contains-push_cases minimal set x i) [
      | inl j ↦ let (k, n) = (m.each x).0 j in (Contains-append_left done (set ∷ []) x k, n)
      | inr e ↦ subst (λ (y : List ℕ). Contains (done ++ set ∷ []) y × ¬ SomePart 0 y (length y) sets) e (Contains-push done set, none)
    ],
    λ p. elim (Contains-push_cases done set x p.0) [
      | inl j ↦ Contains-append_left minimal (set ∷ []) x ((m.each x).1 (j, p.1))
      | inr e ↦ subst (λ (y : List ℕ). Contains (minimal ++ set ∷ []) y) e (Contains-push minimal set)
    ],
  );
  sorted = sorted_push (slice_cmp nat_cmp) minimal set (λ x i. less x ((m.each x).0 i).0) m.sorted;
}

pub AreMinimalBefore-same : (sets done minimal : List (List ℕ)) (set : List ℕ) → SomePart 0 set (length set) sets → AreMinimalBefore sets done minimal →
    AreMinimalBefore sets (done ++ set ∷ []) minimal
AreMinimalBefore-same sets done minimal set some m = record {
  each = λ x. (
    λ i. let (k, n) = (m.each x).0 i in (Contains-append_left done (set ∷ []) x k, n),
    λ p. elim (Contains-push_cases done set x p.0) [
      | inl j ↦ (m.each x).1 (j, p.1)
      | inr e ↦ absurd (p.1 (subst (λ (y : List ℕ). SomePart 0 y (length y) sets) e some))
    ],
  );
  sorted = m.sorted;
}

pub AreMinimalBefore-none : (sets : List (List ℕ)) → AreMinimalBefore sets [] []
AreMinimalBefore-none sets = record { each = λ x. (λ i. absurd (Contains-empty x i), λ p. absurd (Contains-empty x p.0)); sorted = sorted_nil (slice_cmp nat_cmp) }

-- ---- as the search reads

-- a slice behind a place, and the first elements of it
pub rest_is : {X : Type 0} (f : X → List ℕ) (n : ℕ) (xs : List X) → map f (take (length xs - n) (drop n xs)) ≡ drop n (map f xs)
rest_is f n xs =
    let size : length xs - n ≡ length (drop n xs) = sym (length-drop n xs) in
    ap (map f) (ap (λ (k : ℕ). take k (drop n xs)) size ∙ take-length (drop n xs)) ∙ sym (drop-map f n xs)

pub cut_is : {X : Type 0} (f : X → List ℕ) (n end : ℕ) (xs : List X) → map f (take end (take (length xs - n) (drop n xs))) ≡ take end (drop n (map f xs))
cut_is f n end xs = sym (take-map f end (take (length xs - n) (drop n xs))) ∙ ap (λ (ys : List (List ℕ)). take end ys) (rest_is f n xs)

module _ {X : Type 0} (f : X → List ℕ) (depth : ℕ) (xs : List X) where
  pub keys_rise_of : AreSortedBehind depth (map f xs) → IsNonDecreasingBy (λ x. key_of (drop depth (f x))) xs
  keys_rise_of s = λ i j d l within.
      let size : length (map f xs) ≡ length xs = length-map xs f in
      let first : i < length xs = omega (arith, l, within) in
      let rise = keys_rise depth (map f xs) s i j (f d) l (omega (arith, size, within)) in
      subst (λ (a : List ℕ). key_of (drop depth a) ≤ key_of (drop depth (f (get_or xs j d)))) (get_or-map f xs i d (f d) first)
      (subst (λ (b : List ℕ). key_of (drop depth (get_or (map f xs) i (f d))) ≤ key_of (drop depth b)) (get_or-map f xs j d (f d) within) rise)

  pub IsCutAt-point : (end count : ℕ) →
      IsPartitionPoint (λ (x : X). leb (key_of (drop depth (f x))) end ≡ true) (λ (x : X). leb (key_of (drop depth (f x))) end ≡ false) xs count → IsCutAt depth end (map f xs) count
  IsCutAt-point end count point = record {
    before = All-from_contains (λ (set : List ℕ). key_of (drop depth set) ≤ end) (take count (map f xs)) (λ set i.
        let (x, (k, l, at), e) = Contains-from_map f (take count xs) set (subst (λ (ys : List (List ℕ)). Contains ys set) (take-map f count xs) i) in
        let size = length-take count xs in
        let read : get_or xs k x ≡ x = sym (get_or-take count xs k x (omega (arith, l, size))) ∙ at in
        subst (λ (s : List ℕ). key_of (drop depth s) ≤ end) e
        (leb-true (key_of (drop depth (f x))) end (ap (λ (y : X). leb (key_of (drop depth (f y))) end) (sym read) ∙ point.0 k x (omega arith) (omega (arith, l, size)))));
    behind = All-from_contains (λ (set : List ℕ). end < key_of (drop depth set)) (drop count (map f xs)) (λ set i.
        let (x, (k, l, at), e) = Contains-from_map f (drop count xs) set (subst (λ (ys : List (List ℕ)). Contains ys set) (drop-map f count xs) i) in
        let size : length (drop count xs) ≡ length xs - count = length-drop count xs in
        let read : get_or xs (count + k) x ≡ x = sym (get_or-drop count xs k x) ∙ at in
        subst (λ (s : List ℕ). end < key_of (drop depth s)) e
        (leb-false (key_of (drop depth (f x))) end (ap (λ (y : X). leb (key_of (drop depth (f y))) end) (sym read) ∙ point.1 (count + k) x (omega arith) (omega (arith, l, size)))));
  }

-- the search at the end of the places
pub none_at_end : {X : Type 0} (f : X → List ℕ) (xs : List X) (depth size : ℕ) (places : List ℕ) (first : X) → AreSortedBehind depth (map f xs) → places ≡ [] →
    Some first ≡ slice_get xs 0 → ¬ (length (f first) ≡ depth) → ¬ SomePart depth places size (map f xs)
none_at_end f [] depth size places first s none at longer p = none-some first (sym at)
none_at_end f (x ∷ xs) depth size places first s none at longer p =
    let same : first ≡ x = same_Some first x at in
    none_without_places depth size (f x) (map f xs) s (λ l. longer (ap (λ y. length (f y)) same ∙ l))
    (subst (λ (ps : List ℕ). SomePart depth ps size (f x ∷ map f xs)) none p)

behind_none : (sets : List (List ℕ)) → map (drop 0) sets ≡ sets
behind_none [] = refl
behind_none (x ∷ xs) = ap (λ (ys : List (List ℕ)). x ∷ ys) (behind_none xs)

pub AreSortedBehind-none : (sets : List (List ℕ)) → AreSorted sets → AreSortedBehind 0 sets
AreSortedBehind-none sets s = record {
  long = All-from_contains (λ (set : List ℕ). 0 ≤ length set) sets (λ set i. omega arith);
  sorted = subst (λ (xs : List (List ℕ)). AreSorted xs) (sym (behind_none sets)) s;
}

pub SomePart-as : (places ps : List ℕ) (n m : ℕ) (sets : List (List ℕ)) → places ≡ ps → n ≡ m → SomePart 0 places n sets → SomePart 0 ps m sets
SomePart-as places ps n m sets e f p = subst (λ (xs : List ℕ). SomePart 0 xs m sets) e (subst (λ (k : ℕ). SomePart 0 places k sets) f p)

-- the loop over the sets
module _ {X : Type 0} (f : X → List ℕ) (xs : List X) (i : ℕ) (x : X) (minimal : List (List ℕ)) (sorted : AreSorted (map f xs)) (within : i < length xs) (is : x ≡ get_or xs i x) where
  next_is : map f (take (i + 1) xs) ≡ map f (take i xs) ++ f x ∷ []
  next_is = ap (map f) (take_more xs i x within) ∙ (map-append f (take i xs) (get_or xs i x ∷ []) ∙ ap (λ (y : X). map f (take i xs) ++ f y ∷ []) (sym is))

  less_before : (y : List ℕ) → Contains (map f (take i xs)) y → slice_cmp nat_cmp y (f x) ≡ Less
  less_before y c =
      let ys = map f xs in
      let (k, l, at) = subst (λ (zs : List (List ℕ)). Contains zs y) (sym (take-map f i xs)) c in
      let size = length-take i ys in
      let count : length ys ≡ length xs = length-map xs f in
      let before : k < i = omega (arith, l, size) in
      let low : get_or ys k y ≡ y = sym (get_or-take i ys k y before) ∙ at in
      let high : get_or ys i y ≡ f x = get_or-map f xs i x y within ∙ ap f (sym is) in
      subst (λ (u : List ℕ). slice_cmp nat_cmp u (f x) ≡ Less) low
      (subst (λ (v : List ℕ). slice_cmp nat_cmp (get_or ys k y) v ≡ Less) high
      (Less-from_sorted (slice_cmp nat_cmp) ys k i y sorted before (omega (arith, within, count))))

  pub minimal_more : ¬ SomePart 0 (f x) (length (f x)) (map f xs) → AreMinimalBefore (map f xs) (map f (take i xs)) minimal →
      AreMinimalBefore (map f xs) (map f (take (i + 1) xs)) (minimal ++ f x ∷ [])
  minimal_more none m = subst (λ (done : List (List ℕ)). AreMinimalBefore (map f xs) done (minimal ++ f x ∷ [])) (sym next_is)
      (AreMinimalBefore-more (map f xs) (map f (take i xs)) minimal (f x) less_before none m)

  pub minimal_same : SomePart 0 (f x) (length (f x)) (map f xs) → AreMinimalBefore (map f xs) (map f (take i xs)) minimal →
      AreMinimalBefore (map f xs) (map f (take (i + 1) xs)) minimal
  minimal_same some m = subst (λ (done : List (List ℕ)). AreMinimalBefore (map f xs) done minimal) (sym next_is)
      (AreMinimalBefore-same (map f xs) (map f (take i xs)) minimal (f x) some m)

-- what holds of all lists holds of the one that is read
pub of_read : {X : Type 0} (P : List ℕ → Type 0) (f : X → List ℕ) (xs : List X) (i : ℕ) (x : X) → All P (map f xs) → i < length xs → x ≡ get_or xs i x → P (f x)
of_read P f xs i x all within is = All-contains P (map f xs) (f x) all (Contains-map f xs x (i, within, sym is))
