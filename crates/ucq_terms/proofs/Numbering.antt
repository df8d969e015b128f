-- Lists that grow by first occurrences: what stands in them stays, at its place.
use Rattle.std.proofs.Common.{◌≡◌, ℕ, suc, ◌+◌, ◌<◌, ◌≤◌, Bool, true, false, cond, not, ◌||◌, List, [], ◌∷◌, ◌++◌, map, fold, length, get_or}
use Rattle.std.proofs.Common.{Contains, refl, sym, ap, ◌∙◌, subst, append_assoc, length-append, arith, ◌⊎◌, inl, inr, ⊎_elim, ◌≢◌}
use Rattle.std.specs.List.{list_any, position_or_len, position}
use Rattle.std.specs.Prelude.{Some, None, nat_lt}
use Rattle.std.proofs.lemmas.List.{append-nil}
use Rattle.std.proofs.lemmas.Bool.{or_cases, false_from_ne_true, or_left, or_right, eq-eqb, ltb-true, ltb-false}
use Rattle.std.proofs.lemmas.List.Folds.{position_or_len_push}
use lib.Dec.{eqb}
use Rattle.std.proofs.lemmas.List.Elements.{Contains-append_left, Contains-append_right, Contains-append_cases}
use Rattle.ucq_terms.specs.Numbering.{first_occurrences}
use Rattle.ucq_terms.proofs.Distinct.{IsDistinct}
use Rattle.ucq_terms.proofs.Equality.{IsEquality, eq_same, eq_refl}
use Rattle.ucq_terms.proofs.Lists.{Contains-first, Contains-rest, Contains-cons_cases, Contains-empty}
use Rattle.ucq_terms.proofs.Pairwise.{AllPairs-cons, AllPairs-append}

-- the list with one more element, which stands last, where it isn't held yet
abbrev pub with_element : {A : Type 0} → (A → A → Bool) → List A → A → List A
with_element eq seen x = cond (list_any (eq x) seen) seen (seen ++ x ∷ [])

-- the same with one element after another
abbrev pub with_elements : {A : Type 0} → (A → A → Bool) → List A → List A → List A
with_elements eq seen xs = fold (with_element eq) seen xs

module _ {A : Type 0} (eq : A → A → Bool) where
  pub with_elements-append : (seen xs ys : List A) → with_elements eq seen (xs ++ ys) ≡ with_elements eq (with_elements eq seen xs) ys
  with_elements-append seen [] ys = refl
  with_elements-append seen (x ∷ xs) ys = with_elements-append (with_element eq seen x) xs ys

  pub first_occurrences-append : (xs ys : List A) → first_occurrences eq (xs ++ ys) ≡ with_elements eq (first_occurrences eq xs) ys
  first_occurrences-append xs ys = with_elements-append [] xs ys

  pub first_occurrences-push : (xs : List A) (x : A) → first_occurrences eq (xs ++ x ∷ []) ≡ with_element eq (first_occurrences eq xs) x
  first_occurrences-push xs x = with_elements-append [] xs (x ∷ [])

  -- what was held stays in front
  pub with_element_keeps : (seen : List A) (x : A) → (more : List A) × (with_element eq seen x ≡ seen ++ more)
  with_element_keeps seen x = go (list_any (eq x) seen)
    where
      go : (b : Bool) → (more : List A) × (cond b seen (seen ++ x ∷ []) ≡ seen ++ more)
      go true = ([], sym (append-nil seen))
      go false = (x ∷ [], refl)

  pub with_elements_keep : (seen xs : List A) → (more : List A) × (with_elements eq seen xs ≡ seen ++ more)
  with_elements_keep seen [] = ([], sym (append-nil seen))
  with_elements_keep seen (x ∷ xs) =
      let (front, e) = with_element_keeps seen x in
      let (back, f) = with_elements_keep (with_element eq seen x) xs in
      (front ++ back, f ∙ (ap (λ l. l ++ back) e ∙ append_assoc seen front back))

  pub first_occurrences_keep : (xs ys : List A) → (more : List A) × (first_occurrences eq (xs ++ ys) ≡ first_occurrences eq xs ++ more)
  first_occurrences_keep xs ys = let (more, e) = with_elements_keep (first_occurrences eq xs) ys in (more, first_occurrences-append xs ys ∙ e)

  pub length-with_element : (seen : List A) (x : A) → length (with_element eq seen x) ≤ length seen + 1
  length-with_element seen x = go (list_any (eq x) seen)
    where
      go : (b : Bool) → length (cond b seen (seen ++ x ∷ [])) ≤ length seen + 1
      go true = omega arith
      go false = omega (arith, length-append seen (x ∷ []))

  pub length-with_elements : (seen xs : List A) → length (with_elements eq seen xs) ≤ length seen + length xs
  length-with_elements seen [] = omega arith
  length-with_elements seen (x ∷ xs) = omega (arith, length-with_elements (with_element eq seen x) xs, length-with_element seen x)

  -- an element that is held keeps its place
  pub position_keeps : (seen more : List A) (x : A) → list_any (eq x) seen ≡ true → position_or_len (eq x) (seen ++ more) ≡ position_or_len (eq x) seen
  position_keeps [] more x h = absurd cc
  position_keeps (y ∷ ys) more x h = go (λ e. position_keeps ys more x e) (eq x y) (or_cases (eq x y) (list_any (eq x) ys) h)
    where
      go : (list_any (eq x) ys ≡ true → position_or_len (eq x) (ys ++ more) ≡ position_or_len (eq x) ys) → (b : Bool) →
          (b ≡ true) ⊎ (list_any (eq x) ys ≡ true) →
          cond (not b) (1 + position_or_len (eq x) (ys ++ more)) 0 ≡ cond (not b) (1 + position_or_len (eq x) ys) 0
      go r true c = refl
      go r false (inl e) = absurd cc
      go r false (inr e) = ap (λ (k : ℕ). 1 + k) (r e)

  pub position_below : (seen : List A) (x : A) → list_any (eq x) seen ≡ true → position_or_len (eq x) seen < length seen
  position_below [] x h = absurd cc
  position_below (y ∷ ys) x h = go (λ e. position_below ys x e) (eq x y) (or_cases (eq x y) (list_any (eq x) ys) h)
    where
      go : (list_any (eq x) ys ≡ true → position_or_len (eq x) ys < length ys) → (b : Bool) → (b ≡ true) ⊎ (list_any (eq x) ys ≡ true) →
          cond (not b) (1 + position_or_len (eq x) ys) 0 < length (y ∷ ys)
      go r true c = omega arith
      go r false (inl e) = absurd cc
      go r false (inr e) = omega (arith, r e)

  -- an element that isn't held has the place behind the last
  pub position_new : (seen : List A) (x : A) → list_any (eq x) seen ≡ false → position_or_len (eq x) seen ≡ length seen
  position_new [] x h = refl
  position_new (y ∷ ys) x h = go (λ e. position_new ys x e) (eq x y) refl
    where
      go : (list_any (eq x) ys ≡ false → position_or_len (eq x) ys ≡ length ys) → (b : Bool) → eq x y ≡ b →
          cond (not b) (1 + position_or_len (eq x) ys) 0 ≡ length (y ∷ ys)
      go r true e = let bad : true ≡ false = sym (or_left (eq x y) (list_any (eq x) ys) e) ∙ h in absurd cc
      go r false e = let k : position_or_len (eq x) ys ≡ length ys = r (sym (ap (λ b. b || list_any (eq x) ys) e) ∙ h) in omega arith

  module _ (same : IsEquality eq) where
    pub Contains-from_any : (xs : List A) (x : A) → list_any (eq x) xs ≡ true → Contains xs x
    Contains-from_any [] x h = absurd cc
    Contains-from_any (y ∷ ys) x h = elim (or_cases (eq x y) (list_any (eq x) ys) h) [
      | inl e ↦ subst (λ z. Contains (y ∷ ys) z) (sym (eq_same eq same x y e)) (Contains-first y ys)
      | inr e ↦ Contains-rest y ys x (Contains-from_any ys x e)
    ]

    pub any_from_contains : (xs : List A) (x : A) → Contains xs x → list_any (eq x) xs ≡ true
    any_from_contains [] x h = absurd (Contains-empty x h)
    any_from_contains (y ∷ ys) x h = elim (Contains-cons_cases y ys x h) [
      | inl e ↦ or_left (eq x y) (list_any (eq x) ys) (subst (λ z. eq x z ≡ true) (sym e) (eq_refl eq same x))
      | inr i ↦ or_right (eq x y) (list_any (eq x) ys) (any_from_contains ys x i)
    ]

    -- the element at its own place
    pub get_or-position : (xs : List A) (x d : A) → Contains xs x → get_or xs (position_or_len (eq x) xs) d ≡ x
    get_or-position [] x d h = absurd (Contains-empty x h)
    get_or-position (y ∷ ys) x d h = go (λ i. get_or-position ys x d i) (eq x y) refl
      where
        go : (Contains ys x → get_or ys (position_or_len (eq x) ys) d ≡ x) → (b : Bool) → eq x y ≡ b →
            get_or (y ∷ ys) (cond (not b) (1 + position_or_len (eq x) ys) 0) d ≡ x
        go r true e = sym (eq_same eq same x y e)
        go r false e = elim (Contains-cons_cases y ys x h) [
          | inl f ↦ let bad : true ≡ false = sym (eq_refl eq same x) ∙ (ap (eq x) (sym f) ∙ e) in absurd cc
          | inr i ↦
              let step : 1 + position_or_len (eq x) ys ≡ suc (position_or_len (eq x) ys) = omega arith in
              ap (λ k. get_or (y ∷ ys) k d) step ∙ r i
        ]

    -- two elements of one place are one
    pub position_same : (xs : List A) (x y : A) → Contains xs x → Contains xs y → position_or_len (eq x) xs ≡ position_or_len (eq y) xs → x ≡ y
    position_same xs x y i j e = sym (get_or-position xs x x i) ∙ (ap (λ k. get_or xs k x) e ∙ get_or-position xs y x j)

    -- The elements of a grown list.
    pub Contains-with_element : (seen : List A) (x : A) → Contains (with_element eq seen x) x
    Contains-with_element seen x = go (list_any (eq x) seen) refl
      where
        go : (b : Bool) → list_any (eq x) seen ≡ b → Contains (cond b seen (seen ++ x ∷ [])) x
        go true e = Contains-from_any seen x e
        go false e = Contains-append_right seen (x ∷ []) x (Contains-first x [])

    pub Contains-with_element_cases : (seen : List A) (x y : A) → Contains (with_element eq seen x) y → Contains seen y ⊎ (x ≡ y)
    Contains-with_element_cases seen x y h = go (list_any (eq x) seen) h
      where
        go : (b : Bool) → Contains (cond b seen (seen ++ x ∷ [])) y → Contains seen y ⊎ (x ≡ y)
        go true i = inl i
        go false i = elim (Contains-append_cases seen (x ∷ []) y i) [
          | inl j ↦ inl j
          | inr j ↦ elim (Contains-cons_cases x [] y j) [ inl e ↦ inr e | inr k ↦ absurd (Contains-empty y k) ]
        ]

  pub Contains-kept : (seen xs : List A) (y : A) → Contains seen y → Contains (with_elements eq seen xs) y
  Contains-kept seen xs y h =
      let (more, e) = with_elements_keep seen xs in subst (λ l. Contains l y) (sym e) (Contains-append_left seen more y h)

  module _ (same : IsEquality eq) where
    pub Contains-with_elements : (seen xs : List A) (y : A) → Contains xs y → Contains (with_elements eq seen xs) y
    Contains-with_elements seen [] y h = absurd (Contains-empty y h)
    Contains-with_elements seen (x ∷ xs) y h = elim (Contains-cons_cases x xs y h) [
      | inl e ↦ Contains-kept (with_element eq seen x) xs y (subst (λ z. Contains (with_element eq seen x) z) e (Contains-with_element same seen x))
      | inr i ↦ Contains-with_elements (with_element eq seen x) xs y i
    ]

    pub Contains-with_elements_cases : (seen xs : List A) (y : A) → Contains (with_elements eq seen xs) y → Contains seen y ⊎ Contains xs y
    Contains-with_elements_cases seen [] y h = inl h
    Contains-with_elements_cases seen (x ∷ xs) y h = elim (Contains-with_elements_cases (with_element eq seen x) xs y h) [
      | inl i ↦ elim (Contains-with_element_cases same seen x y i) [
        | inl j ↦ inl j
        | inr e ↦ inr (subst (λ z. Contains (x ∷ xs) z) e (Contains-first x xs))
      ]
      | inr i ↦ inr (Contains-rest x xs y i)
    ]

    pub Contains-first_occurrences : (xs : List A) (y : A) → Contains xs y → Contains (first_occurrences eq xs) y
    Contains-first_occurrences xs y h = Contains-with_elements [] xs y h

    pub Contains-from_first_occurrences : (xs : List A) (y : A) → Contains (first_occurrences eq xs) y → Contains xs y
    Contains-from_first_occurrences xs y h = ⊎_elim (λ i. absurd (Contains-empty y i)) (λ i. i) (Contains-with_elements_cases [] xs y h)

    -- no element stands twice
    pub IsDistinct-with_element : (seen : List A) (x : A) → IsDistinct seen → IsDistinct (with_element eq seen x)
    IsDistinct-with_element seen x d = go (list_any (eq x) seen) refl
      where
        none : IsDistinct (x ∷ [])
        none = AllPairs-cons (λ (a b : A). a ≢ b) x [] (λ y i. absurd (Contains-empty y i)) (λ i j k l m. absurd (omega arith))

        go : (b : Bool) → list_any (eq x) seen ≡ b → IsDistinct (cond b seen (seen ++ x ∷ []))
        go true e = d
        go false e = AllPairs-append (λ (a b : A). a ≢ b) seen (x ∷ []) d none
            (λ a b i j f. elim (Contains-cons_cases x [] b j) [
              | inl g ↦ let bad : true ≡ false = sym (any_from_contains same seen x (subst (λ z. Contains seen z) (f ∙ sym g) i)) ∙ e in absurd cc
              | inr k ↦ absurd (Contains-empty b k)
            ])

    pub IsDistinct-with_elements : (seen xs : List A) → IsDistinct seen → IsDistinct (with_elements eq seen xs)
    IsDistinct-with_elements seen [] d = d
    IsDistinct-with_elements seen (x ∷ xs) d = IsDistinct-with_elements (with_element eq seen x) xs (IsDistinct-with_element seen x d)

    pub IsDistinct-first_occurrences : (xs : List A) → IsDistinct (first_occurrences eq xs)
    IsDistinct-first_occurrences xs = IsDistinct-with_elements [] xs (λ i j k l m. absurd (omega arith))

    -- an element that is held adds nothing
    pub with_element-held : (seen : List A) (x : A) → Contains seen x → with_element eq seen x ≡ seen
    with_element-held seen x h = ap (λ b. cond b seen (seen ++ x ∷ [])) (any_from_contains same seen x h)

    -- and one that isn't held stands last
    pub with_element-new : (seen : List A) (x : A) → ¬ Contains seen x → with_element eq seen x ≡ seen ++ x ∷ []
    with_element-new seen x h =
        ap (λ b. cond b seen (seen ++ x ∷ [])) (false_from_ne_true (list_any (eq x) seen) (λ e. h (Contains-from_any same seen x e)))

    -- an element's place is the same before it is added
    pub position-with_element : (seen : List A) (x : A) → position_or_len (eq x) (with_element eq seen x) ≡ position_or_len (eq x) seen
    position-with_element seen x = go (list_any (eq x) seen) refl
      where
        last : (n k : ℕ) (b : Bool) → n ≡ k → b ≡ true → cond (eqb n k) (k + cond b 0 1) n ≡ n
        last n k true e f = ap (λ t. cond t (k + 0) n) (eq-eqb n k e) ∙ omega arith
        last n k false e f = absurd cc

        go : (b : Bool) → list_any (eq x) seen ≡ b → position_or_len (eq x) (cond b seen (seen ++ x ∷ [])) ≡ position_or_len (eq x) seen
        go true e = refl
        go false e =
            position_or_len_push (eq x) seen x ∙
            last (position_or_len (eq x) seen) (length seen) (eq x x) (position_new seen x e) (eq_refl eq same x)

-- Places in the image of a list.
module _ {V A : Type 0} (f : V → A) (p : A → Bool) where
  pub list_any-map : (xs : List V) → list_any (λ v. p (f v)) xs ≡ list_any p (map f xs)
  list_any-map [] = refl
  list_any-map (x ∷ xs) = ap (λ b. p (f x) || b) (list_any-map xs)

  pub position_or_len-map : (xs : List V) → position_or_len (λ v. p (f v)) xs ≡ position_or_len p (map f xs)
  position_or_len-map [] = refl
  position_or_len-map (x ∷ xs) = ap (λ k. cond (not (p (f x))) (1 + k) 0) (position_or_len-map xs)

-- What a search for a place says.
module _ {A : Type 0} (p : A → Bool) (xs : List A) where
  pub found_position : (n : ℕ) → position p xs ≡ Some n → (n ≡ position_or_len p xs) × (position_or_len p xs < length xs)
  found_position n h = go (nat_lt (position_or_len p xs) (length xs)) refl h
    where
      go : (b : Bool) → nat_lt (position_or_len p xs) (length xs) ≡ b → cond b (Some (position_or_len p xs)) None ≡ Some n →
          (n ≡ position_or_len p xs) × (position_or_len p xs < length xs)
      go true e f = (cc, ltb-true (position_or_len p xs) (length xs) e)
      go false e f = absurd cc

  pub missing_position : position p xs ≡ None → length xs ≤ position_or_len p xs
  missing_position h = go (nat_lt (position_or_len p xs) (length xs)) refl h
    where
      go : (b : Bool) → nat_lt (position_or_len p xs) (length xs) ≡ b → cond b (Some (position_or_len p xs)) None ≡ None → length xs ≤ position_or_len p xs
      go true e f = absurd cc
      go false e f = ltb-false (position_or_len p xs) (length xs) e
