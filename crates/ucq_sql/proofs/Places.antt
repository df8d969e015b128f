-- What the elements of a list give by their places: one element more, and membership.
use Rattle.std.proofs.Common.{◌≡◌, ℕ, zero, suc, ◌+◌, ◌<◌, List, [], ◌∷◌, ◌++◌, length, map, take, get_or, Contains, add-one, refl, sym, ap, ◌∙◌, subst, append_assoc, arith, inl, inr}
use Rattle.std.specs.Prelude.{Some, slice_get, codes}
use Rattle.std.proofs.lemmas.List.{append-nil, length-map, length-take, map-append, take_more}
use Rattle.std.proofs.lemmas.List.Elements.{Contains-append_left, Contains-append_right, Contains-append_cases}
use Rattle.ucq_terms.specs.Syntax.{Atom}
use Rattle.ucq_terms.proofs.Lists.{Contains-empty}
use Rattle.ucq_terms.proofs.Numbering.{with_element, with_elements-append}
use Rattle.ucq_sql.specs.declared.algebra.Table.{Table}
use Rattle.ucq_sql.specs.Selects.{table_eq, table_of, with_tables}
use Rattle.ucq_sql.specs.Places.{by_place}
use Rattle.ucq_sql.specs.Text.{column_name, columns_text, comma_before}

pub by_place-append : {A B : Type 0} (give : ℕ → A → List B) (n : ℕ) (xs ys : List A) → by_place give n (xs ++ ys) ≡ by_place give n xs ++ by_place give (n + length xs) ys
by_place-append give n [] ys = ap (λ k. by_place give k ys) (omega arith)
by_place-append give n (x ∷ xs) ys =
    let same : suc n + length xs ≡ n + suc (length xs) = omega arith in
    ap (λ l. give n x ++ l) (by_place-append give (suc n) xs ys ∙ ap (λ k. by_place give (suc n) xs ++ by_place give k ys) same) ∙
    sym (append_assoc (give n x) (by_place give (suc n) xs) (by_place give (n + suc (length xs)) ys))

-- one element behind the others
pub by_place-last : {A B : Type 0} (give : ℕ → A → List B) (n m : ℕ) (xs : List A) (x : A) → m ≡ n + length xs → by_place give n (xs ++ x ∷ []) ≡ by_place give n xs ++ give m x
by_place-last give n m xs x e =
    by_place-append give n xs (x ∷ []) ∙ ap (λ l. by_place give n xs ++ l) (append-nil (give (n + length xs) x) ∙ ap (λ k. give k x) (sym e))

-- the front of a list and one element more
pub by_place-next : {A B : Type 0} (give : ℕ → A → List B) (xs : List A) (i : ℕ) (d : A) → i < length xs →
    by_place give 0 (take (i + 1) xs) ≡ by_place give 0 (take i xs) ++ give i (get_or xs i d)
by_place-next give xs i d h =
    ap (by_place give 0) (take_more xs i d h) ∙ by_place-last give 0 i (take i xs) (get_or xs i d) (omega (arith, length-take i xs))

-- and that of a list's image
pub by_place-next_image : {A B C : Type 0} (give : ℕ → C → List B) (f : A → C) (xs : List A) (i : ℕ) (d : A) → i < length xs →
    by_place give 0 (map f (take (i + 1) xs)) ≡ by_place give 0 (map f (take i xs)) ++ give i (f (get_or xs i d))
by_place-next_image give f xs i d h =
    ap (λ l. by_place give 0 (map f l)) (take_more xs i d h) ∙
    (ap (by_place give 0) (map-append f (take i xs) (get_or xs i d ∷ [])) ∙
    by_place-last give 0 i (map f (take i xs)) (f (get_or xs i d)) (omega (arith, length-take i xs, length-map (take i xs) f)))

-- what an element gives is there
pub Contains-by_place : {A B : Type 0} (give : ℕ → A → List B) (n : ℕ) (xs : List A) (i : ℕ) (x : A) (y : B) → slice_get xs i ≡ Some x → Contains (give (n + i) x) y → Contains (by_place give n xs) y
Contains-by_place give n [] i x y e c = absurd cc
Contains-by_place {A} {B} give n (z ∷ zs) zero x y e c =
    let f : z ≡ x = cc in
    let g : n + 0 ≡ n = omega arith in
    Contains-append_left (give n z) (by_place give (suc n) zs) y
    (subst (λ k. Contains (give k z) y) g (subst (λ (w : A). Contains (give (n + 0) w) y) (sym f) c))
Contains-by_place give n (z ∷ zs) (suc i) x y e c =
    let g : n + suc i ≡ suc n + i = omega arith in
    Contains-append_right (give n z) (by_place give (suc n) zs) y (Contains-by_place give (suc n) zs i x y e (subst (λ k. Contains (give k x) y) g c))

-- and nothing else is
pub Contains-from_by_place : {A B : Type 0} (give : ℕ → A → List B) (n : ℕ) (xs : List A) (y : B) → Contains (by_place give n xs) y →
    (i : ℕ) × (x : A) × (slice_get xs i ≡ Some x) × Contains (give (n + i) x) y
Contains-from_by_place give n [] y c = absurd (Contains-empty y c)
Contains-from_by_place give n (z ∷ zs) y c = elim (Contains-append_cases (give n z) (by_place give (suc n) zs) y c) [
  | inl h ↦ let g : n ≡ n + 0 = omega arith in (0, z, refl, subst (λ k. Contains (give k z) y) g h)
  | inr h ↦
      let (i, x, e, k) = Contains-from_by_place give (suc n) zs y h in
      let g : suc n + i ≡ n + suc i = omega arith in
      (suc i, x, e, subst (λ k. Contains (give k x) y) g k)
]

-- one column more
pub columns_text-next : (place : ℕ) → columns_text (place + 1) ≡ columns_text place ++ comma_before place ++ column_name place ++ codes " VARCHAR"
columns_text-next place = ap columns_text (add-one place)

-- a text that has grown as the texts of a list's front have
pub grown : (before part more whole text after : List ℕ) → text ≡ before ++ part → after ≡ text ++ more → whole ≡ part ++ more → after ≡ before ++ whole
grown before part more whole text after e f g = f ∙ (ap (λ l. l ++ more) e ∙ (append_assoc before part more ∙ ap (λ l. before ++ l) (sym g)))

-- the tables of one more atom
pub with_tables-next : (tables : List Table) (atoms : List Atom) (i : ℕ) (a : Atom) → i < length atoms → a ≡ get_or atoms i a →
    with_tables tables (map table_of (take (i + 1) atoms)) ≡ with_element table_eq (with_tables tables (map table_of (take i atoms))) (table_of a)
with_tables-next tables atoms i a h is =
    ap (λ (l : List Atom). with_tables tables (map table_of l)) (take_more atoms i a h ∙ ap (λ (b : Atom). take i atoms ++ b ∷ []) (sym is)) ∙
    (ap (with_tables tables) (map-append table_of (take i atoms) (a ∷ [])) ∙ with_elements-append table_eq tables (map table_of (take i atoms)) (table_of a ∷ []))
