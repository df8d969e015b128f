-- What holds of the first elements of a list holds of one more, and at last of all.
use Rattle.std.proofs.Common.{◌≡◌, ℕ, ◌+◌, ◌<◌, ◌≤◌, List, [], ◌∷◌, ◌++◌, length, take, map, zip, get_or, Contains, refl, sym, ap, ap₂, ◌∙◌, subst, inl, inr, arith}
use Rattle.std.proofs.lemmas.List.{take_more, take_all, length-map, length-take-le}
use Rattle.std.proofs.lemmas.List.Elements.{Contains-push_cases}

pub prefix_more : {X : Type 0} (P : X → Type 0) (xs : List X) (i : ℕ) (d : X) → i < length xs → ((x : X) → Contains (take i xs) x → P x) →
    P (get_or xs i d) → (x : X) → Contains (take (i + 1) xs) x → P x
prefix_more {X} P xs i d l f p = λ x c.
    let c' : Contains (take i xs ++ get_or xs i d ∷ []) x = subst (λ (ys : List X). Contains ys x) (take_more xs i d l) c in
    elim (Contains-push_cases (take i xs) (get_or xs i d) x c') [ inl j ↦ f x j | inr e ↦ subst P e p ]

pub prefix_all : {X : Type 0} (P : X → Type 0) (xs : List X) (i : ℕ) → length xs ≤ i → ((x : X) → Contains (take i xs) x → P x) → (x : X) → Contains xs x → P x
prefix_all {X} P xs i l f = λ x c. f x (subst (λ (ys : List X). Contains ys x) (sym (take_all i xs l)) c)

-- Two lists side by side, with an element more each.
zip_push : {X Y : Type 0} (xs : List X) (ys : List Y) (x : X) (y : Y) → length xs ≡ length ys → zip (xs ++ x ∷ []) (ys ++ y ∷ []) ≡ zip xs ys ++ (x, y) ∷ []
zip_push [] [] x y e = refl
zip_push [] (b ∷ ys) x y e = absurd (omega arith)
zip_push (a ∷ xs) [] x y e = absurd (omega arith)
zip_push (a ∷ xs) (b ∷ ys) x y e = ap (λ l. (a, b) ∷ l) (zip_push xs ys x y (omega arith))

map_push : {X Y : Type 0} (f : X → Y) (xs : List X) (x : X) → map f (xs ++ x ∷ []) ≡ map f xs ++ f x ∷ []
map_push f [] x = refl
map_push f (a ∷ xs) x = ap (λ l. f a ∷ l) (map_push f xs x)

pub zip_more : {X U V : Type 0} (f : X → U) (g : X → V) (xs ys : List X) (i : ℕ) (d : X) → i < length xs → i < length ys →
    zip (map f (take (i + 1) xs)) (map g (take (i + 1) ys)) ≡ zip (map f (take i xs)) (map g (take i ys)) ++ (f (get_or xs i d), g (get_or ys i d)) ∷ []
zip_more f g xs ys i d l m =
    let p = ap (map f) (take_more xs i d l) ∙ map_push f (take i xs) (get_or xs i d) in
    let q = ap (map g) (take_more ys i d m) ∙ map_push g (take i ys) (get_or ys i d) in
    let n : length (map f (take i xs)) ≡ length (map g (take i ys)) =
    length-map (take i xs) f ∙ (length-take-le i xs (omega (arith, l)) ∙ sym (length-map (take i ys) g ∙ length-take-le i ys (omega (arith, m)))) in
    ap₂ zip p q ∙ zip_push (map f (take i xs)) (map g (take i ys)) (f (get_or xs i d)) (g (get_or ys i d)) n
