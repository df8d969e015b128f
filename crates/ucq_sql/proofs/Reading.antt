-- Bytes that are read in one way: numbers, bytes between quotes, and lists.
use Rattle.std.proofs.Common.{◌≡◌, ◌≢◌, ℕ, zero, suc, ◌<◌, ◌≤◌, ◌^◌, nat_eq, Bool, true, false, cond, ◌&&◌, List, [], ◌∷◌, ◌++◌, All, append_assoc, refl, sym, ap, ap₂, ◌∙◌, subst, arith}
use Rattle.std.specs.Prelude.{decimal, nat_le}
use Rattle.std.specs.List.{list_all}
use Rattle.std.specs.Str.Parse.{AllDigits}
use Rattle.std.proofs.lemmas.Bool.{and_parts, and_from}
use Rattle.std.proofs.lemmas.Bool.Decides.{Decides-eqb, nat_tests}
use Rattle.std.proofs.lemmas.Str.Parse.{digit_at}
use Rattle.std.proofs.lemmas.Fmt.{decimal_is_IsNumeral, decimal_injective}
use Rattle.ucq_sql.specs.Places.{by_place}
use Rattle.ucq_sql.specs.Text.{name_quote, value_quote, doubled, quoted}

-- the parts of equal lists
pub heads : {x y : ℕ} {xs ys : List ℕ} → x ∷ xs ≡ y ∷ ys → x ≡ y
heads e = cc

pub tails : {x y : ℕ} {xs ys : List ℕ} → x ∷ xs ≡ y ∷ ys → xs ≡ ys
tails e = cc

pub heads_differ : (x y : ℕ) (xs ys : List ℕ) → x ≢ y → x ∷ xs ≡ y ∷ ys → ⊥
heads_differ x y xs ys other e = other (heads e)

-- one front of two texts
pub cancel : (p x y : List ℕ) → p ++ x ≡ p ++ y → x ≡ y
cancel [] x y e = e
cancel (c ∷ p) x y e = cancel p x y (tails e)

-- the two fronts are one, and so are the rests
pub record AreOne {X : Type 0} (t u : X) (x y : List ℕ) : Type 0 where
  pub front : t ≡ u
  pub rest : x ≡ y

-- bytes that begin with such a byte
pub record Begins (P : ℕ → Type 0) (x : List ℕ) : Type 0 where
  pub byte : ℕ
  pub after : List ℕ
  pub is : x ≡ byte ∷ after
  pub holds : P byte

-- digits
pub is_digit : ℕ → Bool
is_digit b = nat_le 48 b && nat_le b 57

in_range_digit : (c : ℕ) → 48 ≤ c → c ≤ 57 → is_digit c ≡ true
unfolding is_digit
in_range_digit c h k = grind (arith, nat_tests)

digits_run : (ds : List ℕ) → AllDigits 10 ds → list_all is_digit ds ≡ true
digits_run [] h = refl
digits_run (c ∷ cs) h =
    let range = digit_at (c ∷ cs) 0 h (omega arith) in
    and_from (is_digit c) (list_all is_digit cs) (in_range_digit c (omega (arith, range)) (omega (arith, range))) (digits_run cs h.1)

pub decimal_run : (n : ℕ) → n < 2 ^ 64 → list_all is_digit (decimal n) ≡ true
decimal_run n h = digits_run (decimal n) (decimal_is_IsNumeral n h).0.1

-- a byte that ends numbers, names and values
pub record IsStop (b : ℕ) : Type 0 where
  pub digit : is_digit b ≡ false
  pub name : b ≢ name_quote
  pub value : b ≢ value_quote

pub space_stops : IsStop 32
unfolding is_digit
space_stops = record { digit = refl; name = λ e. omega arith; value = λ e. omega arith }

pub comma_stops : IsStop 44
unfolding is_digit
comma_stops = record { digit = refl; name = λ e. omega arith; value = λ e. omega arith }

pub close_stops : IsStop 41
unfolding is_digit
close_stops = record { digit = refl; name = λ e. omega arith; value = λ e. omega arith }

pub dot_stops : IsStop 46
unfolding is_digit
dot_stops = record { digit = refl; name = λ e. omega arith; value = λ e. omega arith }

pub line_feed_stops : IsStop 10
unfolding is_digit
line_feed_stops = record { digit = refl; name = λ e. omega arith; value = λ e. omega arith }

pub semicolon_stops : IsStop 59
unfolding is_digit
semicolon_stops = record { digit = refl; name = λ e. omega arith; value = λ e. omega arith }

slash_is_no_digit : is_digit 47 ≡ false
unfolding is_digit
slash_is_no_digit = refl

-- runs of one class, before bytes outside of it
run_apart : (p : ℕ → Bool) (xs ys : List ℕ) (c d : ℕ) (r s : List ℕ) → list_all p xs ≡ true → list_all p ys ≡ true → p c ≡ false → p d ≡ false →
    xs ++ c ∷ r ≡ ys ++ d ∷ s → AreOne xs ys (c ∷ r) (d ∷ s)
run_apart p [] [] c d r s h k m n e = record { front = refl; rest = e }
run_apart p [] (y ∷ ys) c d r s h k m n e =
    let bad : true ≡ false = sym (and_parts (p y) (list_all p ys) k).0 ∙ (ap p (sym (heads e)) ∙ m) in absurd cc
run_apart p (x ∷ xs) [] c d r s h k m n e =
    let bad : true ≡ false = sym (and_parts (p x) (list_all p xs) h).0 ∙ (ap p (heads e) ∙ n) in absurd cc
run_apart p (x ∷ xs) (y ∷ ys) c d r s h k m n e =
    let one = run_apart p xs ys c d r s (and_parts (p x) (list_all p xs) h).1 (and_parts (p y) (list_all p ys) k).1 m n (tails e) in
    record { front = ap₂ (λ b bs. b ∷ bs) (heads e) one.front; rest = one.rest }

pub decimals_apart : (m n : ℕ) (x y : List ℕ) → m < 2 ^ 64 → n < 2 ^ 64 → Begins IsStop x → Begins IsStop y → decimal m ++ x ≡ decimal n ++ y → AreOne m n x y
decimals_apart m n x y h k i j e =
    let whole : decimal m ++ i.byte ∷ i.after ≡ decimal n ++ j.byte ∷ j.after = ap (λ l. decimal m ++ l) (sym i.is) ∙ (e ∙ ap (λ l. decimal n ++ l) j.is) in
    let one = run_apart is_digit (decimal m) (decimal n) i.byte j.byte i.after j.after (decimal_run m h) (decimal_run n k) i.holds.digit j.holds.digit whole in
    record { front = decimal_injective m n h k one.front; rest = i.is ∙ (one.rest ∙ sym j.is) }

-- bytes between quotes
ends_early : (quote b : ℕ) (u x y : List ℕ) → Begins (λ b. b ≢ quote) x → (same : Bool) → nat_eq b quote ≡ same → quote ∷ x ≡ (cond same (b ∷ b ∷ []) (b ∷ []) ++ doubled quote u) ++ quote ∷ y → ⊥
ends_early quote b u x y h true is e = h.holds (heads (sym h.is ∙ tails e) ∙ (Decides-eqb b quote).0 is)
ends_early quote b u x y h false is e = let yes_same = (Decides-eqb b quote).1 (sym (heads e)) in let bad : true ≡ false = sym yes_same ∙ is in absurd cc

doubled_apart : (quote : ℕ) (t u x y : List ℕ) → Begins (λ b. b ≢ quote) x → Begins (λ b. b ≢ quote) y → doubled quote t ++ quote ∷ x ≡ doubled quote u ++ quote ∷ y → AreOne t u x y
doubled_apart quote [] [] x y h k e = record { front = refl; rest = tails e }
doubled_apart quote [] (b ∷ u) x y h k e = absurd (ends_early quote b u x y h (nat_eq b quote) refl e)
doubled_apart quote (b ∷ t) [] x y h k e = absurd (ends_early quote b t y x k (nat_eq b quote) refl (sym e))
doubled_apart quote (a ∷ t) (b ∷ u) x y h k e = go (λ f. doubled_apart quote t u x y h k f) (nat_eq a quote) refl (nat_eq b quote) refl e
  where
    go : (doubled quote t ++ quote ∷ x ≡ doubled quote u ++ quote ∷ y → AreOne t u x y) → (p : Bool) → nat_eq a quote ≡ p → (q : Bool) → nat_eq b quote ≡ q →
        (cond p (a ∷ a ∷ []) (a ∷ []) ++ doubled quote t) ++ quote ∷ x ≡ (cond q (b ∷ b ∷ []) (b ∷ []) ++ doubled quote u) ++ quote ∷ y → AreOne (a ∷ t) (b ∷ u) x y
    go r true i true j e = let one = r (tails (tails e)) in record { front = ap₂ (λ c cs. c ∷ cs) (heads e) one.front; rest = one.rest }
    go r false i false j e = let one = r (tails e) in record { front = ap₂ (λ c cs. c ∷ cs) (heads e) one.front; rest = one.rest }
    go r true i false j e = let bad : true ≡ false = sym i ∙ (ap (λ c. nat_eq c quote) (heads e) ∙ j) in absurd cc
    go r false i true j e = let bad : true ≡ false = sym j ∙ (ap (λ c. nat_eq c quote) (sym (heads e)) ∙ i) in absurd cc

pub quoted_apart : (quote : ℕ) (t u x y : List ℕ) → Begins (λ b. b ≢ quote) x → Begins (λ b. b ≢ quote) y → quoted quote t ++ x ≡ quoted quote u ++ y → AreOne t u x y
quoted_apart quote t u x y h k e =
    doubled_apart quote t u x y h k (sym (append_assoc (doubled quote t) (quote ∷ []) x) ∙ (tails e ∙ append_assoc (doubled quote u) (quote ∷ []) y))

-- a name, a slash and digits
last_slash : (p : ℕ → Bool) (n r : List ℕ) (c : ℕ) → list_all p (n ++ c ∷ r) ≡ true → p c ≡ true
last_slash p [] r c h = (and_parts (p c) (list_all p r) h).0
last_slash p (b ∷ n) r c h = last_slash p n r c (and_parts (p b) (list_all p (n ++ c ∷ r)) h).1

pub slash_apart : (m n ds es : List ℕ) → list_all is_digit ds ≡ true → list_all is_digit es ≡ true → m ++ 47 ∷ ds ≡ n ++ 47 ∷ es → AreOne m n ds es
slash_apart [] [] ds es h k e = record { front = refl; rest = tails e }
slash_apart [] (b ∷ n) ds es h k e =
    let bad : true ≡ false = sym (last_slash is_digit n es 47 (subst (λ (l : List ℕ). list_all is_digit l ≡ true) (tails e) h)) ∙ slash_is_no_digit in absurd cc
slash_apart (a ∷ m) [] ds es h k e =
    let bad : true ≡ false = sym (last_slash is_digit m ds 47 (subst (λ (l : List ℕ). list_all is_digit l ≡ true) (sym (tails e)) k)) ∙ slash_is_no_digit in absurd cc
slash_apart (a ∷ m) (b ∷ n) ds es h k e =
    let one = slash_apart m n ds es h k (tails e) in record { front = ap₂ (λ c cs. c ∷ cs) (heads e) one.front; rest = one.rest }

-- what holds of each element, at the first and at the rest
pub first_of : {X : Type 0} (P : X → Type 0) (x : X) (xs : List X) → All P (x ∷ xs) → P x
first_of P x xs h = h zero x (omega arith)

pub rest_of : {X : Type 0} (P : X → Type 0) (x : X) (xs : List X) → All P (x ∷ xs) → All P xs
rest_of P x xs h = λ k d l. h (suc k) d (omega (arith, l))

-- Lists whose elements are read one by one: an element is told before what may follow it, and no element begins as what
-- follows the list does.
module _ {A : Type 0} (give : ℕ → A → List ℕ) (P : A → Type 0) (Inner Ends : List ℕ → Type 0)
    (apart : (place : ℕ) (a b : A) (x y : List ℕ) → P a → P b → Inner x → Inner y → give place a ++ x ≡ give place b ++ y → AreOne a b x y)
    (begins : (place : ℕ) (a : A) (x y : List ℕ) → P a → Ends y → give place a ++ x ≡ y → ⊥)
    (goes_on : (place : ℕ) (ps : List A) (x : List ℕ) → Ends x → Inner (by_place give (suc place) ps ++ x)) where
  pub list_apart : (place : ℕ) (ps qs : List A) (x y : List ℕ) → All P ps → All P qs → Ends x → Ends y → by_place give place ps ++ x ≡ by_place give place qs ++ y → AreOne ps qs x y
  list_apart place [] [] x y h k i j e = record { front = refl; rest = e }
  list_apart place [] (b ∷ qs) x y h k i j e =
      absurd (begins place b (by_place give (suc place) qs ++ y) x (first_of P b qs k) i (sym (append_assoc (give place b) (by_place give (suc place) qs) y) ∙ sym e))
  list_apart place (a ∷ ps) [] x y h k i j e =
      absurd (begins place a (by_place give (suc place) ps ++ x) y (first_of P a ps h) j (sym (append_assoc (give place a) (by_place give (suc place) ps) x) ∙ e))
  list_apart place (a ∷ ps) (b ∷ qs) x y h k i j e =
      let whole = sym (append_assoc (give place a) (by_place give (suc place) ps) x) ∙ (e ∙ append_assoc (give place b) (by_place give (suc place) qs) y) in
      let one = apart place a b (by_place give (suc place) ps ++ x) (by_place give (suc place) qs ++ y) (first_of P a ps h) (first_of P b qs k) (goes_on place ps x i) (goes_on place qs y j) whole in
      let others = list_apart (suc place) ps qs x y (rest_of P a ps h) (rest_of P b qs k) i j one.rest in
      record { front = ap₂ (λ (c : A) (cs : List A). c ∷ cs) one.front others.front; rest = others.rest }
