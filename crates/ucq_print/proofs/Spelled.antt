-- Two names in front of bytes that may not go on a name: the fronts of one text are one name.
use Rattle.std.proofs.Common.{◌≡◌, ◌≢◌, ℕ, suc, ◌<◌, ◌≤◌, ◌^◌, Bool, true, false, cond, ◌||◌, ◌==◌, List, [], ◌∷◌, ◌++◌, length, refl, sym, ap, ap₂, ◌∙◌, subst, append_assoc, arith, inl, inr}
use Rattle.std.specs.Prelude.{◌⊎◌, decimal}
use Rattle.std.specs.List.{list_all}
use Rattle.std.specs.Str.Parse.{AllDigits}
use Rattle.std.proofs.lemmas.Bool.{and_parts, and_from, or_left}
use Rattle.std.proofs.lemmas.Bool.Decides.{nat_tests}
use Rattle.std.proofs.lemmas.Str.Parse.{digit_at}
use Rattle.std.proofs.lemmas.Fmt.{decimal_is_IsNumeral, decimal_injective}
use Rattle.ucq_lexer.specs.Bytes.{is_small, is_letter, is_digit, is_sign, is_word_byte, is_local_start, is_tag_byte, is_iri_byte}
use Rattle.ucq_lexer.specs.Spelling.{StartsStretch, IsEnclosed, IsIri, IsInteger, IsUnits, IsText, IsTail, IsWord, IsPrefixed}
use Rattle.ucq_lexer.specs.inner.Front.{closing_size}
use Rattle.ucq_lexer.proofs.Runs.{closing_units}
use Rattle.ucq_print.specs.Laws.{IsNameText}

-- the parts of equal lists
pub heads : {x y : ℕ} {xs ys : List ℕ} → x ∷ xs ≡ y ∷ ys → x ≡ y
heads e = cc

pub tails : {x y : ℕ} {xs ys : List ℕ} → x ∷ xs ≡ y ∷ ys → xs ≡ ys
tails e = cc

pub one_list : {X : Type 0} {x y : X} {xs ys : List X} → x ≡ y → xs ≡ ys → x ∷ xs ≡ y ∷ ys
one_list p q = cc

pub heads_differ : (x y : ℕ) (xs ys : List ℕ) → x ≢ y → x ∷ xs ≡ y ∷ ys → ⊥
heads_differ x y xs ys other e = other (heads e)

-- the two fronts are one, and so are the rests
pub record AreOne {X : Type 0} (t u : X) (x y : List ℕ) : Type 0 where
  pub front : t ≡ u
  pub rest : x ≡ y

-- a byte that ends a name: `(`, `)` or `,`
pub record IsStop (c : ℕ) : Type 0 where
  pub word : is_word_byte c ≡ false
  pub digit : is_digit c ≡ false
  pub tag : is_tag_byte c ≡ false
  pub caret : c ≢ 94
  pub at_sign : c ≢ 64

pub open_stops : IsStop 40
open_stops = record { word = refl; digit = refl; tag = refl; caret = λ e. omega arith; at_sign = λ e. omega arith }

pub close_stops : IsStop 41
close_stops = record { word = refl; digit = refl; tag = refl; caret = λ e. omega arith; at_sign = λ e. omega arith }

pub comma_stops : IsStop 44
comma_stops = record { word = refl; digit = refl; tag = refl; caret = λ e. omega arith; at_sign = λ e. omega arith }

-- bytes that begin with such a byte
pub record Stops (x : List ℕ) : Type 0 where
  pub byte : ℕ
  pub after : List ℕ
  pub stop : IsStop byte
  pub is : x ≡ byte ∷ after

-- runs of one class, before bytes outside of it
pub run_apart : (p : ℕ → Bool) (xs ys : List ℕ) (c d : ℕ) (r s : List ℕ) → list_all p xs ≡ true → list_all p ys ≡ true → p c ≡ false → p d ≡ false →
    xs ++ c ∷ r ≡ ys ++ d ∷ s → AreOne xs ys (c ∷ r) (d ∷ s)
run_apart p [] [] c d r s h k m n e = record { front = refl; rest = e }
run_apart p [] (y ∷ ys) c d r s h k m n e =
    let bad : true ≡ false = sym (and_parts (p y) (list_all p ys) k).0 ∙ (ap p (sym (heads e)) ∙ m) in absurd cc
run_apart p (x ∷ xs) [] c d r s h k m n e =
    let bad : true ≡ false = sym (and_parts (p x) (list_all p xs) h).0 ∙ (ap p (heads e) ∙ n) in absurd cc
run_apart p (x ∷ xs) (y ∷ ys) c d r s h k m n e =
    let one = run_apart p xs ys c d r s (and_parts (p x) (list_all p xs) h).1 (and_parts (p y) (list_all p ys) k).1 m n (tails e) in
    record { front = one_list (heads e) one.front; rest = one.rest }

starts_apart : (first class : ℕ → Bool) (t u : List ℕ) (c d : ℕ) (r s : List ℕ) → StartsStretch first class t → StartsStretch first class u → class c ≡ false → class d ≡ false →
    t ++ c ∷ r ≡ u ++ d ∷ s → AreOne t u (c ∷ r) (d ∷ s)
starts_apart first class [] u c d r s h k m n e = absurd h
starts_apart first class (x ∷ xs) [] c d r s h k m n e = absurd k
starts_apart first class (x ∷ xs) (y ∷ ys) c d r s h k m n e =
    let one = run_apart class xs ys c d r s h.1 k.1 m n (tails e) in
    record { front = one_list (heads e) one.front; rest = one.rest }

-- texts between brackets
enclosed_apart : (opening least : ℕ) (class : ℕ → Bool) (closing : ℕ) (t u x y : List ℕ) → class closing ≡ false → IsEnclosed opening least class closing t →
    IsEnclosed opening least class closing u → t ++ x ≡ u ++ y → AreOne t u x y
enclosed_apart opening least class closing t u x y stop (xs, enough, run, is) (ys, enough', run', is') e =
    let whole : opening ∷ ((xs ++ closing ∷ []) ++ x) ≡ opening ∷ ((ys ++ closing ∷ []) ++ y) = ap (λ l. l ++ x) (sym is) ∙ (e ∙ ap (λ l. l ++ y) is') in
    let inner : xs ++ closing ∷ x ≡ ys ++ closing ∷ y = sym (append_assoc xs (closing ∷ []) x) ∙ (tails whole ∙ append_assoc ys (closing ∷ []) y) in
    let one = run_apart class xs ys closing closing x y run run' stop stop inner in
    record { front = is ∙ (ap (λ l. opening ∷ (l ++ closing ∷ [])) one.front ∙ sym is'); rest = tails one.rest }

iri_apart : (t u x y : List ℕ) → IsIri t → IsIri u → t ++ x ≡ u ++ y → AreOne t u x y
iri_apart t u x y h k e = enclosed_apart 60 1 is_iri_byte 62 t u x y refl h k e

-- integers
digit_is_no_sign : (b : ℕ) → is_digit b ≡ true → is_sign b ≡ true → ⊥
digit_is_no_sign b h k = grind (arith, nat_tests)

integer_apart : (t u : List ℕ) (c d : ℕ) (r s : List ℕ) → IsInteger t → IsInteger u → is_digit c ≡ false → is_digit d ≡ false → t ++ c ∷ r ≡ u ++ d ∷ s → AreOne t u (c ∷ r) (d ∷ s)
integer_apart [] u c d r s h k m n e = absurd h
integer_apart (x ∷ xs) [] c d r s h k m n e = absurd k
integer_apart (x ∷ xs) (y ∷ ys) c d r s (inl h) (inl k) m n e = starts_apart is_digit is_digit (x ∷ xs) (y ∷ ys) c d r s h k m n e
integer_apart (x ∷ xs) (y ∷ ys) c d r s (inl h) (inr k) m n e = absurd (digit_is_no_sign y (subst (λ (b : ℕ). is_digit b ≡ true) (heads e) h.0) k.0)
integer_apart (x ∷ xs) (y ∷ ys) c d r s (inr h) (inl k) m n e = absurd (digit_is_no_sign x (subst (λ (b : ℕ). is_digit b ≡ true) (sym (heads e)) k.0) h.0)
integer_apart (x ∷ xs) (y ∷ ys) c d r s (inr h) (inr k) m n e =
    let one = starts_apart is_digit is_digit xs ys c d r s h.1 k.1 m n (tails e) in
    record { front = one_list (heads e) one.front; rest = one.rest }

-- texts: their units, their types, and their tails
sized_apart : (xs ys x y : List ℕ) → length xs ≡ length ys → xs ++ x ≡ ys ++ y → AreOne xs ys x y
sized_apart [] [] x y n e = record { front = refl; rest = e }
sized_apart [] (b ∷ ys) x y n e = absurd (omega arith)
sized_apart (a ∷ xs) [] x y n e = absurd (omega arith)
sized_apart (a ∷ xs) (b ∷ ys) x y n e =
    let one = sized_apart xs ys x y (omega arith) (tails e) in record { front = one_list (heads e) one.front; rest = one.rest }

units_apart : (xs ys x y : List ℕ) → IsUnits xs → IsUnits ys → xs ++ 34 ∷ x ≡ ys ++ 34 ∷ y → AreOne xs ys x y
units_apart xs ys x y h k e =
    let sizes : suc (length xs) ≡ suc (length ys) = sym (closing_units h x) ∙ (ap (closing_size false) e ∙ closing_units k y) in
    let one = sized_apart xs ys (34 ∷ x) (34 ∷ y) (omega arith) e in
    record { front = one.front; rest = tails one.rest }

-- a word before a colon is a run of word bytes
pub word_run : (word : List ℕ) → (word ≡ []) ⊎ IsWord word → list_all is_word_byte word ≡ true
word_run word (inl e) = ap (list_all is_word_byte) e
word_run [] (inr h) = refl
word_run (x ∷ xs) (inr h) = and_from (is_word_byte x) (list_all is_word_byte xs) (or_left (is_letter x) _ h.0) h.1

prefixed_apart : (t u : List ℕ) (c d : ℕ) (r s : List ℕ) → IsPrefixed t → IsPrefixed u → is_word_byte c ≡ false → is_word_byte d ≡ false → t ++ c ∷ r ≡ u ++ d ∷ s → AreOne t u (c ∷ r) (d ∷ s)
prefixed_apart t u c d r s (part, local, (word, w, is)) (part', local', (word', w', is')) m n e =
    let whole : word ++ 58 ∷ (part ++ c ∷ r) ≡ word' ++ 58 ∷ (part' ++ d ∷ s) =
    sym (append_assoc word (58 ∷ part) (c ∷ r)) ∙ (ap (λ l. l ++ c ∷ r) (sym is) ∙ (e ∙ (ap (λ l. l ++ d ∷ s) is' ∙ append_assoc word' (58 ∷ part') (d ∷ s)))) in
    let words = run_apart is_word_byte word word' 58 58 (part ++ c ∷ r) (part' ++ d ∷ s) (word_run word w) (word_run word' w') refl refl whole in
    let parts = starts_apart is_local_start is_word_byte part part' c d r s local local' m n (tails words.rest) in
    record { front = is ∙ (ap₂ (λ (v p : List ℕ). v ++ 58 ∷ p) words.front parts.front ∙ sym is'); rest = parts.rest }

-- a Prefixed doesn't begin as an Iri does
prefixed_is_no_iri : (t u x y : List ℕ) → IsPrefixed t → IsIri u → t ++ x ≡ u ++ y → ⊥
prefixed_is_no_iri t u x y (part, local, (word, w, is)) (inner, enough, run, is') e = begins word w (ap (λ l. l ++ x) (sym is) ∙ (e ∙ ap (λ l. l ++ y) is'))
  where
    begins : (word : List ℕ) → (word ≡ []) ⊎ IsWord word → (word ++ 58 ∷ part) ++ x ≡ 60 ∷ ((inner ++ 62 ∷ []) ++ y) → ⊥
    begins [] w f = heads_differ 58 60 (part ++ x) ((inner ++ 62 ∷ []) ++ y) (λ g. omega arith) f
    begins (b ∷ bs) (inl g) f = absurd cc
    begins (b ∷ bs) (inr h) f = let bad : true ≡ false = sym h.0 ∙ ap is_letter (heads f) in absurd cc

type_apart : (t u : List ℕ) (c d : ℕ) (r s : List ℕ) → IsIri t ⊎ IsPrefixed t → IsIri u ⊎ IsPrefixed u → IsStop c → IsStop d → t ++ c ∷ r ≡ u ++ d ∷ s → AreOne t u (c ∷ r) (d ∷ s)
type_apart t u c d r s (inl h) (inl k) m n e = iri_apart t u (c ∷ r) (d ∷ s) h k e
type_apart t u c d r s (inl h) (inr k) m n e = absurd (prefixed_is_no_iri u t (d ∷ s) (c ∷ r) k h (sym e))
type_apart t u c d r s (inr h) (inl k) m n e = absurd (prefixed_is_no_iri t u (c ∷ r) (d ∷ s) h k e)
type_apart t u c d r s (inr h) (inr k) m n e = prefixed_apart t u c d r s h k m.word n.word e

tail_apart : (t u : List ℕ) (c d : ℕ) (r s : List ℕ) → IsTail t → IsTail u → IsStop c → IsStop d → t ++ c ∷ r ≡ u ++ d ∷ s → AreOne t u (c ∷ r) (d ∷ s)
tail_apart t u c d r s (inl (inner, h, is)) (inl (inner', k, is')) m n e =
    let whole : 94 ∷ (94 ∷ (inner ++ c ∷ r)) ≡ 94 ∷ (94 ∷ (inner' ++ d ∷ s)) = ap (λ l. l ++ c ∷ r) (sym is) ∙ (e ∙ ap (λ l. l ++ d ∷ s) is') in
    let one = type_apart inner inner' c d r s h k m n (tails (tails whole)) in
    record { front = is ∙ (ap (λ (l : List ℕ). 94 ∷ 94 ∷ l) one.front ∙ sym is'); rest = one.rest }
tail_apart t u c d r s (inl (inner, h, is)) (inr (tag, k, is')) m n e =
    let whole : 94 ∷ (94 ∷ (inner ++ c ∷ r)) ≡ 64 ∷ (tag ++ d ∷ s) = ap (λ l. l ++ c ∷ r) (sym is) ∙ (e ∙ ap (λ l. l ++ d ∷ s) is') in
    absurd (heads_differ 94 64 (94 ∷ (inner ++ c ∷ r)) (tag ++ d ∷ s) (λ g. omega arith) whole)
tail_apart t u c d r s (inr (tag, h, is)) (inl (inner, k, is')) m n e =
    let whole : 64 ∷ (tag ++ c ∷ r) ≡ 94 ∷ (94 ∷ (inner ++ d ∷ s)) = ap (λ l. l ++ c ∷ r) (sym is) ∙ (e ∙ ap (λ l. l ++ d ∷ s) is') in
    absurd (heads_differ 64 94 (tag ++ c ∷ r) (94 ∷ (inner ++ d ∷ s)) (λ g. omega arith) whole)
tail_apart t u c d r s (inr (tag, h, is)) (inr (tag', k, is')) m n e =
    let whole : 64 ∷ (tag ++ c ∷ r) ≡ 64 ∷ (tag' ++ d ∷ s) = ap (λ l. l ++ c ∷ r) (sym is) ∙ (e ∙ ap (λ l. l ++ d ∷ s) is') in
    let one = starts_apart is_letter is_tag_byte tag tag' c d r s h k m.tag n.tag (tails whole) in
    record { front = is ∙ (ap (λ (l : List ℕ). 64 ∷ l) one.front ∙ sym is'); rest = one.rest }

-- a tail doesn't begin with a byte that ends a name
tail_is_no_stop : (t : List ℕ) (d : ℕ) (x s : List ℕ) → IsTail t → IsStop d → t ++ x ≡ d ∷ s → ⊥
tail_is_no_stop t d x s (inl (inner, h, is)) n e =
    let whole : 94 ∷ (94 ∷ (inner ++ x)) ≡ d ∷ s = ap (λ l. l ++ x) (sym is) ∙ e in n.caret (sym (heads whole))
tail_is_no_stop t d x s (inr (tag, h, is)) n e =
    let whole : 64 ∷ (tag ++ x) ≡ d ∷ s = ap (λ l. l ++ x) (sym is) ∙ e in n.at_sign (sym (heads whole))

maybe_tail_apart : (t u : List ℕ) (c d : ℕ) (r s : List ℕ) → (t ≡ []) ⊎ IsTail t → (u ≡ []) ⊎ IsTail u → IsStop c → IsStop d → t ++ c ∷ r ≡ u ++ d ∷ s → AreOne t u (c ∷ r) (d ∷ s)
maybe_tail_apart t u c d r s (inl h) (inl k) m n e =
    record { front = h ∙ sym k; rest = ap (λ l. l ++ c ∷ r) (sym h) ∙ (e ∙ ap (λ l. l ++ d ∷ s) k) }
maybe_tail_apart t u c d r s (inl h) (inr k) m n e = absurd (tail_is_no_stop u c (d ∷ s) r k m (sym e ∙ ap (λ l. l ++ c ∷ r) h))
maybe_tail_apart t u c d r s (inr h) (inl k) m n e = absurd (tail_is_no_stop t d (c ∷ r) s h n (e ∙ ap (λ l. l ++ d ∷ s) k))
maybe_tail_apart t u c d r s (inr h) (inr k) m n e = tail_apart t u c d r s h k m n e

text_apart : (t u : List ℕ) (c d : ℕ) (r s : List ℕ) → IsText t → IsText u → IsStop c → IsStop d → t ++ c ∷ r ≡ u ++ d ∷ s → AreOne t u (c ∷ r) (d ∷ s)
text_apart t u c d r s (units, tail, are, h, is) (units', tail', are', k, is') m n e =
    let whole : 34 ∷ ((units ++ 34 ∷ tail) ++ c ∷ r) ≡ 34 ∷ ((units' ++ 34 ∷ tail') ++ d ∷ s) = ap (λ l. l ++ c ∷ r) (sym is) ∙ (e ∙ ap (λ l. l ++ d ∷ s) is') in
    let inner : units ++ 34 ∷ (tail ++ c ∷ r) ≡ units' ++ 34 ∷ (tail' ++ d ∷ s) =
    sym (append_assoc units (34 ∷ tail) (c ∷ r)) ∙ (tails whole ∙ append_assoc units' (34 ∷ tail') (d ∷ s)) in
    let fronts = units_apart units units' (tail ++ c ∷ r) (tail' ++ d ∷ s) are are' inner in
    let ends = maybe_tail_apart tail tail' c d r s h k m n fronts.rest in
    record { front = is ∙ (ap₂ (λ (v l : List ℕ). 34 ∷ (v ++ 34 ∷ l)) fronts.front ends.front ∙ sym is'); rest = ends.rest }

-- The kind of a name by its first byte: 0 to 3, and 4 where no name begins so.
abbrev pub first_kind : ℕ → ℕ
first_kind b = cond (is_small b) 0 (cond (b == 60) 1 (cond (is_digit b || is_sign b) 2 (cond (b == 34) 3 4)))

-- the text begins so
pub record BeginsAs (kind : ℕ) (t : List ℕ) : Type 0 where
  pub byte : ℕ
  pub after : List ℕ
  pub is : t ≡ byte ∷ after
  pub kind_of : first_kind byte ≡ kind

identifier_begins : (t : List ℕ) → StartsStretch is_small is_word_byte t → BeginsAs 0 t
identifier_begins [] h = absurd h
identifier_begins (x ∷ xs) h = record { byte = x; after = xs; is = refl; kind_of = ap (λ b. cond b 0 (cond (x == 60) 1 (cond (is_digit x || is_sign x) 2 (cond (x == 34) 3 4)))) h.0 }

iri_begins : (t : List ℕ) → IsIri t → BeginsAs 1 t
iri_begins t (inner, enough, run, is) = record { byte = 60; after = inner ++ 62 ∷ []; is = is; kind_of = refl }

text_begins : (t : List ℕ) → IsText t → BeginsAs 3 t
text_begins t (units, tail, are, h, is) = record { byte = 34; after = units ++ 34 ∷ tail; is = is; kind_of = refl }

digit_kind : (b : ℕ) → is_digit b ≡ true → first_kind b ≡ 2
digit_kind b h = grind (arith, nat_tests)

sign_kind : (b : ℕ) → is_sign b ≡ true → first_kind b ≡ 2
sign_kind b h = grind (arith, nat_tests)

integer_begins : (t : List ℕ) → IsInteger t → BeginsAs 2 t
integer_begins [] h = absurd h
integer_begins (x ∷ xs) (inl h) = record { byte = x; after = xs; is = refl; kind_of = digit_kind x h.0 }
integer_begins (x ∷ xs) (inr h) = record { byte = x; after = xs; is = refl; kind_of = sign_kind x h.0 }

-- equal texts begin as one kind
kinds_same : (m n : ℕ) (t u x y : List ℕ) → BeginsAs m t → BeginsAs n u → t ++ x ≡ u ++ y → m ≡ n
kinds_same m n t u x y h k e =
    let whole : h.byte ∷ (h.after ++ x) ≡ k.byte ∷ (k.after ++ y) = ap (λ l. l ++ x) (sym h.is) ∙ (e ∙ ap (λ l. l ++ y) k.is) in
    sym h.kind_of ∙ (ap first_kind (heads whole) ∙ k.kind_of)

-- names before bytes that end a name
stopped_apart : (t u : List ℕ) (c d : ℕ) (r s : List ℕ) → IsNameText t → IsNameText u → IsStop c → IsStop d → t ++ c ∷ r ≡ u ++ d ∷ s → AreOne t u (c ∷ r) (d ∷ s)
stopped_apart t u c d r s h k m n e = go h k
  where
    differ : (i j : ℕ) → BeginsAs i t → BeginsAs j u → i ≢ j → AreOne t u (c ∷ r) (d ∷ s)
    differ i j p q other = absurd (other (kinds_same i j t u (c ∷ r) (d ∷ s) p q e))

    go : IsNameText t → IsNameText u → AreOne t u (c ∷ r) (d ∷ s)
    go (inl p) (inl q) = starts_apart is_small is_word_byte t u c d r s p q m.word n.word e
    go (inl p) (inr (inl q)) = differ 0 1 (identifier_begins t p) (iri_begins u q) (λ f. omega arith)
    go (inl p) (inr (inr (inl q))) = differ 0 2 (identifier_begins t p) (integer_begins u q) (λ f. omega arith)
    go (inl p) (inr (inr (inr q))) = differ 0 3 (identifier_begins t p) (text_begins u q) (λ f. omega arith)
    go (inr (inl p)) (inl q) = differ 1 0 (iri_begins t p) (identifier_begins u q) (λ f. omega arith)
    go (inr (inl p)) (inr (inl q)) = iri_apart t u (c ∷ r) (d ∷ s) p q e
    go (inr (inl p)) (inr (inr (inl q))) = differ 1 2 (iri_begins t p) (integer_begins u q) (λ f. omega arith)
    go (inr (inl p)) (inr (inr (inr q))) = differ 1 3 (iri_begins t p) (text_begins u q) (λ f. omega arith)
    go (inr (inr (inl p))) (inl q) = differ 2 0 (integer_begins t p) (identifier_begins u q) (λ f. omega arith)
    go (inr (inr (inl p))) (inr (inl q)) = differ 2 1 (integer_begins t p) (iri_begins u q) (λ f. omega arith)
    go (inr (inr (inl p))) (inr (inr (inl q))) = integer_apart t u c d r s p q m.digit n.digit e
    go (inr (inr (inl p))) (inr (inr (inr q))) = differ 2 3 (integer_begins t p) (text_begins u q) (λ f. omega arith)
    go (inr (inr (inr p))) (inl q) = differ 3 0 (text_begins t p) (identifier_begins u q) (λ f. omega arith)
    go (inr (inr (inr p))) (inr (inl q)) = differ 3 1 (text_begins t p) (iri_begins u q) (λ f. omega arith)
    go (inr (inr (inr p))) (inr (inr (inl q))) = differ 3 2 (text_begins t p) (integer_begins u q) (λ f. omega arith)
    go (inr (inr (inr p))) (inr (inr (inr q))) = text_apart t u c d r s p q m n e

pub names_apart : (t u x y : List ℕ) → IsNameText t → IsNameText u → Stops x → Stops y → t ++ x ≡ u ++ y → AreOne t u x y
names_apart t u x y h k m n e =
    let whole : t ++ m.byte ∷ m.after ≡ u ++ n.byte ∷ n.after = ap (λ l. t ++ l) (sym m.is) ∙ (e ∙ ap (λ l. u ++ l) n.is) in
    let one = stopped_apart t u m.byte n.byte m.after n.after h k m.stop n.stop whole in
    record { front = one.front; rest = m.is ∙ (one.rest ∙ sym n.is) }

-- a name begins with a byte with which one begins
pub record BeginsAName (t : List ℕ) : Type 0 where
  pub byte : ℕ
  pub after : List ℕ
  pub is : t ≡ byte ∷ after
  pub named : first_kind byte < 4

named : (t : List ℕ) (kind : ℕ) → kind < 4 → BeginsAs kind t → BeginsAName t
named t kind small h = record { byte = h.byte; after = h.after; is = h.is; named = omega (arith, h.kind_of) }

pub name_begins : (t : List ℕ) → IsNameText t → BeginsAName t
name_begins t (inl p) = named t 0 (omega arith) (identifier_begins t p)
name_begins t (inr (inl p)) = named t 1 (omega arith) (iri_begins t p)
name_begins t (inr (inr (inl p))) = named t 2 (omega arith) (integer_begins t p)
name_begins t (inr (inr (inr p))) = named t 3 (omega arith) (text_begins t p)

-- no name begins with this byte
pub begins_otherwise : (c : ℕ) (t x y : List ℕ) → first_kind c ≡ 4 → IsNameText t → t ++ x ≡ c ∷ y → ⊥
begins_otherwise c t x y other h e =
    let b = name_begins t h in
    let whole : b.byte ∷ (b.after ++ x) ≡ c ∷ y = ap (λ l. l ++ x) (sym b.is) ∙ e in
    let same : first_kind b.byte ≡ 4 = ap first_kind (heads whole) ∙ other in
    omega (arith, b.named, same)

-- numbers before bytes that are no digits
in_range_digit : (c : ℕ) → 48 ≤ c → c ≤ 57 → is_digit c ≡ true
in_range_digit c h k = grind (arith, nat_tests)

pub digits_run : (ds : List ℕ) → AllDigits 10 ds → list_all is_digit ds ≡ true
digits_run [] h = refl
digits_run (c ∷ cs) h =
    let range = digit_at (c ∷ cs) 0 h (omega arith) in
    and_from (is_digit c) (list_all is_digit cs) (in_range_digit c (omega (arith, range)) (omega (arith, range))) (digits_run cs h.1)

pub decimals_apart : (m n c d : ℕ) (r s : List ℕ) → m < 2 ^ 64 → n < 2 ^ 64 → is_digit c ≡ false → is_digit d ≡ false → decimal m ++ c ∷ r ≡ decimal n ++ d ∷ s → AreOne m n (c ∷ r) (d ∷ s)
decimals_apart m n c d r s h k i j e =
    let one = run_apart is_digit (decimal m) (decimal n) c d r s (digits_run (decimal m) (decimal_is_IsNumeral m h).0.1) (digits_run (decimal n) (decimal_is_IsNumeral n k).0.1) i j e in
    record { front = decimal_injective m n h k one.front; rest = one.rest }
