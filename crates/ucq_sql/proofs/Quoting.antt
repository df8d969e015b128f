-- Bytes between quotes.
use Rattle.std.proofs.Common.{◌≡◌, ◌≢◌, ℕ, ◌+◌, ◌<◌, ◌^◌, nat_eq, cond, List, [], ◌∷◌, ◌++◌, length, take, get_or, append_assoc, refl, ap, ◌∙◌, arith}
use Rattle.std.specs.Prelude.{codes, decimal}
use Rattle.std.specs.Str.Parse.{AllDigits}
use Rattle.std.proofs.lemmas.Bool.{false_from_ne_true}
use Rattle.std.proofs.lemmas.Bool.Decides.{Decides-eqb}
use Rattle.std.proofs.lemmas.Grind.{flat_map-append}
use Rattle.std.proofs.lemmas.List.{take_more}
use Rattle.std.proofs.lemmas.Str.Parse.{digit_at}
use Rattle.std.proofs.lemmas.Fmt.{decimal_is_IsNumeral}
use Rattle.ucq_sql.specs.Text.{doubled, quoted}

-- one byte
pub doubled-quote : (quote b : ℕ) → b ≡ quote → doubled quote (b ∷ []) ≡ b ∷ b ∷ []
doubled-quote quote b e = ap (λ t. cond t (b ∷ b ∷ []) (b ∷ []) ++ []) ((Decides-eqb b quote).1 e)

pub doubled-other : (quote b : ℕ) → b ≢ quote → doubled quote (b ∷ []) ≡ b ∷ []
doubled-other quote b e = ap (λ t. cond t (b ∷ b ∷ []) (b ∷ []) ++ []) (false_from_ne_true (nat_eq b quote) (λ t. e ((Decides-eqb b quote).0 t)))

pub doubled-append : (quote : ℕ) (xs ys : List ℕ) → doubled quote (xs ++ ys) ≡ doubled quote xs ++ doubled quote ys
doubled-append quote xs ys = flat_map-append (λ b. cond (nat_eq b quote) (b ∷ b ∷ []) (b ∷ [])) xs ys

-- one more byte
pub doubled-next : (quote : ℕ) (bytes : List ℕ) (i d : ℕ) → i < length bytes → doubled quote (take (i + 1) bytes) ≡ doubled quote (take i bytes) ++ doubled quote (get_or bytes i d ∷ [])
doubled-next quote bytes i d h = ap (doubled quote) (take_more bytes i d h) ∙ doubled-append quote (take i bytes) (get_or bytes i d ∷ [])

-- digits are no quotes
digits_stay : (quote : ℕ) (ds : List ℕ) → quote < 48 → AllDigits 10 ds → doubled quote ds ≡ ds
digits_stay quote [] small h = refl
digits_stay quote (c ∷ cs) small h =
    let range = digit_at (c ∷ cs) 0 h (omega arith) in
    let other : c ≢ quote = λ e. omega (arith, range, e) in
    doubled-append quote (c ∷ []) cs ∙ (ap (λ l. l ++ doubled quote cs) (doubled-other quote c other) ∙ ap (λ l. c ∷ l) (digits_stay quote cs small h.1))

pub doubled-decimal : (quote n : ℕ) → quote < 48 → n < 2 ^ 64 → doubled quote (decimal n) ≡ decimal n
doubled-decimal quote n small h = digits_stay quote (decimal n) small (decimal_is_IsNumeral n h).0.1

-- a table's name, whose slash and digits are no quotes
pub quoted_name : (name : List ℕ) (arity : ℕ) → arity < 2 ^ 64 → quoted 34 (name ++ codes "/" ++ decimal arity) ≡ (34 ∷ []) ++ doubled 34 name ++ codes "/" ++ decimal arity ++ 34 ∷ []
quoted_name name arity small =
    let inner : doubled 34 ((name ++ codes "/") ++ decimal arity) ≡ (doubled 34 name ++ codes "/") ++ decimal arity =
    doubled-append 34 (name ++ codes "/") (decimal arity) ∙
    (ap (λ l. l ++ doubled 34 (decimal arity)) (doubled-append 34 name (codes "/")) ∙ ap (λ l. (doubled 34 name ++ codes "/") ++ l) (doubled-decimal 34 arity (omega arith) small)) in
    ap (λ l. (34 ∷ []) ++ l ++ 34 ∷ []) inner ∙ simp append_assoc
