-- Lines that are comments.
use Rattle.std.proofs.Common.{◌≡◌, ℕ, zero, suc, ◌<◌, ◌≤◌, ◌^◌, nat_lt, nat_le, if◌then◌else◌, Bool, true, false, List, [], ◌∷◌, ◌++◌, map, length, get_or, refl, arith}
use Rattle.std.specs.Prelude.{Option, Some, None, codes, decimal}
use Rattle.std.specs.List.{list_all}
use Rattle.std.specs.Str.Parse.{AllDigits}
use Rattle.std.proofs.lemmas.Bool.{and_parts}
use Rattle.std.proofs.lemmas.Bool.Decides.{nat_tests}
use Rattle.std.proofs.lemmas.List.Elements.{All-append}
use Rattle.std.proofs.lemmas.Fmt.{decimal_is_IsNumeral}
use Rattle.std.proofs.lemmas.Str.Parse.{digit_at}
use Rattle.ucq_sql.specs.Comments.{label_text, plain_byte, HasNoControlByte, LinesAreComments}

no_bytes : HasNoControlByte []
no_bytes = λ k d l. absurd (omega arith)

one_more : (b : ℕ) (bytes : List ℕ) → 32 ≤ b → HasNoControlByte bytes → HasNoControlByte (b ∷ bytes)
one_more b bytes h k = go
  where
    go : (i d : ℕ) → i < suc (length bytes) → 32 ≤ get_or (b ∷ bytes) i d
    go zero d l = h
    go (suc i) d l = k i d (omega (arith, l))

digits : (ds : List ℕ) → AllDigits 10 ds → HasNoControlByte ds
digits [] h = no_bytes
digits (c ∷ cs) h = let range = digit_at (c ∷ cs) 0 h (omega arith) in one_more c cs (omega (arith, range)) (digits cs h.1)

number : (n : ℕ) → n < 2 ^ 64 → HasNoControlByte (decimal n)
number n h = digits (decimal n) (decimal_is_IsNumeral n h).0.1

both : (xs ys : List ℕ) → HasNoControlByte xs → HasNoControlByte ys → HasNoControlByte (xs ++ ys)
both xs ys h k = All-append (λ b. 32 ≤ b) xs ys h k

-- the words, by a test that computes
is_word : List ℕ → Bool
is_word bytes = list_all (λ b. nat_le 32 b) bytes

from_test : (b : ℕ) → nat_le 32 b ≡ true → 32 ≤ b
from_test b h = grind (arith, nat_tests)

word : (bytes : List ℕ) → is_word bytes ≡ true → HasNoControlByte bytes
unfolding is_word
word [] e = no_bytes
word (b ∷ bytes) e =
    let parts = and_parts (nat_le 32 b) (list_all (λ c. nat_le 32 c) bytes) e in
    one_more b bytes (from_test b parts.0) (word bytes parts.1)

query_word : HasNoControlByte (codes " query ")
unfolding is_word
query_word = word (codes " query ") refl

rows_word : HasNoControlByte (codes " cut rows ")
unfolding is_word
rows_word = word (codes " cut rows ") refl

wide_word : HasNoControlByte (codes " cut wide row ")
unfolding is_word
wide_word = word (codes " cut wide row ") refl

rule_word : HasNoControlByte (codes " rule ")
unfolding is_word
rule_word = word (codes " rule ") refl

is_plain : (b : ℕ) → 32 ≤ plain_byte b
is_plain b = go (nat_lt b 32) refl
  where
    go : (test : Bool) → nat_lt b 32 ≡ test → 32 ≤ (if test then 32 else b)
    go true e = omega arith
    go false e = grind (arith, nat_tests)

plain : (bytes : List ℕ) → HasNoControlByte (map plain_byte bytes)
plain [] = no_bytes
plain (b ∷ bytes) = one_more (plain_byte b) (map plain_byte bytes) (is_plain b) (plain bytes)

label : (l : Option (List ℕ)) → HasNoControlByte (label_text l)
label None = no_bytes
label (Some bytes) = one_more 32 (map plain_byte bytes) (omega arith) (plain bytes)

pub lines_are_comments : LinesAreComments
lines_are_comments = (
  λ n l h. record {
    bytes = codes " query " ++ decimal n ++ label_text l;
    is = refl;
    none = both (codes " query " ++ decimal n) (label_text l) (both (codes " query ") (decimal n) query_word (number n h)) (label l);
  },
  λ n h. record { bytes = codes " cut rows " ++ decimal n; is = refl; none = both (codes " cut rows ") (decimal n) rows_word (number n h) },
  λ m n h k. record {
    bytes = codes " cut wide row " ++ decimal m ++ codes " rule " ++ decimal n;
    is = refl;
    none = both (codes " cut wide row " ++ decimal m ++ codes " rule ") (decimal n) (both (codes " cut wide row " ++ decimal m) (codes " rule ") (both (codes " cut wide row ") (decimal m) wide_word (number m h)) rule_word) (number n k);
  },
)
