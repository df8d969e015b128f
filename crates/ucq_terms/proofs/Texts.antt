-- Texts of names, held as keys of a set.
use Rattle.std.proofs.Common.{◌≡◌, ◌≢◌, ℕ, ◌<◌, Bool, true, false, cond, List, [], ◌∷◌, ◌++◌, map, length, get_or}
use Rattle.std.proofs.Common.{Contains, AllPairs, refl, sym, ap, ◌∙◌, arith}
use Rattle.std.specs.List.{list_any, position_or_len, position, slice_get, IsDistinct as HasDistinctKeys}
use Rattle.std.specs.Prelude.{Some, None}
use Rattle.std.specs.Str.{bytes_eq}
use Rattle.std.specs.Cmp.Lexicographic.{bytes_decides}
use Rattle.std.proofs.lemmas.List.{length-map, map-append}
use Rattle.std.proofs.lemmas.List.Sums.{passes_at_first}
use Rattle.std.proofs.lemmas.Map.Keys.{apart_from_distinct}
use Rattle.std.proofs.lemmas.Option.{slice_get-get_or, slice_get_within, get_or_from_slice_get}
use Rattle.ucq_terms.specs.Names.{number_of, with_name}
use Rattle.ucq_terms.proofs.Equality.{IsEquality, eq_same}
use Rattle.ucq_terms.proofs.Numbering.{with_element-held, position-with_element, position_below, any_from_contains, Contains-with_element}
use Rattle.ucq_terms.proofs.Pairwise.{AllPairs-map}
use Rattle.ucq_terms.proofs.Numbering.{list_any-map, position_or_len-map, found_position, missing_position}

pub IsEquality-bytes_eq : IsEquality bytes_eq
IsEquality-bytes_eq = record { decides = bytes_decides }

-- the text of a number that is a first place
pub text_at_first : (names : List (List ℕ)) (text : List ℕ) → number_of names text < length names → slice_get names (number_of names text) ≡ Some text
text_at_first names text l =
    let n = number_of names text in
    let e : text ≡ get_or names n text = eq_same bytes_eq IsEquality-bytes_eq text (get_or names n text) (passes_at_first (bytes_eq text) names text l) in
    slice_get-get_or names n text l ∙ ap Some (sym e)

pub Contains-slice_get : {X : Type 0} (xs : List X) (n : ℕ) (x : X) → slice_get xs n ≡ Some x → Contains xs x
Contains-slice_get xs n x e = (n, slice_get_within xs n x e, get_or_from_slice_get xs n x x e)

-- a held text has a number, and the names stay where it comes again
pub number_of_held : (names : List (List ℕ)) (text : List ℕ) → Contains names text → number_of names text < length names
number_of_held names text i = position_below bytes_eq names text (any_from_contains bytes_eq IsEquality-bytes_eq names text i)

pub with_name-held : (names : List (List ℕ)) (text : List ℕ) → Contains names text → with_name names text ≡ names
with_name-held names text i = with_element-held bytes_eq IsEquality-bytes_eq names text i

-- The keys of a set, of which each holds a text.
module _ {V : Type 0} (f : V → List ℕ) (keys : List V) where
  -- a text that is found
  pub found_text : (text : List ℕ) (n : ℕ) → position (λ v. bytes_eq text (f v)) keys ≡ Some n →
      (slice_get (map f keys) n ≡ Some text) × (n ≡ number_of (map f keys) text)
  found_text text n h =
      let (e, l) = found_position (λ v. bytes_eq text (f v)) keys n h in
      let same = position_or_len-map f (bytes_eq text) keys in
      let place : n ≡ number_of (map f keys) text = e ∙ same in
      let below : number_of (map f keys) text < length (map f keys) = omega (arith, same, length-map keys f) in
      (ap (slice_get (map f keys)) place ∙ text_at_first (map f keys) text below, place)

  -- a text that isn't found
  pub missing_text : (text : List ℕ) → position (λ v. bytes_eq text (f v)) keys ≡ None → Contains (map f keys) text → ⊥
  missing_text text h i =
      let l = missing_position (λ v. bytes_eq text (f v)) keys h in
      let same = position_or_len-map f (bytes_eq text) keys in
      let below = number_of_held (map f keys) text i in
      omega (arith, same, length-map keys f, l)

  -- a key that is inserted
  pub texts-inserted : (key : V) → map f (cond (list_any (λ v. bytes_eq (f key) (f v)) keys) keys (keys ++ key ∷ [])) ≡ with_name (map f keys) (f key)
  texts-inserted key =
      go (list_any (λ v. bytes_eq (f key) (f v)) keys) ∙
      ap (λ b. cond b (map f keys) (map f keys ++ f key ∷ [])) (list_any-map f (bytes_eq (f key)) keys)
    where
      go : (b : Bool) → map f (cond b keys (keys ++ key ∷ [])) ≡ cond b (map f keys) (map f keys ++ f key ∷ [])
      go true = refl
      go false = map-append f keys (key ∷ [])

  -- and its number
  pub number-inserted : (key : V) → position_or_len (λ v. bytes_eq (f key) (f v)) keys ≡ number_of (with_name (map f keys) (f key)) (f key)
  number-inserted key =
      position_or_len-map f (bytes_eq (f key)) keys ∙ sym (position-with_element bytes_eq IsEquality-bytes_eq (map f keys) (f key))

  -- keys that a set keeps apart hold different texts
  pub texts_apart : HasDistinctKeys (λ v w. bytes_eq (f v) (f w)) keys → AllPairs (λ a b. a ≢ b) (map f keys)
  texts_apart h = AllPairs-map (λ (a b : List ℕ). a ≢ b) f keys
      (λ i j d a b e.
      let bad : true ≡ false =
      sym ((bytes_decides (f (get_or keys i d)) (f (get_or keys j d))).1 e) ∙ apart_from_distinct (λ v w. bytes_eq (f v) (f w)) keys i j d h a b in
      absurd cc)

-- the text of the number of a name that was added
pub slice_get-with_name : (names : List (List ℕ)) (text : List ℕ) → slice_get (with_name names text) (number_of (with_name names text) text) ≡ Some text
slice_get-with_name names text =
    text_at_first (with_name names text) text
    (number_of_held (with_name names text) text (Contains-with_element bytes_eq IsEquality-bytes_eq names text))

-- the names after a text was numbered
pub record IsNumbered (names after : List (List ℕ)) (text : List ℕ) (place : ℕ) : Type 0 where
  pub names_are : after ≡ with_name names text
  pub number_is : place ≡ number_of after text
  pub held : slice_get after place ≡ Some text

-- an inserted key numbers its text
pub IsNumbered-inserted : {V : Type 0} (f : V → List ℕ) (keys after : List V) (key : V) (names : List (List ℕ)) (text : List ℕ) (place : ℕ) →
    map f keys ≡ names → f key ≡ text → after ≡ cond (list_any (λ v. bytes_eq (f key) (f v)) keys) keys (keys ++ key ∷ []) →
    place ≡ position_or_len (λ v. bytes_eq (f key) (f v)) keys → IsNumbered names (map f after) text place
IsNumbered-inserted {V} f keys after key names text place view is grown at =
    let same : with_name (map f keys) (f key) ≡ with_name names text = ap (λ n. with_name n (f key)) view ∙ ap (with_name names) is in
    let all : map f after ≡ with_name names text = ap (map f) grown ∙ (texts-inserted f keys key ∙ same) in
    let number : place ≡ number_of (with_name names text) text =
    at ∙ (number-inserted f keys key ∙ (ap (λ n. number_of n (f key)) same ∙ ap (number_of (with_name names text)) is)) in
    record {
      names_are = all;
      number_is = number ∙ ap (λ n. number_of n text) (sym all);
      held = ap (λ n. slice_get n place) all ∙ (ap (slice_get (with_name names text)) number ∙ slice_get-with_name names text);
    }
