-- No line feed stands in a name, in a number or in the text of a query or of a tuple.
use Rattle.std.proofs.Common.{◌≡◌, ◌≢◌, ℕ, zero, suc, ◌+◌, Bool, true, false, not, List, [], ◌∷◌, ◌++◌, flat_map, refl, sym, ap, ◌∙◌, subst, arith, inl, inr, All, Contains}
use Rattle.std.specs.Prelude.{◌⊎◌, ◌==◌, ◌/◌, ◌%◌, nat_lt, if◌then◌else◌, codes, decimal}
use Rattle.std.specs.Fmt.{digit_glyph, digits, digits_onto}
use Rattle.std.specs.List.{list_all}
use Rattle.std.proofs.lemmas.Bool.{and_parts}
use Rattle.std.proofs.lemmas.List.Elements.{Contains-append_cases}
use Rattle.ucq_terms.specs.declared.Term.{Term}
use Rattle.ucq_terms.specs.declared.Term.TheVariants.{Constant, Variable}
use Rattle.ucq_terms.specs.Syntax.{Atom, Query}
use Rattle.ucq_terms.specs.Names.{name_text}
use Rattle.ucq_terms.proofs.Lists.{Contains-cons_cases, Contains-empty, Contains-first, Contains-from_flat_map, Contains-rest}
use Rattle.ucq_lexer.specs.Bytes.{is_word_byte, is_digit, is_sign, is_small, is_letter, is_local_start, is_tag_byte, is_iri_byte, is_plain, is_text_byte}
use Rattle.ucq_lexer.specs.Spelling.{StartsStretch, IsIri, IsInteger, IsUnits, none, plain, escaped, IsText, IsTail, IsPrefixed}
use Rattle.ucq_eval.specs.Tuples.{joined}
use Rattle.ucq_print.specs.Texts.{term_text, terms_text, atom_text, answers_text, numbered_text}
use Rattle.ucq_print.specs.Laws.{IsNameText, AreReadableNames}
use Rattle.ucq_print.proofs.Spelled.{word_run}

-- no line feed stands there
pub record IsSingle (bytes : List ℕ) : Type 0 where
  pub free : ¬ Contains bytes 10

pub single_nothing : IsSingle []
single_nothing = record { free = λ i. Contains-empty 10 i }

pub single_first : (b : ℕ) (bytes : List ℕ) → b ≢ 10 → IsSingle bytes → IsSingle (b ∷ bytes)
single_first b bytes other h = record {
  free = λ i. elim (Contains-cons_cases b bytes 10 i) [ inl e ↦ other e | inr j ↦ h.free j ];
}

pub single_both : (a b : List ℕ) → IsSingle a → IsSingle b → IsSingle (a ++ b)
single_both a b h k = record {
  free = λ i. elim (Contains-append_cases a b 10 i) [ inl j ↦ h.free j | inr j ↦ k.free j ];
}

single_each : {X : Type 0} (f : X → List ℕ) (xs : List X) → ((x : X) → Contains xs x → IsSingle (f x)) → IsSingle (flat_map f xs)
single_each f xs h = record {
  free = λ i. let (x, j, k) = Contains-from_flat_map f xs 10 i in (h x j).free k;
}

outside : (p : ℕ → Bool) (b : ℕ) → p b ≡ true → p 10 ≡ false → b ≢ 10
outside p b h k e = let bad : true ≡ false = sym h ∙ (ap p e ∙ k) in absurd cc

-- runs of a class that has no line feed
pub single_run : (p : ℕ → Bool) (bytes : List ℕ) → p 10 ≡ false → list_all p bytes ≡ true → IsSingle bytes
single_run p [] other h = single_nothing
single_run p (b ∷ bytes) other h =
    let parts = and_parts (p b) (list_all p bytes) h in
    single_first b bytes (outside p b parts.0 other) (single_run p bytes other parts.1)

single_starts : (first class : ℕ → Bool) (bytes : List ℕ) → first 10 ≡ false → class 10 ≡ false → StartsStretch first class bytes → IsSingle bytes
single_starts first class [] m n h = absurd h
single_starts first class (b ∷ bytes) m n h = single_first b bytes (outside first b h.0 m) (single_run class bytes n h.1)

-- ---- names

single_iri : (bytes : List ℕ) → IsIri bytes → IsSingle bytes
single_iri bytes (inner, enough, run, is) =
    subst IsSingle (sym is)
    (single_first 60 (inner ++ 62 ∷ []) (λ e. omega arith) (single_both inner (62 ∷ []) (single_run is_iri_byte inner refl run) (single_first 62 [] (λ e. omega arith) single_nothing)))

single_prefixed : (bytes : List ℕ) → IsPrefixed bytes → IsSingle bytes
single_prefixed bytes (part, local, (word, w, is)) =
    subst IsSingle (sym is)
    (single_both word (58 ∷ part) (single_run is_word_byte word refl (word_run word w))
    (single_first 58 part (λ e. omega arith) (single_starts is_local_start is_word_byte part refl refl local)))

single_integer : (bytes : List ℕ) → IsInteger bytes → IsSingle bytes
single_integer [] h = absurd h
single_integer (b ∷ bytes) (inl h) = single_starts is_digit is_digit (b ∷ bytes) refl refl h
single_integer (b ∷ bytes) (inr h) = single_first b bytes (outside is_sign b h.0 refl) (single_starts is_digit is_digit bytes refl refl h.1)

single_units : {bytes : List ℕ} → IsUnits bytes → IsSingle bytes
single_units none = single_nothing
single_units (plain {b} {bs} h rest) = single_first b bs (outside is_text_byte b h refl) (single_units rest)
single_units (escaped {a} {b} {bs} e h rest) =
    single_first a (b ∷ bs) (λ f. let bad : 10 ≡ 92 = sym f ∙ e in omega arith) (single_first b bs (outside is_plain b h refl) (single_units rest))

single_tail : (bytes : List ℕ) → (bytes ≡ []) ⊎ IsTail bytes → IsSingle bytes
single_tail bytes (inl e) = subst IsSingle (sym e) single_nothing
single_tail bytes (inr (inl (inner, of_kind, is))) = subst IsSingle (sym is) (single_first 94 (94 ∷ inner) (λ e. omega arith) (single_first 94 inner (λ e. omega arith) (typed of_kind)))
  where
    typed : IsIri inner ⊎ IsPrefixed inner → IsSingle inner
    typed (inl h) = single_iri inner h
    typed (inr h) = single_prefixed inner h
single_tail bytes (inr (inr (tag, h, is))) = subst IsSingle (sym is) (single_first 64 tag (λ e. omega arith) (single_starts is_letter is_tag_byte tag refl refl h))

single_text : (bytes : List ℕ) → IsText bytes → IsSingle bytes
single_text bytes (units, tail, are, ends, is) =
    subst IsSingle (sym is)
    (single_first 34 (units ++ 34 ∷ tail) (λ e. omega arith) (single_both units (34 ∷ tail) (single_units are) (single_first 34 tail (λ e. omega arith) (single_tail tail ends))))

single_name : (bytes : List ℕ) → IsNameText bytes → IsSingle bytes
single_name bytes (inl h) = single_starts is_small is_word_byte bytes refl refl h
single_name bytes (inr (inl h)) = single_iri bytes h
single_name bytes (inr (inr (inl h))) = single_integer bytes h
single_name bytes (inr (inr (inr h))) = single_text bytes h

-- what is printed of a number without a name is nothing
single_name_text : (names : List (List ℕ)) → All IsNameText names → (number : ℕ) → IsSingle (name_text names number)
single_name_text [] h number = single_nothing
single_name_text (name ∷ names) h zero = single_name name (h 0 [] (omega arith))
single_name_text (name ∷ names) h (suc number) = single_name_text names (λ k d l. h (suc k) d (omega (arith, l))) number

-- ---- numbers

other_glyph : (d : ℕ) → digit_glyph false d ≢ 10
other_glyph d = go (nat_lt d 10)
  where
    go : (small : Bool) → (if small then 48 + d else (if false then 55 + d else 87 + d)) ≢ 10
    go true = λ e. omega (arith, e)
    go false = λ e. omega (arith, e)

single_digits : (k n : ℕ) (after : List ℕ) → IsSingle after → IsSingle (digits_onto k 10 false n after)
single_digits zero n after h = h
single_digits (suc k) n after h =
    go (single_digits k (n / 10) (digit_glyph false (n % 10) ∷ after) more) (n / 10 == 0)
  where
    more : IsSingle (digit_glyph false (n % 10) ∷ after)
    more = single_first (digit_glyph false (n % 10)) after (other_glyph (n % 10)) h

    go : IsSingle (digits_onto k 10 false (n / 10) (digit_glyph false (n % 10) ∷ after)) → (last : Bool) →
        IsSingle (if last then digit_glyph false (n % 10) ∷ after else digits_onto k 10 false (n / 10) (digit_glyph false (n % 10) ∷ after))
    go rest true = more
    go rest false = rest

pub single_number : (n : ℕ) → IsSingle (decimal n)
unfolding digits
single_number n = single_digits 64 n [] single_nothing

-- ---- queries

-- between separators
single_joined : {X : Type 0} (separator : List ℕ) (text : X → List ℕ) (xs : List X) → IsSingle separator → ((x : X) → Contains xs x → IsSingle (text x)) → IsSingle (joined separator text xs)
single_joined separator text [] h k = single_nothing
single_joined separator text (x ∷ xs) h k =
    single_both (text x) (flat_map (λ y. separator ++ text y) xs) (k x (Contains-first x xs))
    (single_each (λ y. separator ++ text y) xs (λ y i. single_both separator (text y) h (k y (Contains-rest x xs y i))))

-- bytes that are told
abbrev pub is_told : ℕ → Bool
is_told b = not (b == 10)

module _ (names : List (List ℕ)) (readable : AreReadableNames names) where
  single_term : (t : Term) → IsSingle (term_text names t)
  single_term (Constant c) = single_name_text names readable.spelled c
  single_term (Variable v) = single_first 88 (decimal v) (λ e. omega arith) (single_number v)

  pub single_terms : (ts : List Term) → IsSingle (terms_text names ts)
  single_terms ts =
      single_first 40 (joined (codes ",") (term_text names) ts ++ 41 ∷ []) (λ e. omega arith)
      (single_both (joined (codes ",") (term_text names) ts) (41 ∷ [])
      (single_joined (codes ",") (term_text names) ts (single_first 44 [] (λ e. omega arith) single_nothing) (λ t i. single_term t))
      (single_first 41 [] (λ e. omega arith) single_nothing))

  single_atom : (a : Atom) → IsSingle (atom_text names a)
  single_atom a = single_both (name_text names a.name) (terms_text names a.terms) (single_name_text names readable.spelled a.name) (single_terms a.terms)

  single_answers : (ts : List Term) → IsSingle (answers_text names ts)
  single_answers [] = single_nothing
  single_answers (t ∷ ts) = single_terms (t ∷ ts)

  pub single_query : (q : Query) → IsSingle (numbered_text names q)
  single_query q =
      single_both (((codes "?" ++ answers_text names q.answers) ++ codes " :- ") ++ joined (codes ", ") (atom_text names) q.atoms) (codes ".")
      (single_both ((codes "?" ++ answers_text names q.answers) ++ codes " :- ") (joined (codes ", ") (atom_text names) q.atoms)
      (single_both (codes "?" ++ answers_text names q.answers) (codes " :- ")
      (single_both (codes "?") (answers_text names q.answers) (single_run is_told (codes "?") refl refl) (single_answers q.answers))
      (single_run is_told (codes " :- ") refl refl))
      (single_joined (codes ", ") (atom_text names) q.atoms (single_run is_told (codes ", ") refl refl) (λ a i. single_atom a)))
      (single_run is_told (codes ".") refl refl)
