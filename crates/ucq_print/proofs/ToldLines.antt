-- Lines are told from their join.
use Rattle.std.proofs.Common.{◌≡◌, ℕ, zero, suc, Bool, true, not, List, [], ◌∷◌, ◌++◌, length, map, refl, sym, ap, ap₂, ◌∙◌, subst, append_assoc, arith, inl, inr, All, Contains}
use Rattle.std.specs.Prelude.{◌⊎◌, ◌==◌}
use Rattle.std.specs.List.{list_all}
use Rattle.std.proofs.lemmas.Bool.{and_from}
use Rattle.std.proofs.lemmas.Bool.Decides.{nat_tests}
use Rattle.std.proofs.lemmas.List.{append-nil, length-append, length-map}
use Rattle.std.proofs.lemmas.List.Elements.{All-contains, All-map, Contains-append_right}
use Rattle.ucq_terms.proofs.Lists.{Contains-first, Contains-rest}
use Rattle.ucq_print.specs.Texts.{line_feed, lines_text}
use Rattle.ucq_print.specs.Laws.{IsLine, GoesOn}
use Rattle.ucq_print.proofs.Spelled.{AreOne, run_apart, tails}

-- a byte that is no line feed
abbrev no_feed : ℕ → Bool
no_feed b = not (b == 10)

no_feed-byte : (b : ℕ) → ¬ (b ≡ 10) → no_feed b ≡ true
no_feed-byte b h = grind (arith, nat_tests)

no_feeds : (xs : List ℕ) → ¬ Contains xs 10 → list_all no_feed xs ≡ true
no_feeds [] h = refl
no_feeds (x ∷ xs) h =
    and_from (no_feed x) (list_all no_feed xs) (no_feed-byte x (λ e. h (subst (λ (b : ℕ). Contains (x ∷ xs) b) e (Contains-first x xs))))
    (no_feeds xs (λ i. h (Contains-rest x xs 10 i)))

-- the text of a line and what follows
line_shape : (line : List ℕ) (h : IsLine line) (rest : List ℕ) → line ++ rest ≡ h.inner ++ 10 ∷ rest
line_shape line h rest = ap (λ l. l ++ rest) h.is ∙ append_assoc h.inner line_feed rest

pub lines_told : (one two : List (List ℕ)) (x y : List ℕ) → All IsLine one → All IsLine two → lines_text one ++ x ≡ lines_text two ++ y → GoesOn one x two y ⊎ GoesOn two y one x
lines_told [] two x y h k e = inl (record { more = two; lines = refl; rests = e })
lines_told (l ∷ ls) [] x y h k e = inr (record { more = l ∷ ls; lines = refl; rests = sym e })
lines_told (l ∷ ls) (m ∷ ms) x y h k e =
    let p : IsLine l = h zero l (omega arith) in
    let q : IsLine m = k zero m (omega arith) in
    let whole : p.inner ++ 10 ∷ (lines_text ls ++ x) ≡ q.inner ++ 10 ∷ (lines_text ms ++ y) =
    sym (line_shape l p (lines_text ls ++ x)) ∙ (sym (append_assoc l (lines_text ls) x) ∙ (e ∙ (append_assoc m (lines_text ms) y ∙ line_shape m q (lines_text ms ++ y)))) in
    let one = run_apart no_feed p.inner q.inner 10 10 (lines_text ls ++ x) (lines_text ms ++ y) (no_feeds p.inner p.single) (no_feeds q.inner q.single) refl refl whole in
    let same : l ≡ m = p.is ∙ (ap (λ i. i ++ line_feed) one.front ∙ sym q.is) in
    elim (lines_told ls ms x y (λ i d b. h (suc i) d (omega (arith, b))) (λ i d b. k (suc i) d (omega (arith, b))) (tails one.rest)) [
      | inl g ↦ inl (record { more = g.more; lines = ap₂ (λ (a : List ℕ) (b : List (List ℕ)). a ∷ b) (sym same) g.lines; rests = g.rests })
      | inr g ↦ inr (record { more = g.more; lines = ap₂ (λ (a : List ℕ) (b : List (List ℕ)). a ∷ b) same g.lines; rests = g.rests })
    ]

-- as many lines are the same lines
same_number : (short long : List (List ℕ)) (x y : List ℕ) → length short ≡ length long → GoesOn short x long y → AreOne short long x y
same_number short long x y n g = go g.more g.lines g.rests
  where
    go : (more : List (List ℕ)) → long ≡ short ++ more → x ≡ lines_text more ++ y → AreOne short long x y
    go [] lines rests = record { front = sym (lines ∙ append-nil short); rest = rests }
    go (m ∷ ms) lines rests = let all = ap length lines in absurd (omega (arith, n, all, length-append short (m ∷ ms)))

pub counted_lines : (one two : List (List ℕ)) (x y : List ℕ) → All IsLine one → All IsLine two → length one ≡ length two → lines_text one ++ x ≡ lines_text two ++ y → AreOne one two x y
counted_lines one two x y h k n e = elim (lines_told one two x y h k e) [
  | inl g ↦ same_number one two x y n g
  | inr g ↦ let same = same_number two one y x (sym n) g in record { front = sym same.front; rest = sym same.rest }
]

-- so are lines before what begins no line
module _ (Begins : List ℕ → Type 0) where
  -- whatever follows the line
  abbrev pub IsBeginning : List ℕ → Type 0
  IsBeginning line = (rest : List ℕ) → Begins (line ++ rest)

  none_more : (short long : List (List ℕ)) (x y : List ℕ) → All IsBeginning long → ¬ Begins x → GoesOn short x long y → AreOne short long x y
  none_more short long x y all none g = go g.more g.lines g.rests
    where
      go : (more : List (List ℕ)) → long ≡ short ++ more → x ≡ lines_text more ++ y → AreOne short long x y
      go [] lines rests = record { front = sym (lines ∙ append-nil short); rest = rests }
      go (m ∷ ms) lines rests =
          let among : Contains long m = subst (λ (ls : List (List ℕ)). Contains ls m) (sym lines) (Contains-append_right short (m ∷ ms) m (Contains-first m ms)) in
          let begins : Begins (m ++ (lines_text ms ++ y)) = All-contains IsBeginning long m all among (lines_text ms ++ y) in
          absurd (none (subst Begins (sym (append_assoc m (lines_text ms) y) ∙ sym rests) begins))

  pub ended_lines : (one two : List (List ℕ)) (x y : List ℕ) → All IsLine one → All IsLine two → All IsBeginning one → All IsBeginning two → ¬ Begins x → ¬ Begins y →
      lines_text one ++ x ≡ lines_text two ++ y → AreOne one two x y
  ended_lines one two x y h k begin start none neither e = elim (lines_told one two x y h k e) [
    | inl g ↦ none_more one two x y start none g
    | inr g ↦ let same = none_more two one y x begin neither g in record { front = sym same.front; rest = sym same.rest }
  ]

-- lists whose lines are one are one, if each line tells its element
pub lines_tell : {X Y : Type 0} (line : X → List ℕ) (told : X → Y) (P : X → Type 0) → ((p q : X) → P p → P q → line p ≡ line q → told p ≡ told q) →
    (ps qs : List X) → All P ps → All P qs → map line ps ≡ map line qs → map told ps ≡ map told qs
lines_tell line told P tells [] [] h k e = refl
lines_tell line told P tells [] (q ∷ qs) h k e = absurd cc
lines_tell line told P tells (p ∷ ps) [] h k e = absurd cc
lines_tell {X} {Y} line told P tells (p ∷ ps) (q ∷ qs) h k e =
    let first : line p ≡ line q = cc in
    let rest : map line ps ≡ map line qs = cc in
    ap₂ (λ (a : Y) (b : List Y). a ∷ b) (tells p q (h zero p (omega arith)) (k zero q (omega arith)) first)
    (lines_tell line told P tells ps qs (λ i d b. h (suc i) d (omega (arith, b))) (λ i d b. k (suc i) d (omega (arith, b))) rest)

-- as many elements, each on a line that tells it
pub counted_elements : {X Y : Type 0} (line : X → List ℕ) (told : X → Y) (P : X → Type 0) → ((p : X) → P p → IsLine (line p)) →
    ((p q : X) → P p → P q → line p ≡ line q → told p ≡ told q) →
    (ps qs : List X) (x y : List ℕ) → All P ps → All P qs → length ps ≡ length qs → lines_text (map line ps) ++ x ≡ lines_text (map line qs) ++ y →
    AreOne (map told ps) (map told qs) x y
counted_elements line told P is tells ps qs x y h k n e =
    let sizes : length (map line ps) ≡ length (map line qs) = length-map ps line ∙ (n ∙ sym (length-map qs line)) in
    let one = counted_lines (map line ps) (map line qs) x y (All-map IsLine line ps (λ i d b. is _ (h i d b))) (All-map IsLine line qs (λ i d b. is _ (k i d b))) sizes e in
    record { front = lines_tell line told P tells ps qs h k one.front; rest = one.rest }

-- a line has a first byte
abbrev IsSome : List ℕ → Type 0
IsSome bytes = (b : ℕ) × (after : List ℕ) × (bytes ≡ b ∷ after)

line_is_some : (line : List ℕ) → IsLine line → (rest : List ℕ) → IsSome (line ++ rest)
line_is_some line h rest = go h.inner (line_shape line h rest)
  where
    go : (inner : List ℕ) → line ++ rest ≡ inner ++ 10 ∷ rest → IsSome (line ++ rest)
    go [] e = (10, rest, e)
    go (b ∷ bs) e = (b, bs ++ 10 ∷ rest, e)

nothing : IsSome [] → ⊥
nothing (b, after, e) = absurd cc

pub whole_lines : (one two : List (List ℕ)) → All IsLine one → All IsLine two → lines_text one ≡ lines_text two → one ≡ two
whole_lines one two h k e =
    let text : lines_text one ++ [] ≡ lines_text two ++ [] = ap (λ l. l ++ []) e in
    let same = ended_lines IsSome one two [] [] h k (λ i d b. line_is_some _ (h i d b)) (λ i d b. line_is_some _ (k i d b)) nothing nothing text in
    same.front

-- lines that begin a text of lines are the first of them
pub lines_begin : (one two : List (List ℕ)) (x : List ℕ) → All IsLine one → All IsLine two → lines_text one ++ x ≡ lines_text two → GoesOn one x two []
lines_begin one two x h k e = elim (lines_told one two x [] h k (e ∙ sym (append-nil (lines_text two)))) [
  | inl g ↦ g
  | inr g ↦
      let same = none_more IsSome two one [] x (λ i d b. line_is_some _ (h i d b)) nothing g in
      record { more = []; lines = same.front ∙ sym (append-nil one); rests = sym same.rest }
]
