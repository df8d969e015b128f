-- The names of an input are spelled as names.
use Rattle.std.proofs.Common.{◌≡◌, ℕ, zero, suc, ◌+◌, ◌-◌, ◌<◌, Bool, true, false, cond, not, ◌==◌, List, [], ◌∷◌, ◌++◌, length, map, take, drop, filter_map, flat_map, Contains, refl, sym, ap, ◌∙◌, subst, arith, inl, inr}
use Rattle.std.specs.Prelude.{Option, Some, None, Result, Ok, Err, is_none, zip}
use Rattle.std.specs.List.{list_all, find, position_or_len, cons_option}
use Rattle.std.specs.Str.{bytes_eq}
use Rattle.std.proofs.lemmas.Bool.{and_parts, and_from}
use Rattle.std.proofs.lemmas.Bool.Decides.{nat_tests}
use Rattle.std.proofs.lemmas.List.{length-append, length-map, length-take, length-drop, take_at, drop_at, append_assoc}
use Rattle.std.proofs.lemmas.List.Folds.{list_all-append}
use Rattle.std.proofs.lemmas.List.Elements.{Contains-append_left, Contains-append_right, Contains-append_cases}
use Rattle.ucq_terms.proofs.Lists.{All-from_contains, Contains-first, Contains-rest, Contains-cons_cases, Contains-empty, Contains-from_flat_map}
use Rattle.ucq_terms.proofs.Numbering.{IsDistinct-first_occurrences, Contains-from_first_occurrences}
use Rattle.ucq_terms.proofs.Texts.{IsEquality-bytes_eq}
use Rattle.ucq_lexer.specs.declared.Kind.{Kind}
use Rattle.ucq_lexer.specs.declared.Kind.TheVariants.{Identifier, Iri, Label, Prefixed, Integer, Text}
use Rattle.ucq_lexer.specs.declared.Token.{Token}
use Rattle.ucq_lexer.specs.Bytes.{is_word_byte, is_local_start, is_iri_byte}
use Rattle.ucq_lexer.specs.Spelling.{IsSpelled, IsStretch, IsIri, IsInteger, IsText, IsLabel, IsLocalPart, IsPrefixed}
use Rattle.ucq_lexer.specs.Tokens.{Reads as TokensRead}
use Rattle.ucq_reader.specs.declared.ReadFault.{ReadFault}
use Rattle.ucq_reader.specs.Statement.{Word, identifier, iri, label, prefixed, integer, text, word_of, Statement, a_prefix, a_sentence, spelling}
use Rattle.ucq_reader.specs.File.{Reads}
use Rattle.ucq_reader.specs.Names.{Declared, declared, declare, inner_bytes, prefix_part, local_part, expanded, word_text, is_undeclared, in_order}
use Rattle.ucq_reader.specs.Meaning.{Meant, SymbolAsked, FileRead, malformed, parsed, Placed, placed, placed_from, texts_of, first_of, mapped, statement_fault, unknown_prefix, not_built, limit, unsafe_answer, file_fault, files_fault, unless, meant, with_queries}
use Rattle.ucq_reader.specs.Input.{words, starts, AreRead, IsRead, IsGoneOn, InputValue, IsInput}
use Rattle.ucq_print.specs.Laws.{IsNameText, AreReadableNames}
use Rattle.ucq_print.proofs.Spelled.{word_run}

-- the bytes of a word that are kept are spelled
abbrev pub IsGood : Word → Type 0
IsGood (identifier bytes) = IsSpelled Identifier bytes
IsGood (iri bytes) = IsIri bytes
IsGood (prefixed bytes) = IsPrefixed bytes
IsGood (integer bytes) = IsInteger bytes
IsGood (text bytes) = IsText bytes
IsGood (label bytes) = IsLabel bytes
IsGood _ = Unit {0}

word_good : (kind : Kind) (bytes : List ℕ) → IsSpelled kind bytes → IsGood (word_of kind bytes)
word_good Identifier bytes h = h
word_good Iri bytes h = h
word_good Prefixed bytes h = h
word_good Integer bytes h = h
word_good Text bytes h = h
word_good Label bytes h = h
word_good _ bytes h = tt

words_good : (bytes : List ℕ) (here : ℕ) (tokens : List Token) (there : ℕ) → TokensRead bytes here tokens there → (w : Word) → Contains (words bytes tokens) w → IsGood w
words_good bytes here [] there h w i = absurd (Contains-empty w i)
words_good bytes here (t ∷ ts) there h w i = elim (Contains-cons_cases (word_of t.kind (take (t.end - t.start) (drop t.start bytes))) (words bytes ts) w i) [
  | inl e ↦ subst IsGood e (word_good t.kind (take (t.end - t.start) (drop t.start bytes)) h.1.begins.spelled)
  | inr j ↦ words_good bytes t.end ts there h.2 w j
]

-- the words of a statement
abbrev pub IsGoodStatement : Statement → Type 0
IsGoodStatement s = (w : Word) → Contains (spelling s) w → IsGood w

-- the inner bytes of declared Iris
abbrev IsGoodDeclared : Declared → Type 0
IsGoodDeclared ds = (d : List ℕ × List ℕ) → Contains ds d → IsStretch is_iri_byte d.1

inner_good : (bytes : List ℕ) → IsIri bytes → IsStretch is_iri_byte (inner_bytes bytes)
inner_good bytes (inner, enough, run, is) =
    let size : length inner ≡ length (60 ∷ (inner ++ 62 ∷ [])) - 2 = omega (arith, length-append inner (62 ∷ [])) in
    let same : inner_bytes bytes ≡ inner = ap inner_bytes is ∙ take_at inner (62 ∷ []) (length (60 ∷ (inner ++ 62 ∷ [])) - 2) size in
    subst (λ (l : List ℕ). IsStretch is_iri_byte l) (sym same) run

declare_good : (ds : Declared) (s : Statement) → IsGoodDeclared ds → IsGoodStatement s → IsGoodDeclared (declare ds s)
declare_good ds (a_prefix name bytes dotted) h g = λ d i. elim (Contains-cons_cases (name, inner_bytes bytes) ds d i) [
  | inl e ↦ subst (λ (p : List ℕ × List ℕ). IsStretch is_iri_byte p.1) e (inner_good bytes (g (iri bytes) (suc (suc zero), omega arith, refl)))
  | inr j ↦ h d j
]
declare_good ds _ h g = h

declared_good : (ds : Declared) (name inner : List ℕ) → IsGoodDeclared ds → declared ds name ≡ Some inner → IsStretch is_iri_byte inner
declared_good [] name inner h e = absurd cc
declared_good (d ∷ ds) name inner h e = go (bytes_eq name d.0) e (λ f. declared_good ds name inner (λ p i. h p (Contains-rest d ds p i)) f)
  where
    go : (b : Bool) → cond b (Some d.1) (declared ds name) ≡ Some inner → (declared ds name ≡ Some inner → IsStretch is_iri_byte inner) → IsStretch is_iri_byte inner
    go true f r = let same : d.1 ≡ inner = cc in subst (λ (l : List ℕ). IsStretch is_iri_byte l) same (h d (Contains-first d ds))
    go false f r = r f

-- an expanded name is an Iri
word_byte_in_iri : (b : ℕ) → is_word_byte b ≡ true → is_iri_byte b ≡ true
word_byte_in_iri b h = grind (arith, nat_tests)

local_start_in_iri : (b : ℕ) → is_local_start b ≡ true → is_iri_byte b ≡ true
local_start_in_iri b h = grind (arith, nat_tests)

run_in_iri : (bs : List ℕ) → list_all is_word_byte bs ≡ true → list_all is_iri_byte bs ≡ true
run_in_iri [] h = refl
run_in_iri (b ∷ bs) h =
    let parts = and_parts (is_word_byte b) (list_all is_word_byte bs) h in
    and_from (is_iri_byte b) (list_all is_iri_byte bs) (word_byte_in_iri b parts.0) (run_in_iri bs parts.1)

local_in_iri : (part : List ℕ) → IsLocalPart part → (list_all is_iri_byte part ≡ true) × (0 < length part)
local_in_iri [] h = absurd h
local_in_iri (b ∷ bs) h = (and_from (is_iri_byte b) (list_all is_iri_byte bs) (local_start_in_iri b h.0) (run_in_iri bs h.1), omega arith)

word_byte_is_no_colon : (b : ℕ) → is_word_byte b ≡ true → (b == 58) ≡ false
word_byte_is_no_colon b h = grind (arith, nat_tests)

colon_place : (word part : List ℕ) → list_all is_word_byte word ≡ true → position_or_len (λ b. b == 58) (word ++ 58 ∷ part) ≡ length word
colon_place [] part h = refl
colon_place (b ∷ bs) part h =
    let parts = and_parts (is_word_byte b) (list_all is_word_byte bs) h in
    ap (λ t. cond (not t) (1 + position_or_len (λ c. c == 58) (bs ++ 58 ∷ part)) 0) (word_byte_is_no_colon b parts.0) ∙ omega (arith, colon_place bs part parts.1)

local_is : (bytes : List ℕ) (h : IsPrefixed bytes) → local_part bytes ≡ h.0
local_is bytes (part, local, (word, w, is)) =
    let place : position_or_len (λ b. b == 58) (word ++ 58 ∷ part) ≡ length word = colon_place word part (word_run word w) in
    let behind : length (word ++ 58 ∷ []) ≡ position_or_len (λ b. b == 58) (word ++ 58 ∷ part) + 1 = omega (arith, place, length-append word (58 ∷ [])) in
    ap local_part is ∙
    (ap (drop (position_or_len (λ b. b == 58) (word ++ 58 ∷ part) + 1)) (sym (append_assoc word (58 ∷ []) part)) ∙
    drop_at (word ++ 58 ∷ []) part (position_or_len (λ b. b == 58) (word ++ 58 ∷ part) + 1) behind)

expanded_some : (ds : Declared) (bytes inner : List ℕ) → declared ds (prefix_part bytes) ≡ Some inner → expanded ds bytes ≡ 60 ∷ (inner ++ (local_part bytes ++ 62 ∷ []))
expanded_some ds bytes inner e = rw e refl

expanded_iri : (ds : Declared) (bytes : List ℕ) → IsGoodDeclared ds → IsPrefixed bytes → is_none (declared ds (prefix_part bytes)) ≡ false → IsIri (expanded ds bytes)
expanded_iri ds bytes good h known = go (declared ds (prefix_part bytes)) refl known
  where
    go : (o : Option (List ℕ)) → declared ds (prefix_part bytes) ≡ o → is_none o ≡ false → IsIri (expanded ds bytes)
    go None e f = absurd cc
    go (Some inner) e f =
        let local = local_in_iri h.0 h.1 in
        let run : list_all is_iri_byte (inner ++ h.0) ≡ true = list_all-append is_iri_byte inner h.0 ∙ and_from (list_all is_iri_byte inner) (list_all is_iri_byte h.0) (declared_good ds (prefix_part bytes) inner good e) local.0 in (
          inner ++ h.0,
          omega (arith, local.1, length-append inner h.0),
          run,
          expanded_some ds bytes inner e ∙ (ap (λ (l : List ℕ). 60 ∷ (inner ++ (l ++ 62 ∷ []))) (local_is bytes h) ∙ ap (λ (l : List ℕ). 60 ∷ l) (sym (append_assoc inner h.0 (62 ∷ [])))),
        )

-- a text that a word gives is a name's
name_of_word : (ds : Declared) (w : Word) (t : List ℕ) → IsGoodDeclared ds → IsGood w → is_undeclared ds w ≡ false → word_text ds w ≡ Some t → IsNameText t
name_of_word ds (identifier bytes) t good h known e = let same : bytes ≡ t = cc in subst IsNameText same (inl h)
name_of_word ds (iri bytes) t good h known e = let same : bytes ≡ t = cc in subst IsNameText same (inr (inl h))
name_of_word ds (prefixed bytes) t good h known e = let same : expanded ds bytes ≡ t = cc in subst IsNameText same (inr (inl (expanded_iri ds bytes good h known)))
name_of_word ds (integer bytes) t good h known e = let same : bytes ≡ t = cc in subst IsNameText same (inr (inr (inl h)))
name_of_word ds (text bytes) t good h known e = let same : bytes ≡ t = cc in subst IsNameText same (inr (inr (inr h)))
name_of_word ds _ t good h known e = absurd cc

-- a statement in its place
pub record IsGoodPlaced (p : Placed) : Type 0 where
  declared : IsGoodDeclared p.before
  pub words : IsGoodStatement p.statement
  known : (w : Word) → Contains (spelling p.statement) w → is_undeclared p.before w ≡ false

pub from_filter_map : {X Y : Type 0} (f : X → Option Y) (xs : List X) (y : Y) → Contains (filter_map f xs) y → (x : X) × Contains xs x × (f x ≡ Some y)
from_filter_map f [] y h = absurd (Contains-empty y h)
from_filter_map {X} {Y} f (x ∷ xs) y h = go (f x) refl h (from_filter_map f xs y)
  where
    go : (o : Option Y) → f x ≡ o → Contains (cons_option o (filter_map f xs)) y → (Contains (filter_map f xs) y → (z : X) × Contains xs z × (f z ≡ Some y)) → (z : X) × Contains (x ∷ xs) z × (f z ≡ Some y)
    go None e i r = let (z, j, g) = r i in (z, Contains-rest x xs z j, g)
    go (Some v) e i r = elim (Contains-cons_cases v (filter_map f xs) y i) [
      | inl g ↦ (x, Contains-first x xs, e ∙ ap Some g)
      | inr j ↦ let (z, k, g) = r j in (z, Contains-rest x xs z k, g)
    ]

abbrev at : ℕ → ℕ → List ℕ → Declared → Statement → Placed
at file number starts ds s = record { file = file; number = number; starts = starts; before = ds; statement = s }

names_of_placed : (file number : ℕ) (places : List ℕ) (ds : Declared) (s : Statement) (t : List ℕ) → IsGoodPlaced (at file number places ds s) → Contains (texts_of (at file number places ds s)) t → IsNameText t
names_of_placed file number places ds (a_sentence l sentence) t good h =
    let (w, i, e) = from_filter_map (word_text ds) (spelling (a_sentence l sentence)) t h in name_of_word ds w t good.declared (good.words w i) (good.known w i) e
names_of_placed file number places ds _ t good h = absurd (Contains-empty t h)

-- no fault of a list
pub none_of : {A : Type 0} (o : Option A) (rest : List (Option A)) → first_of (o ∷ rest) ≡ None → (o ≡ None) × (first_of rest ≡ None)
none_of None rest e = (refl, e)
none_of (Some a) rest e = absurd cc

pub mapped_none : {A B : Type 0} (f : A → B) (o : Option A) → mapped f o ≡ None → o ≡ None
mapped_none f None e = refl
mapped_none f (Some a) e = absurd cc

none_found : (test : Word → Bool) (ws : List Word) (places : List ℕ) → length places ≡ length ws → find (λ (w : Word × ℕ). test w.0) (zip ws places) ≡ None → (w : Word) → Contains ws w → test w ≡ false
none_found test [] places l e w i = absurd (Contains-empty w i)
none_found test (v ∷ ws) [] l e w i = absurd (omega arith)
none_found test (v ∷ ws) (p ∷ ps) l e w i = go (test v) refl e (λ f. none_found test ws ps (omega arith) f w)
  where
    go : (b : Bool) → test v ≡ b → cond b (Some (v, p)) (find (λ (w : Word × ℕ). test w.0) (zip ws ps)) ≡ None →
        (find (λ (w : Word × ℕ). test w.0) (zip ws ps) ≡ None → Contains ws w → test w ≡ false) → test w ≡ false
    go true same f r = absurd cc
    go false same f r = elim (Contains-cons_cases v ws w i) [ inl g ↦ ap test (sym g) ∙ same | inr j ↦ r f j ]

placed_known : (file number : ℕ) (places : List ℕ) (ds : Declared) (s : Statement) → length places ≡ length (spelling s) → statement_fault (at file number places ds s) ≡ None →
    (w : Word) → Contains (spelling s) w → is_undeclared ds w ≡ false
placed_known file number places ds s l e =
    let p = at file number places ds s in
    none_found (is_undeclared ds) (spelling s) places l (mapped_none _ _ (none_of (unknown_prefix p) (not_built p ∷ limit p ∷ unsafe_answer p ∷ []) e).0)

-- the statements of a file in their places
placed_from_good : (file number : ℕ) (places : List ℕ) (ds : Declared) (ws : List Word) (ss : List Statement) → IsGoodDeclared ds → ((w : Word) → Contains ws w → IsGood w) →
    Reads ws ss [] → length places ≡ length ws → first_of (map statement_fault (placed_from file number places ds ss)) ≡ None → (p : Placed) → Contains (placed_from file number places ds ss) p → IsGoodPlaced p
placed_from_good file number places ds ws [] good spelled reads l e p i = absurd (Contains-empty p i)
placed_from_good file number places ds ws (s ∷ ss) good spelled reads l e p i =
    let here = at file number (take (length (spelling s)) places) ds s in
    let rest = placed_from file (number + 1) (drop (length (spelling s)) places) (declare ds s) ss in
    let faults = none_of (statement_fault here) (map statement_fault rest) e in
    let sizes : length ws ≡ length (spelling s) + length reads.0 = ap length reads.1 ∙ length-append (spelling s) reads.0 in
    let front : length (take (length (spelling s)) places) ≡ length (spelling s) = omega (arith, length-take (length (spelling s)) places, l, sizes) in
    let back : length (drop (length (spelling s)) places) ≡ length reads.0 = omega (arith, length-drop (length (spelling s)) places, l, sizes) in
    let words_here : IsGoodStatement s = λ w j. spelled w (subst (λ (ws : List Word). Contains ws w) (sym reads.1) (Contains-append_left (spelling s) reads.0 w j)) in
    elim (Contains-cons_cases here rest p i) [
      | inl f ↦ subst IsGoodPlaced f (record { declared = good; words = words_here; known = placed_known file number (take (length (spelling s)) places) ds s front faults.0 })
      | inr j ↦ placed_from_good file (number + 1) (drop (length (spelling s)) places) (declare ds s) reads.0 ss (declare_good ds s good words_here)
          (λ w k. spelled w (subst (λ (ws : List Word). Contains ws w) (sym reads.1) (Contains-append_right (spelling s) reads.0 w k))) reads.3 back faults.1 p j
    ]

file_good : (file : ℕ) (bytes : List ℕ) (statements : List Statement) (places : List ℕ) → IsRead file bytes (parsed statements places) → file_fault file (parsed statements places) ≡ None →
    (p : Placed) → Contains (placed_from file 0 places [] statements) p → IsGoodPlaced p
file_good file bytes statements places (tokens, spells, are, is) e =
    placed_from_good file 0 places [] (words bytes tokens) statements (λ d i. absurd (Contains-empty d i)) (words_good bytes 0 tokens (length bytes) spells) are
    (ap length is ∙ (length-map tokens (λ (t : Token). t.start) ∙ sym (length-map tokens (λ (t : Token). word_of t.kind (take (t.end - t.start) (drop t.start bytes)))))) e

pub files_good : (file : ℕ) (texts : List (List ℕ)) (reads : List FileRead) → AreRead file texts reads → files_fault file reads ≡ None → (p : Placed) → Contains (placed file reads) p → IsGoodPlaced p
files_good file [] [] are e p i = absurd (Contains-empty p i)
files_good file [] (f ∷ fs) are e p i = absurd are
files_good file (t ∷ ts) [] are e p i = absurd are
files_good file (t ∷ ts) (malformed fault ∷ fs) are e p i = absurd cc
files_good file (t ∷ ts) (parsed statements places ∷ fs) are e p i =
    let faults = none_of (file_fault file (parsed statements places)) (files_fault (file + 1) fs ∷ []) e in
    let later = none_of (files_fault (file + 1) fs) [] faults.1 in
    let goes_on : AreRead (file + 1) ts fs = subst (λ (o : Option ReadFault). IsGoneOn o fs (AreRead (file + 1) ts fs)) faults.0 are.1 in
    elim (Contains-append_cases (placed_from file 0 places [] statements) (placed (file + 1) fs) p i) [
      | inl j ↦ file_good file t statements places are.0 faults.0 p j
      | inr j ↦ files_good (file + 1) ts fs goes_on later.0 p j
    ]

-- what is meant has no fault, and the texts of all statements
pub unless_ok : (o : Option ReadFault) (r : Result Meant ReadFault) (m : Meant) → unless o r ≡ Ok m → (o ≡ None) × (r ≡ Ok m)
unless_ok None r m e = (refl, e)
unless_ok (Some fault) r m e = absurd cc

meant_texts : (all : List Placed) (queries : List SymbolAsked) (m : Meant) → with_queries all queries ≡ Ok m → m.texts ≡ flat_map texts_of all
meant_texts all [] m e = absurd cc
meant_texts all (q ∷ more) m e = sym (ap texts_or_none e)
  where
    texts_or_none : Result Meant ReadFault → List (List ℕ)
    texts_or_none (Ok x) = x.texts
    texts_or_none (Err x) = []

pub input_names : (files : List (List ℕ)) (input : InputValue) → IsInput files input → AreReadableNames input.names
input_names files input (m, (reads, are, outcome), numbered) =
    let whole = unless_ok (files_fault 0 reads) (meant (placed 0 reads)) m (sym outcome) in
    let counted = unless_ok _ _ m whole.1 in
    let texts : m.texts ≡ flat_map texts_of (placed 0 reads) = meant_texts (placed 0 reads) _ m counted.1 in
    let each : (t : List ℕ) → Contains (in_order m.texts) t → IsNameText t = λ t i.
    (let j : Contains (flat_map texts_of (placed 0 reads)) t = subst (λ (l : List (List ℕ)). Contains l t) texts (Contains-from_first_occurrences bytes_eq IsEquality-bytes_eq m.texts t i) in
    let (p, k, l) = Contains-from_flat_map texts_of (placed 0 reads) t j in
    names_of_placed p.file p.number p.starts p.before p.statement t (files_good 0 files reads are whole.0 p k) l) in
    subst AreReadableNames (sym numbered.names) (record { different = IsDistinct-first_occurrences bytes_eq IsEquality-bytes_eq m.texts; spelled = All-from_contains IsNameText (in_order m.texts) each })
