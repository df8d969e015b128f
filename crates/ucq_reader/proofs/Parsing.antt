-- The steps of the loop over a file's statements.
use Rattle.std.proofs.Common.{◌≡◌, ℕ, zero, suc, ◌+◌, ◌-◌, ◌<◌, ◌≤◌, List, [], ◌∷◌, ◌++◌, length, take, drop, get_or, refl, sym, ap, subst, ◌∙◌, arith}
use Rattle.std.specs.Prelude.{map, All}
use Rattle.std.proofs.lemmas.List.{append-nil, length-append, length-drop, length-map, take_rest, drop-drop}
use Rattle.std.proofs.lemmas.List.Elements.{All-nil, All-cons, All-take, All-drop}
use Rattle.ucq_lexer.specs.declared.Token.{Token}
use Rattle.ucq_lexer.specs.Tokens.{IsTokenOf, Reads as ReadsTokens, Spells}
use Rattle.ucq_lexer.proofs.Reading.{front_longest, longest_is_front}
use Rattle.ucq_lexer.proofs.Loop.{gap_le}
use Rattle.ucq_reader.specs.declared.syntax.StatementForm.{StatementForm}
use Rattle.ucq_reader.specs.declared.stages.Ending.{Ending}
use Rattle.ucq_reader.specs.declared.stages.Ending.TheVariants.{Complete, Bad, Unfinished}
use Rattle.ucq_reader.specs.Statement.{Word, Statement, spelling}
use Rattle.ucq_reader.specs.Machine.{begin, outcome, complete}
use Rattle.ucq_reader.specs.File.{Reads, AreStatements, IsBadStatement, IsOpenEnd}
use Rattle.ucq_reader.specs.View.{word_at, statement_view}
use Rattle.ucq_reader.specs.inner.Ending.{words_from, IsEnding}
use Rattle.ucq_reader.specs.Input.{words, starts}
use Rattle.ucq_reader.proofs.Reading.{spelling_nonempty}
use Rattle.ucq_reader.proofs.Outcomes.{complete_is, reads_more, bad_is, open_is}

-- a token lies in the text
abbrev pub LiesIn : List ℕ → Token → Type 0
LiesIn text t = (t.start ≤ t.end) × (t.end ≤ length text)

token_in : (text : List ℕ) (t : Token) → IsTokenOf text t → (t.start < t.end) × (t.end ≤ length text)
token_in text t h =
    let pos = (front_longest (drop t.start text) t.kind (t.end - t.start) (longest_is_front (drop t.start text) t.kind (t.end - t.start) h)).0 in
    (omega arith, omega (arith, h.begins.within, length-drop t.start text))

all_in : (text : List ℕ) (a : ℕ) (ts : List Token) (b : ℕ) → ReadsTokens text a ts b → All (LiesIn text) ts
all_in text a [] b r = All-nil (LiesIn text)
all_in text a (t ∷ ts) b r =
    let here = token_in text t r.1 in
    All-cons (LiesIn text) t ts (omega arith, here.1) (all_in text t.end ts b r.2)

count_in : (text : List ℕ) (a : ℕ) (ts : List Token) (b : ℕ) → ReadsTokens text a ts b → a + length ts ≤ b
count_in text a [] b r = omega (arith, gap_le text r)
count_in text a (t ∷ ts) b r =
    let here = token_in text t r.1 in
    omega (arith, gap_le text r.0, here.0, count_in text t.end ts b r.2)

pub tokens_in : (text : List ℕ) (ts : List Token) → Spells text ts → All (LiesIn text) ts
tokens_in text ts r = all_in text 0 ts (length text) r

pub tokens_count : (text : List ℕ) (ts : List Token) → Spells text ts → length ts ≤ length text
tokens_count text ts r = omega (arith, count_in text 0 ts (length text) r)

pub rest_in : (text : List ℕ) (ts : List Token) (n place : ℕ) → Spells text ts → All (LiesIn text) (take n (drop place ts))
rest_in text ts n place r = All-take (LiesIn text) n (drop place ts) (All-drop (LiesIn text) place ts (tokens_in text ts r))

-- the tokens from a place on, as the code takes them
pub ending_at : (text : List ℕ) (ts : List Token) (place : ℕ) (e : Ending) → IsEnding text (take (length ts - place) (drop place ts)) e → IsEnding text (drop place ts) e
ending_at text ts place e h = subst (λ (us : List Token). IsEnding text us e) (take_rest ts place) h

words_length : (text : List ℕ) (ts : List Token) (place : ℕ) → length (words_from text ts place) ≡ length ts - place
words_length text ts place = length-map (drop place ts) (word_at text) ∙ length-drop place ts

words_later : (text : List ℕ) (ts : List Token) (place count : ℕ) → words_from text (drop place ts) count ≡ words_from text ts (place + count)
words_later text ts place count = ap (map (word_at text)) (drop-drop count place ts)

pub spelling_pos : (s : Statement) → 0 < length (spelling s)
spelling_pos s = go (spelling s) refl
  where
    go : (ws : List Word) → spelling s ≡ ws → 0 < length ws
    go [] e = absurd (spelling_nonempty s [] (sym (append-nil (spelling s) ∙ e)))
    go (w ∷ ws) e = omega arith

pub record IsMore (text : List ℕ) (ts : List Token) (ss : List Statement) (place count : ℕ) (s : Statement) : Type 0 where
  pub some : 0 < count
  pub counted : count ≡ length (spelling s)
  pub within : place + count ≤ length ts
  pub reads : Reads (words text ts) (ss ++ s ∷ []) (words_from text ts (place + count))

pub complete_more : (text : List ℕ) (ts : List Token) (ss : List Statement) (place count : ℕ) (form : StatementForm) → place ≤ length ts → Reads (words text ts) ss (words_from text ts place) → IsEnding text (drop place ts) (Complete form count) → IsMore text ts ss place count (statement_view text form)
complete_more text ts ss place count form le r e =
    let done : outcome begin (words_from text ts place) ≡ complete (statement_view text form) (words_from text ts (place + count)) = e.1 ∙ ap (complete (statement_view text form)) (words_later text ts place count) in
    let is = complete_is (words_from text ts place) (statement_view text form) (words_from text ts (place + count)) done in
    let lengths = ap length is.0 ∙ length-append (spelling (statement_view text form)) (words_from text ts (place + count)) in
    record {
      some = omega (arith, lengths, words_length text ts place, words_length text ts (place + count), spelling_pos (statement_view text form), e.0, length-drop place ts);
      counted = omega (arith, lengths, words_length text ts place, words_length text ts (place + count), e.0, length-drop place ts);
      within = omega (arith, e.0, length-drop place ts);
      reads = reads_more (words text ts) ss (statement_view text form) (words_from text ts place) (words_from text ts (place + count)) r done;
    }

-- the words of the statement, and those after it
pub words_parts : (text : List ℕ) (ts : List Token) (place count : ℕ) (form : StatementForm) → IsEnding text (drop place ts) (Complete form count) → words_from text ts place ≡ spelling (statement_view text form) ++ words_from text ts (place + count)
words_parts text ts place count form e =
    let done : outcome begin (words_from text ts place) ≡ complete (statement_view text form) (words_from text ts (place + count)) = e.1 ∙ ap (complete (statement_view text form)) (words_later text ts place count) in
    (complete_is (words_from text ts place) (statement_view text form) (words_from text ts (place + count)) done).0

pub bad_here : (text : List ℕ) (ts : List Token) (ss : List Statement) (place count : ℕ) → place ≤ length ts → Reads (words text ts) ss (words_from text ts place) → IsEnding text (drop place ts) (Bad count) → IsBadStatement (words text ts) (length ss) (place + count)
bad_here text ts ss place count le r (lt, w, rest, split, done) =
    let b = bad_is (words text ts) ss (words_from text ts place) w rest r done in
    let long : length (w ∷ rest) ≡ length ts - (place + count) = ap length (sym split ∙ words_later text ts place count) ∙ words_length text ts (place + count) in
    let all : length (words text ts) ≡ length ts = length-map ts (word_at text) in
    let at : length (words text ts) - length (w ∷ rest) ≡ place + count = omega (arith, long, all, lt, length-drop place ts) in
    subst (IsBadStatement (words text ts) (length ss)) at b

pub open_here : (text : List ℕ) (ts : List Token) (ss : List Statement) (place : ℕ) → place < length ts → Reads (words text ts) ss (words_from text ts place) → IsEnding text (drop place ts) Unfinished → IsOpenEnd (words text ts) place
open_here text ts ss place lt r done =
    let o = open_is (words text ts) ss (words_from text ts place) r (omega (arith, words_length text ts place)) done in
    let all : length (words text ts) ≡ length ts = length-map ts (word_at text) in
    let at : length (words text ts) - length (words_from text ts place) ≡ place = omega (arith, words_length text ts place, all) in
    subst (IsOpenEnd (words text ts)) at o

pub start_at : (ts : List Token) (i : ℕ) (d : Token) → i < length ts → (get_or ts i d).start ≡ get_or (starts ts) i 0
start_at [] i d h = absurd (omega arith)
start_at (t ∷ ts) zero d h = refl
start_at (t ∷ ts) (suc i) d h = start_at ts i d (omega arith)

pub all_read : (text : List ℕ) (ts : List Token) (ss : List Statement) (place : ℕ) → length ts ≤ place → Reads (words text ts) ss (words_from text ts place) → AreStatements (words text ts) ss
all_read text ts ss place ge r = subst (Reads (words text ts) ss) (nil (words_from text ts place) (words_length text ts place ∙ omega arith)) r
  where
    nil : (ws : List Word) → length ws ≡ 0 → ws ≡ []
    nil [] e = refl
    nil (w ∷ ws) e = absurd (omega arith)

pub ending_is : (text : List ℕ) (ts ds : List Token) (place : ℕ) (o e : Ending) → ds ≡ ts → o ≡ e → IsEnding text (take (length ds - place) (drop place ds)) o → IsEnding text (drop place ts) e
ending_is text ts ds place o e same is h = subst (IsEnding text (drop place ts)) is (subst (λ (us : List Token). IsEnding text (drop place us) o) same (ending_at text ds place o h))
