-- The statements of a file are taken one by one.
use Rattle.std.proofs.Common.{◌≡◌, ℕ, ◌+◌, ◌-◌, ◌<◌, ◌≤◌, map, List, [], ◌∷◌, ◌++◌, length, take, drop, Option, Some, None, refl, sym, ap, subst, ◌∙◌, append_assoc, arith}
use Rattle.std.specs.List.{take-map, drop-map}
use Rattle.std.proofs.lemmas.List.{append-nil, drop-drop, length-append, length-map, length-take, length-drop, map-append, take_at}
use Rattle.std.proofs.lemmas.List.Sums.{sum_by-cons}
use Rattle.ucq_lexer.specs.declared.Token.{Token}
use Rattle.ucq_lexer.specs.Tokens.{Spells}
use Rattle.ucq_reader.specs.declared.ReadFault.{ReadFault}
use Rattle.ucq_reader.specs.declared.ReadFault.TheVariants.{BadByte, BadStatement, OpenEnd, UnknownPrefix, NotBuilt, Limit, Unsafe, TooMany, NoQuery, Memory}
use Rattle.ucq_reader.specs.declared.names.Declaration.{Declaration}
use Rattle.ucq_reader.specs.declared.syntax.StatementForm.{StatementForm}
use Rattle.ucq_reader.specs.declared.stages.Ending.TheVariants.{Complete}
use Rattle.ucq_reader.specs.Statement.{Word, Statement, spelling}
use Rattle.ucq_reader.specs.File.{Reads, AreStatements}
use Rattle.ucq_reader.specs.Names.{Declared, declare}
use Rattle.ucq_reader.specs.Meaning.{Placed, placed_from, statement_fault, first_of, parsed}
use Rattle.ucq_reader.specs.Input.{words, starts, IsRead}
use Rattle.ucq_reader.specs.Gathered.{GatheredValue, IsGathered}
use Rattle.ucq_reader.specs.Outcome.{OrMemory, word_count, AreTakenUp, GrowsBy, IsAdmitted, IsJudged, IsFileTaken, IsFileFault}
use Rattle.ucq_reader.specs.inner.Ending.{words_from, IsEnding}
use Rattle.ucq_reader.specs.inner.Placing.{placed_view, IsSpelledBy}
use Rattle.ucq_reader.specs.View.{word_at, declared_view, statement_view}
use Rattle.ucq_reader.proofs.Numbering.{first_of-append}
use Rattle.ucq_reader.proofs.Parsing.{IsMore, tokens_count, complete_more, words_parts, all_read}

pub or_memory : (P : ReadFault → Type 0) (f : ReadFault) → P f → OrMemory P f
or_memory P Memory p = tt
or_memory P (BadByte file at) p = p
or_memory P (BadStatement file number at) p = p
or_memory P (OpenEnd file at) p = p
or_memory P (UnknownPrefix file at) p = p
or_memory P (NotBuilt file number kind) p = p
or_memory P (Limit file number which count) p = p
or_memory P (Unsafe file number place) p = p
or_memory P (TooMany which count) p = p
or_memory P NoQuery p = p

pub or_memory_map : (P Q : ReadFault → Type 0) → ((f : ReadFault) → P f → Q f) → (f : ReadFault) → OrMemory P f → OrMemory Q f
or_memory_map P Q h Memory p = tt
or_memory_map P Q h (BadByte file at) p = h (BadByte file at) p
or_memory_map P Q h (BadStatement file number at) p = h (BadStatement file number at) p
or_memory_map P Q h (OpenEnd file at) p = h (OpenEnd file at) p
or_memory_map P Q h (UnknownPrefix file at) p = h (UnknownPrefix file at) p
or_memory_map P Q h (NotBuilt file number kind) p = h (NotBuilt file number kind) p
or_memory_map P Q h (Limit file number which count) p = h (Limit file number which count) p
or_memory_map P Q h (Unsafe file number place) p = h (Unsafe file number place) p
or_memory_map P Q h (TooMany which count) p = h (TooMany which count) p
or_memory_map P Q h NoQuery p = h NoQuery p

-- these statements have been read, up to the token at the place
pub record IsReadTo (text : List ℕ) (ts : List Token) (place number : ℕ) (ss : List Statement) : Type 0 where
  pub within : place ≤ length ts
  pub numbered : number ≡ length ss
  pub few : number ≤ place
  pub reads : Reads (words text ts) ss (words_from text ts place)

-- they have been taken
pub record AreTaken (file : ℕ) (text : List ℕ) (ts : List Token) (place number : ℕ) (ss : List Statement) (ds : List Declaration) (old new : GatheredValue) : Type 0 where
  pub done : List Placed
  pub split : (more : List Statement) → placed_from file 0 (starts ts) [] (ss ++ more) ≡ done ++ placed_from file number (starts (drop place ts)) (declared_view text ds) more
  pub clear : first_of (map statement_fault done) ≡ None
  pub taken : AreTakenUp done old new
  pub names : length new.names ≤ length old.names + place
  pub unknowns : new.unknowns ≤ old.unknowns + place
  pub asked : new.asked ≤ old.asked + place

-- one of them has the first refusal, whatever follows
abbrev pub IsRefusalOf : ℕ → List Token → List Statement → ReadFault → Type 0
IsRefusalOf file ts ss fault = (more : List Statement) → first_of (map statement_fault (placed_from file 0 (starts ts) [] (ss ++ more))) ≡ Some fault

-- they have been taken, or there is a refusal
abbrev pub AreJudged : ℕ → List ℕ → List Token → ℕ → ℕ → List Statement → List Declaration → Option ReadFault → GatheredValue → GatheredValue → Type 0
AreJudged file text ts place number ss ds None old new = AreTaken file text ts place number ss ds old new
AreJudged file text ts place number ss ds (Some fault) old new = OrMemory (IsRefusalOf file ts ss) fault

-- the statements of a file up to the token at the place
pub record IsTakenTo (file : ℕ) (text : List ℕ) (ts : List Token) (place number : ℕ) (ds : List Declaration) (refusal : Option ReadFault) (old new : GatheredValue) : Type 0 where
  pub before : List Statement
  pub read : IsReadTo text ts place number before
  pub judged : AreJudged file text ts place number before ds refusal old new

pub start : (file : ℕ) (text : List ℕ) (ts : List Token) (g : GatheredValue) → IsTakenTo file text ts 0 0 [] None g g
start file text ts g = record {
  before = [];
  read = record { within = omega arith; numbered = refl; few = omega arith; reads = refl };
  judged = record {
    done = [];
    split = λ more. refl;
    clear = refl;
    taken = λ all gathered. subst (λ (ps : List Placed). IsGathered ps g) (sym (append-nil all)) gathered;
    names = omega arith;
    unknowns = omega arith;
    asked = omega arith;
  };
}

-- where nothing was refused, so much was taken
pub taken_in : (file : ℕ) (text : List ℕ) (ts : List Token) (place number : ℕ) (ss : List Statement) (ds : List Declaration) (refusal : Option ReadFault) (old new : GatheredValue) → AreJudged file text ts place number ss ds refusal old new → refusal ≡ None → AreTaken file text ts place number ss ds old new
taken_in file text ts place number ss ds refusal old new t e = subst (λ (o : Option ReadFault). AreJudged file text ts place number ss ds o old new) e t

-- ---- the next statement

-- the tokens of the statement that begins at the place
abbrev pub tokens_at : List Token → ℕ → ℕ → List Token
tokens_at ts place count = take count (drop place ts)

pub between : (ts : List Token) (place count : ℕ) → take (place + count - place) (drop place ts) ≡ tokens_at ts place count
between ts place count = ap (λ (n : ℕ). take n (drop place ts)) (omega arith)

clear_more : (ps : List Placed) (p : Placed) → first_of (map statement_fault ps) ≡ None → statement_fault p ≡ None → first_of (map statement_fault (ps ++ p ∷ [])) ≡ None
clear_more ps p e f = ap first_of (map-append statement_fault ps (p ∷ [])) ∙ (first_of-append (map statement_fault ps) (statement_fault p ∷ []) ∙ (ap (λ (o : Option ReadFault). first_of (o ∷ first_of (statement_fault p ∷ []) ∷ [])) e ∙ ap (λ (o : Option ReadFault). first_of (first_of (o ∷ []) ∷ [])) f))

first_fault : (ps : List Placed) (p : Placed) (later : List Placed) (fault : ReadFault) → first_of (map statement_fault ps) ≡ None → statement_fault p ≡ Some fault → first_of (map statement_fault (ps ++ p ∷ later)) ≡ Some fault
first_fault ps p later fault e f = ap first_of (map-append statement_fault ps (p ∷ later)) ∙ (first_of-append (map statement_fault ps) (statement_fault p ∷ map statement_fault later) ∙ (ap (λ (o : Option ReadFault). first_of (o ∷ first_of (statement_fault p ∷ map statement_fault later) ∷ [])) e ∙ ap (λ (o : Option ReadFault). first_of (first_of (o ∷ map statement_fault later) ∷ [])) f))

-- The statement at the place is one more.
module _ (file : ℕ) (text : List ℕ) (ts : List Token) (place number : ℕ) (form : StatementForm) (count : ℕ) (ss : List Statement) (read : IsReadTo text ts place number ss)
    (ending : IsEnding text (drop place ts) (Complete form count)) where
  abbrev pub s : Statement
  s = statement_view text form

  more : IsMore text ts ss place count (statement_view text form)
  more = complete_more text ts ss place count form read.within read.reads ending

  split_words : words_from text ts place ≡ spelling s ++ words_from text ts (place + count)
  split_words = words_parts text ts place count form ending

  pub within : place + count ≤ length ts
  within = more.within

  pub some : 0 < count
  some = more.some

  pub size : length (tokens_at ts place count) ≡ count
  size = omega (arith, length-take count (drop place ts), length-drop place ts, more.within)

  pub spelled : IsSpelledBy text (tokens_at ts place count) form
  spelled = sym (sym (take-map (word_at text) count (drop place ts)) ∙ (ap (take count) split_words ∙ take_at (spelling s) (words_from text ts (place + count)) count (sym more.counted)))

  read_more : IsReadTo text ts (place + count) (number + 1) (ss ++ s ∷ [])
  read_more = record {
    within = more.within;
    numbered = omega (arith, read.numbered, length-append ss (s ∷ []));
    few = omega (arith, read.few, more.some);
    reads = more.reads;
  }

  module _ (ds : List Declaration) where
    abbrev pub here : Placed
    here = placed_view file number text ds (tokens_at ts place count) form

    abbrev pub later : List Statement → List Placed
    later rest = placed_from file (number + 1) (starts (drop (place + count) ts)) (declare (declared_view text ds) s) rest

    placed_here : (rest : List Statement) → placed_from file number (starts (drop place ts)) (declared_view text ds) (s ∷ rest) ≡ here ∷ later rest
    placed_here rest =
        let first : take (length (spelling s)) (starts (drop place ts)) ≡ starts (tokens_at ts place count) = ap (λ (n : ℕ). take n (starts (drop place ts))) (sym more.counted) ∙ take-map (λ (t : Token). t.start) count (drop place ts) in
        let others : drop (length (spelling s)) (starts (drop place ts)) ≡ starts (drop (place + count) ts) = ap (λ (n : ℕ). drop n (starts (drop place ts))) (sym more.counted) ∙ (drop-map (λ (t : Token). t.start) count (drop place ts) ∙ ap starts (drop-drop count place ts)) in
        ap (λ (xs : List ℕ). record { file = file; number = number; starts = xs; before = declared_view text ds; statement = s } ∷ placed_from file (number + 1) (drop (length (spelling s)) (starts (drop place ts))) (declare (declared_view text ds) s) rest) first
        ∙ ap (λ (xs : List ℕ). here ∷ placed_from file (number + 1) xs (declare (declared_view text ds) s) rest) others

    module _ (old mid : GatheredValue) (t : AreTaken file text ts place number ss ds old mid) where
      split_here : (rest : List Statement) → placed_from file 0 (starts ts) [] ((ss ++ s ∷ []) ++ rest) ≡ t.done ++ (here ∷ later rest)
      split_here rest = ap (placed_from file 0 (starts ts) []) (append_assoc ss (s ∷ []) rest) ∙ (t.split (s ∷ rest) ∙ ap (λ (ps : List Placed). t.done ++ ps) (placed_here rest))

      -- it is taken
      pub step : (ds' : List Declaration) (new : GatheredValue) → statement_fault here ≡ None → AreTakenUp (here ∷ []) mid new → GrowsBy mid new (length (tokens_at ts place count)) → declared_view text ds' ≡ declare (declared_view text ds) s → IsTakenTo file text ts (place + count) (number + 1) ds' None old new
      step ds' new none taken grown declares = record {
        before = ss ++ s ∷ [];
        read = read_more;
        judged = record {
          done = t.done ++ here ∷ [];
          split = λ rest. split_here rest ∙ (sym (append_assoc t.done (here ∷ []) (later rest)) ∙ ap (λ (d : Declared). (t.done ++ here ∷ []) ++ placed_from file (number + 1) (starts (drop (place + count) ts)) d rest) (sym declares));
          clear = clear_more t.done here t.clear none;
          taken = λ before gathered. subst (λ (ps : List Placed). IsGathered ps new) (append_assoc before t.done (here ∷ [])) (taken (before ++ t.done) (t.taken before gathered));
          names = omega (arith, t.names, grown.names, size);
          unknowns = omega (arith, t.unknowns, grown.unknowns, size);
          asked = omega (arith, t.asked, grown.asked, size);
        };
      }

      -- it is refused
      pub refuse : (ds' : List Declaration) (new : GatheredValue) (fault : ReadFault) → OrMemory (λ (g : ReadFault). statement_fault here ≡ Some g) fault → IsTakenTo file text ts (place + count) (number + 1) ds' (Some fault) old new
      refuse ds' new fault is = record {
        before = ss ++ s ∷ [];
        read = read_more;
        judged = or_memory_map (λ (g : ReadFault). statement_fault here ≡ Some g) (IsRefusalOf file ts (ss ++ s ∷ [])) (λ g e rest. ap (λ (ps : List Placed). first_of (map statement_fault ps)) (split_here rest) ∙ first_fault t.done here (later rest) g t.clear e) fault is;
      }

  -- an earlier one was refused
  pub pass : (ds : List Declaration) (old new : GatheredValue) (fault : ReadFault) → OrMemory (IsRefusalOf file ts ss) fault → IsTakenTo file text ts (place + count) (number + 1) ds (Some fault) old new
  pass ds old new fault is = record {
    before = ss ++ s ∷ [];
    read = read_more;
    judged = or_memory_map (IsRefusalOf file ts ss) (IsRefusalOf file ts (ss ++ s ∷ [])) (λ g h rest. ap (λ (xs : List Statement). first_of (map statement_fault (placed_from file 0 (starts ts) [] xs))) (append_assoc ss (s ∷ []) rest) ∙ h (s ∷ rest)) fault is;
  }

  -- The statement is judged.
  pub judge : (ds ds' : List Declaration) (refusal result : Option ReadFault) (old mid new : GatheredValue) → AreJudged file text ts place number ss ds refusal old mid → IsJudged refusal (here ds) (IsAdmitted text (here ds) (length (tokens_at ts place count)) ds ds' mid new) result → IsTakenTo file text ts (place + count) (number + 1) ds' result old new
  judge ds ds' None None old mid new t is = step ds old mid t ds' new is.clear is.taken is.grown is.declared
  judge ds ds' None (Some fault) old mid new t is = refuse ds old mid t ds' new fault is
  judge ds ds' (Some fault) result old mid new t is = subst (λ (o : Option ReadFault). IsTakenTo file text ts (place + count) (number + 1) ds' o old new) (sym is) (pass ds' old new fault t)

-- ---- the end of the file

-- the words of a file's statements are those of its tokens
words_of_file : (file number : ℕ) (places : List ℕ) (ds : Declared) (ss : List Statement) (ws : List Word) → AreStatements ws ss → word_count (placed_from file number places ds ss) ≡ length ws
words_of_file file number places ds [] ws r = sym (ap length r)
words_of_file file number places ds (s ∷ ss) ws (after, split, dot, r) = sum_by-cons (λ (p : Placed). length (spelling p.statement)) (record { file = file; number = number; starts = take (length (spelling s)) places; before = ds; statement = s }) (placed_from file (number + 1) (drop (length (spelling s)) places) (declare ds s) ss) ∙ (ap (λ (n : ℕ). length (spelling s) + n) (words_of_file file (number + 1) (drop (length (spelling s)) places) (declare ds s) ss after r) ∙ sym (ap length split ∙ length-append (spelling s) after))

-- Their tokens are all of the file's.
module _ (file : ℕ) (text : List ℕ) (ts : List Token) (place number : ℕ) (ss : List Statement) (spells : Spells text ts) (read : IsReadTo text ts place number ss) (h : length ts ≤ place) where
  are : AreStatements (words text ts) ss
  are = all_read text ts ss place h read.reads

  read_of : IsRead file text (parsed ss (starts ts))
  read_of = (ts, spells, are, refl)

  -- all are taken
  pub finish : (ds : List Declaration) (old new : GatheredValue) → AreTaken file text ts place number ss ds old new → IsFileTaken file text old new
  finish ds old new t =
      let whole : placed_from file 0 (starts ts) [] ss ≡ t.done = ap (placed_from file 0 (starts ts) []) (sym (append-nil ss)) ∙ (t.split [] ∙ append-nil t.done) in
      let count = tokens_count text ts spells in
      record {
        statements = ss;
        places = starts ts;
        read = read_of;
        clear = ap (λ (ps : List Placed). first_of (map statement_fault ps)) whole ∙ t.clear;
        taken = λ before gathered. subst (λ (ps : List Placed). IsGathered (before ++ ps) new) (sym whole) (t.taken before gathered);
        grown = record { names = omega (arith, t.names, count, read.within); unknowns = omega (arith, t.unknowns, count, read.within); asked = omega (arith, t.asked, count, read.within) };
        few = omega (arith, count, words_of_file file 0 (starts ts) [] ss (words text ts) are, length-map ts (word_at text));
      }

  -- the refusal is the file's
  pub refused : (fault : ReadFault) → OrMemory (IsRefusalOf file ts ss) fault → OrMemory (IsFileFault file text) fault
  refused fault is = or_memory_map (IsRefusalOf file ts ss) (IsFileFault file text) (λ g h. (parsed ss (starts ts), read_of, ap (λ (xs : List Statement). first_of (map statement_fault (placed_from file 0 (starts ts) [] xs))) (sym (append-nil ss)) ∙ h [])) fault is
