-- The symbols of a sentence, by the words that spell it.
use Rattle.std.proofs.Common.{◌≡◌, ℕ, ◌≤◌, List, [], ◌∷◌, ◌++◌, map, length, refl, ap, ap₂, ◌∙◌, arith}
use Rattle.std.specs.Prelude.{Option, Some, None}
use Rattle.std.specs.List.{filter_map, cons_option}
use Rattle.std.proofs.lemmas.List.{append-nil}
use Rattle.std.proofs.lemmas.List.Elements.{filter_map-append}
use Rattle.ucq_reader.specs.Statement.{Word, variable, identifier, iri, prefixed, integer, text, closing, dot, if_sign, NameSyntax, by_identifier, by_iri, by_prefixed, TermSyntax, a_variable, a_name, an_integer, a_text, AtomSyntax, Several, a_fact, a_rule, a_query, a_sentence, Sentence, Statement}
use Rattle.ucq_reader.specs.Statement.{name_word, term_word, more_terms, terms_words, atom_words, more_atoms, atoms_words, answers_words, sentence_words, label_words, spelling}
use Rattle.ucq_reader.specs.Names.{Declared, name_text, word_text, expanded}
use Rattle.ucq_reader.specs.Meaning.{Symbol, constant, SymbolAtom, SymbolRule, SymbolQuery, SymbolAsked, Placed, symbol, symbol_atom, symbol_atoms, listed, answer_terms, texts_of, rule_of, asked_of, fact_of}
use Rattle.ucq_reader.specs.Meaning.{variable as variable_symbol}
use Rattle.ucq_reader.specs.Building.{constants_of, atom_symbols, symbols_in, query_symbols}

-- the symbol that a word stands for
abbrev pub word_symbol : Declared → Word → Option Symbol
word_symbol ds (variable bytes) = Some (variable_symbol bytes)
word_symbol ds (identifier bytes) = Some (constant bytes)
word_symbol ds (iri bytes) = Some (constant bytes)
word_symbol ds (prefixed bytes) = Some (constant (expanded ds bytes))
word_symbol ds (integer bytes) = Some (constant bytes)
word_symbol ds (text bytes) = Some (constant bytes)
word_symbol ds _ = None

one_text : (ds : Declared) (w : Word) (texts : List (List ℕ)) (symbols : List Symbol) → texts ≡ constants_of symbols → cons_option (word_text ds w) texts ≡ constants_of (cons_option (word_symbol ds w) symbols)
one_text ds (variable bytes) texts symbols e = e
one_text ds (identifier bytes) texts symbols e = ap (λ l. bytes ∷ l) e
one_text ds (iri bytes) texts symbols e = ap (λ l. bytes ∷ l) e
one_text ds (prefixed bytes) texts symbols e = ap (λ l. expanded ds bytes ∷ l) e
one_text ds (integer bytes) texts symbols e = ap (λ l. bytes ∷ l) e
one_text ds (text bytes) texts symbols e = ap (λ l. bytes ∷ l) e
one_text ds _ texts symbols e = e

pub texts-symbols : (ds : Declared) (ws : List Word) → filter_map (word_text ds) ws ≡ constants_of (filter_map (word_symbol ds) ws)
texts-symbols ds [] = refl
texts-symbols ds (w ∷ ws) = one_text ds w (filter_map (word_text ds) ws) (filter_map (word_symbol ds) ws) (texts-symbols ds ws)

pub length-filter_map : {X Y : Type 0} (h : X → Option Y) (xs : List X) → length (filter_map h xs) ≤ length xs
length-filter_map h [] = omega arith
length-filter_map {X} {Y} h (x ∷ xs) = go (h x) (filter_map h xs) (length-filter_map h xs)
  where
    go : (o : Option Y) (ys : List Y) → length ys ≤ length xs → length (cons_option o ys) ≤ length (x ∷ xs)
    go None ys l = omega (arith, l)
    go (Some y) ys l = omega (arith, l)

-- ---- words of names, terms and atoms

name_symbols : (ds : Declared) (n : NameSyntax) → word_symbol ds (name_word n) ≡ Some (constant (name_text ds n))
name_symbols ds (by_identifier bytes) = refl
name_symbols ds (by_iri bytes) = refl
name_symbols ds (by_prefixed bytes) = refl

term_symbols : (ds : Declared) (t : TermSyntax) → word_symbol ds (term_word t) ≡ Some (symbol ds t)
term_symbols ds (a_variable bytes) = refl
term_symbols ds (a_name n) = name_symbols ds n
term_symbols ds (an_integer bytes) = refl
term_symbols ds (a_text bytes) = refl

more_terms_symbols : (ds : Declared) (ts : List TermSyntax) → filter_map (word_symbol ds) (more_terms ts) ≡ map (symbol ds) ts
more_terms_symbols ds [] = refl
more_terms_symbols ds (t ∷ ts) = ap₂ cons_option (term_symbols ds t) (more_terms_symbols ds ts)

terms_symbols : (ds : Declared) (ts : Several TermSyntax) → filter_map (word_symbol ds) (terms_words ts) ≡ map (symbol ds) (listed ts)
terms_symbols ds ts = ap₂ cons_option (term_symbols ds ts.first) (more_terms_symbols ds ts.others)

atom_words_symbols : (ds : Declared) (a : AtomSyntax) → filter_map (word_symbol ds) (atom_words a) ≡ atom_symbols (symbol_atom ds a)
atom_words_symbols ds a =
    ap₂ cons_option (name_symbols ds a.name)
    (filter_map-append (word_symbol ds) (terms_words a.terms) (closing ∷ []) ∙ (append-nil (filter_map (word_symbol ds) (terms_words a.terms)) ∙ terms_symbols ds a.terms))

more_atoms_symbols : (ds : Declared) (atoms : List AtomSyntax) → filter_map (word_symbol ds) (more_atoms atoms) ≡ symbols_in (map (symbol_atom ds) atoms)
more_atoms_symbols ds [] = refl
more_atoms_symbols ds (a ∷ atoms) = filter_map-append (word_symbol ds) (atom_words a) (more_atoms atoms) ∙ ap₂ (λ l m. l ++ m) (atom_words_symbols ds a) (more_atoms_symbols ds atoms)

atoms_words_symbols : (ds : Declared) (atoms : Several AtomSyntax) → filter_map (word_symbol ds) (atoms_words atoms) ≡ symbols_in (symbol_atoms ds atoms)
atoms_words_symbols ds atoms =
    filter_map-append (word_symbol ds) (atom_words atoms.first) (more_atoms atoms.others) ∙ ap₂ (λ l m. l ++ m) (atom_words_symbols ds atoms.first) (more_atoms_symbols ds atoms.others)

answers_symbols : (ds : Declared) (answers : Option (List TermSyntax)) → filter_map (word_symbol ds) (answers_words answers) ≡ map (symbol ds) (answer_terms answers)
answers_symbols ds None = refl
answers_symbols ds (Some []) = refl
answers_symbols ds (Some (t ∷ ts)) =
    let terms : Several TermSyntax = record { first = t; others = ts } in
    filter_map-append (word_symbol ds) (terms_words terms) (closing ∷ []) ∙ (append-nil (filter_map (word_symbol ds) (terms_words terms)) ∙ terms_symbols ds terms)

-- a label and the dot stand for nothing
sentence_symbols : (ds : Declared) (l : Option (List ℕ)) (ws : List Word) → filter_map (word_symbol ds) (label_words l ++ (ws ++ dot ∷ [])) ≡ filter_map (word_symbol ds) ws
sentence_symbols ds None ws = filter_map-append (word_symbol ds) ws (dot ∷ []) ∙ append-nil (filter_map (word_symbol ds) ws)
sentence_symbols ds (Some bytes) ws = filter_map-append (word_symbol ds) ws (dot ∷ []) ∙ append-nil (filter_map (word_symbol ds) ws)

-- ---- the symbols of sentences

-- a statement's symbols, by their number and the texts of their constants
pub record HasSymbols (ds : Declared) (s : Statement) (symbols : List Symbol) : Type 0 where
  pub spelled : filter_map (word_symbol ds) (spelling s) ≡ symbols

pub length-spelled : (ds : Declared) (s : Statement) (symbols : List Symbol) → HasSymbols ds s symbols → length symbols ≤ length (spelling s)
length-spelled ds s symbols h = omega (arith, ap length h.spelled, length-filter_map (word_symbol ds) (spelling s))

pub fact_symbols : (ds : Declared) (l : Option (List ℕ)) (atoms : Several AtomSyntax) → HasSymbols ds (a_sentence l (a_fact atoms)) (symbols_in (symbol_atoms ds atoms))
fact_symbols ds l atoms = record { spelled = sentence_symbols ds l (sentence_words (a_fact atoms)) ∙ atoms_words_symbols ds atoms }

pub rule_symbols : (ds : Declared) (l : Option (List ℕ)) (heads body : Several AtomSyntax) →
    HasSymbols ds (a_sentence l (a_rule heads body)) (symbols_in (symbol_atoms ds heads) ++ symbols_in (symbol_atoms ds body))
rule_symbols ds l heads body = record {
  spelled =
      sentence_symbols ds l (sentence_words (a_rule heads body)) ∙
      (filter_map-append (word_symbol ds) (atoms_words heads) (if_sign ∷ atoms_words body) ∙ ap₂ (λ x y. x ++ y) (atoms_words_symbols ds heads) (atoms_words_symbols ds body));
}

pub query_spelled : (ds : Declared) (l : Option (List ℕ)) (answers : Option (List TermSyntax)) (body : Several AtomSyntax) →
    HasSymbols ds (a_sentence l (a_query answers body)) (map (symbol ds) (answer_terms answers) ++ symbols_in (symbol_atoms ds body))
query_spelled ds l answers body = record {
  spelled =
      sentence_symbols ds l (sentence_words (a_query answers body)) ∙
      (filter_map-append (word_symbol ds) (answers_words answers) (if_sign ∷ atoms_words body) ∙ ap₂ (λ x y. x ++ y) (answers_symbols ds answers) (atoms_words_symbols ds body));
}

-- the texts of a sentence are those of its constants
pub sentence_texts : (file number : ℕ) (starts : List ℕ) (ds : Declared) (l : Option (List ℕ)) (s : Sentence) (symbols : List Symbol) → HasSymbols ds (a_sentence l s) symbols →
    texts_of (record { file = file; number = number; starts = starts; before = ds; statement = a_sentence l s }) ≡ constants_of symbols
sentence_texts file number starts ds l s symbols h = texts-symbols ds (spelling (a_sentence l s)) ∙ ap constants_of h.spelled

-- ---- the texts of what a statement stands for

pub fact_texts : (p : Placed) (f : List SymbolAtom) → fact_of p ≡ Some f → texts_of p ≡ constants_of (symbols_in f)
fact_texts p f e = go p.file p.number p.starts p.before p.statement f e
  where
    go : (file number : ℕ) (starts : List ℕ) (ds : Declared) (s : Statement) (f : List SymbolAtom) → fact_of (record { file = file; number = number; starts = starts; before = ds; statement = s }) ≡ Some f →
        texts_of (record { file = file; number = number; starts = starts; before = ds; statement = s }) ≡ constants_of (symbols_in f)
    go file number starts ds (a_sentence l (a_fact atoms)) f e =
        let same : symbol_atoms ds atoms ≡ f = cc in
        sentence_texts file number starts ds l (a_fact atoms) (symbols_in (symbol_atoms ds atoms)) (fact_symbols ds l atoms) ∙ ap (λ x. constants_of (symbols_in x)) same
    go file number starts ds _ f e = absurd cc

pub rule_texts : (p : Placed) (r : SymbolRule) → rule_of p ≡ Some r → texts_of p ≡ constants_of (symbols_in r.heads ++ symbols_in r.body)
rule_texts p r e = go p.file p.number p.starts p.before p.statement r e
  where
    go : (file number : ℕ) (starts : List ℕ) (ds : Declared) (s : Statement) (r : SymbolRule) → rule_of (record { file = file; number = number; starts = starts; before = ds; statement = s }) ≡ Some r →
        texts_of (record { file = file; number = number; starts = starts; before = ds; statement = s }) ≡ constants_of (symbols_in r.heads ++ symbols_in r.body)
    go file number starts ds (a_sentence l (a_rule heads body)) r e =
        let written : SymbolRule = record { heads = symbol_atoms ds heads; body = symbol_atoms ds body } in
        let same : written ≡ r = cc in
        sentence_texts file number starts ds l (a_rule heads body) (symbols_in (symbol_atoms ds heads) ++ symbols_in (symbol_atoms ds body)) (rule_symbols ds l heads body) ∙
        ap (λ (x : SymbolRule). constants_of (symbols_in x.heads ++ symbols_in x.body)) same
    go file number starts ds _ r e = absurd cc

pub query_texts : (p : Placed) (q : SymbolAsked) → asked_of p ≡ Some q → texts_of p ≡ constants_of (query_symbols q.query)
query_texts p q e = go p.file p.number p.starts p.before p.statement q e
  where
    go : (file number : ℕ) (starts : List ℕ) (ds : Declared) (s : Statement) (q : SymbolAsked) → asked_of (record { file = file; number = number; starts = starts; before = ds; statement = s }) ≡ Some q →
        texts_of (record { file = file; number = number; starts = starts; before = ds; statement = s }) ≡ constants_of (query_symbols q.query)
    go file number starts ds (a_sentence l (a_query answers body)) q e =
        let written : SymbolQuery = record { answers = map (symbol ds) (answer_terms answers); atoms = symbol_atoms ds body } in
        let same : (record { label = l; query = written }) ≡ q = cc in
        sentence_texts file number starts ds l (a_query answers body) (query_symbols written) (query_spelled ds l answers body) ∙ ap (λ (x : SymbolAsked). constants_of (query_symbols x.query)) same
    go file number starts ds _ q e = absurd cc
