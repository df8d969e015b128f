-- A statement has no more terms and atoms than words.
use Rattle.std.proofs.Common.{◌≡◌, ℕ, ◌+◌, ◌≤◌, true, false, cond, map, List, [], ◌∷◌, ◌++◌, length, Option, Some, None, ◌∙◌, arith, sym, ap, subst, Bool}
use Rattle.std.specs.Prelude.{nat_lt}
use Rattle.std.specs.Option.{option_or}
use Rattle.std.proofs.lemmas.List.{length-append, length-map, map-append}
use Rattle.std.proofs.lemmas.List.Folds.{find-append}
use Rattle.ucq_reader.specs.declared.syntax.StatementForm.{StatementForm}
use Rattle.ucq_reader.specs.declared.syntax.StatementForm.TheVariants as forms
use Rattle.ucq_reader.specs.declared.syntax.SentenceForm.{SentenceForm}
use Rattle.ucq_reader.specs.declared.syntax.SentenceForm.TheVariants as sentences
use Rattle.ucq_reader.specs.declared.syntax.AtomForm.{AtomForm}
use Rattle.ucq_reader.specs.declared.syntax.Several.{Several as SeveralForm}
use Rattle.ucq_lexer.specs.declared.Token.{Token}
use Rattle.ucq_reader.specs.Statement.{closing, if_sign, dot, Several, TermSyntax, AtomSyntax, a_fact, a_rule, a_query, a_constraint, Sentence, Statement, a_section, a_prefix, a_base, a_top, a_sentence, spelling, label_words, sentence_words, answers_words, more_terms, terms_words, atom_words, more_atoms, atoms_words}
use Rattle.ucq_reader.specs.Meaning.{listed, arity, answer_terms, written_atoms, written_answers, limited_atoms, first_above}
use Rattle.ucq_reader.specs.View.{atoms_view, statement_view, word_at}
use Rattle.ucq_reader.specs.inner.Placing.{IsSpelledBy}

-- ---- numbers that are at most this

abbrev pub AtMost : ℕ → List ℕ → Type 0
AtMost n [] = Unit {0}
AtMost n (x ∷ xs) = (x ≤ n) × AtMost n xs

at_most-append : (n : ℕ) (xs ys : List ℕ) → AtMost n xs → AtMost n ys → AtMost n (xs ++ ys)
at_most-append n [] ys p q = q
at_most-append n (x ∷ xs) ys p q = (p.0, at_most-append n xs ys p.1 q)

at_most_more : (n m : ℕ) (xs : List ℕ) → n ≤ m → AtMost n xs → AtMost m xs
at_most_more n m [] le p = tt
at_most_more n m (x ∷ xs) le p = (omega (arith, p.0), at_most_more n m xs le p.1)

pub above_at_most : (limit n : ℕ) (xs : List ℕ) (c : ℕ) → AtMost n xs → Some c ≡ first_above limit xs → c ≤ n
above_at_most limit n [] c p e = absurd cc
above_at_most limit n (x ∷ xs) c p e = go (nat_lt limit x) (above_at_most limit n xs c p.1) e
  where
    go : (b : Bool) → (Some c ≡ first_above limit xs → c ≤ n) → Some c ≡ cond b (Some x) (first_above limit xs) → c ≤ n
    go true later f = let same : x ≡ c = cc in subst (λ (y : ℕ). y ≤ n) same p.0
    go false later f = later f

-- ---- terms and atoms against words

more_terms_length : (ts : List TermSyntax) → length ts ≤ length (more_terms ts)
more_terms_length [] = omega arith
more_terms_length (t ∷ ts) = omega (arith, more_terms_length ts)

terms_length : (ts : Several TermSyntax) → length (listed ts) ≤ length (terms_words ts)
terms_length ts = omega (arith, more_terms_length ts.others)

arity_length : (a : AtomSyntax) → arity a + 1 ≤ length (atom_words a)
arity_length a = omega (arith, terms_length a.terms, length-append (terms_words a.terms) (closing ∷ []))

more_atoms_length : (atoms : List AtomSyntax) → (length atoms ≤ length (more_atoms atoms)) × AtMost (length (more_atoms atoms)) (map arity atoms)
more_atoms_length [] = (omega arith, tt)
more_atoms_length (a ∷ rest) =
    let later = more_atoms_length rest in
    let all = length-append (atom_words a) (more_atoms rest) in (
      omega (arith, later.0, all),
      (omega (arith, all, arity_length a), at_most_more (length (more_atoms rest)) (length (more_atoms (a ∷ rest))) (map arity rest) (omega (arith, all)) later.1),
    )

-- no more atoms than words, and no atom with more terms
pub atoms_length : (atoms : Several AtomSyntax) → (length (listed atoms) ≤ length (atoms_words atoms)) × AtMost (length (atoms_words atoms)) (map arity (listed atoms))
atoms_length atoms =
    let later = more_atoms_length atoms.others in
    let all = length-append (atom_words atoms.first) (more_atoms atoms.others) in (
      omega (arith, later.0, all, arity_length atoms.first),
      (omega (arith, all, arity_length atoms.first), at_most_more (length (more_atoms atoms.others)) (length (atoms_words atoms)) (map arity atoms.others) (omega (arith, all)) later.1),
    )

answers_length : (answers : Option (List TermSyntax)) → length (answer_terms answers) ≤ length (answers_words answers)
answers_length None = omega arith
answers_length (Some []) = omega arith
answers_length (Some (t ∷ ts)) = omega (arith, more_terms_length ts, length-append (more_terms ts) (closing ∷ []))

pub record IsSmall (s : Statement) (n : ℕ) : Type 0 where
  pub arities : AtMost n (map arity (written_atoms s))
  pub answers : length (written_answers s) ≤ n
  pub atoms : AtMost n (map length (limited_atoms s))

small_sentence : (l : Option (List ℕ)) (sentence : Sentence) → IsSmall (a_sentence l sentence) (length (sentence_words sentence))
small_sentence l (a_fact atoms) = record { arities = (atoms_length atoms).1; answers = omega arith; atoms = tt }
small_sentence l (a_rule head body) =
    let all = length-append (atoms_words head) (if_sign ∷ atoms_words body) in
    let n = length (sentence_words (a_rule head body)) in
    record {
      arities = subst (AtMost n) (sym (map-append arity (listed head) (listed body))) (at_most-append n (map arity (listed head)) (map arity (listed body)) (at_most_more (length (atoms_words head)) n (map arity (listed head)) (omega (arith, all)) (atoms_length head).1) (at_most_more (length (atoms_words body)) n (map arity (listed body)) (omega (arith, all)) (atoms_length body).1));
      answers = omega arith;
      atoms = (omega (arith, all, (atoms_length head).0), (omega (arith, all, (atoms_length body).0), tt));
    }
small_sentence l (a_query answers body) =
    let all = length-append (answers_words answers) (if_sign ∷ atoms_words body) in
    let n = length (sentence_words (a_query answers body)) in
    record {
      arities = at_most_more (length (atoms_words body)) n (map arity (listed body)) (omega (arith, all)) (atoms_length body).1;
      answers = omega (arith, all, answers_length answers);
      atoms = (omega (arith, all, (atoms_length body).0), tt);
    }
small_sentence l (a_constraint body) =
    let n = length (sentence_words (a_constraint body)) in
    record {
      arities = at_most_more (length (atoms_words body)) n (map arity (listed body)) (omega arith) (atoms_length body).1;
      answers = omega arith;
      atoms = (omega (arith, (atoms_length body).0), tt);
    }

-- a sentence is part of its statement
pub sentence_length : (l : Option (List ℕ)) (sentence : Sentence) → length (sentence_words sentence) ≤ length (spelling (a_sentence l sentence))
sentence_length l sentence = omega (arith, length-append (label_words l) (sentence_words sentence ++ dot ∷ []), length-append (sentence_words sentence) (dot ∷ []))

more : (s : Statement) (n m : ℕ) → n ≤ m → IsSmall s n → IsSmall s m
more s n m le p = record { arities = at_most_more n m (map arity (written_atoms s)) le p.arities; answers = omega (arith, p.answers); atoms = at_most_more n m (map length (limited_atoms s)) le p.atoms }

-- a statement has no more than it has words
pub small : (s : Statement) → IsSmall s (length (spelling s))
small (a_sentence l sentence) = more (a_sentence l sentence) (length (sentence_words sentence)) (length (spelling (a_sentence l sentence))) (sentence_length l sentence) (small_sentence l sentence)
small (a_section section) = record { arities = tt; answers = omega arith; atoms = tt }
small (a_prefix name bytes dotted) = record { arities = tt; answers = omega arith; atoms = tt }
small (a_base bytes dotted) = record { arities = tt; answers = omega arith; atoms = tt }
small (a_top name dotted) = record { arities = tt; answers = omega arith; atoms = tt }

-- ---- a head and a body

rule_wide : (head body : Several AtomSyntax) → first_above 16 (map arity (listed head ++ listed body)) ≡ option_or (first_above 16 (map arity (listed head))) (first_above 16 (map arity (listed body)))
rule_wide head body = ap (first_above 16) (map-append arity (listed head) (listed body)) ∙ find-append (λ n. nat_lt 16 n) (map arity (listed head)) (map arity (listed body))

pub wide_of_rule : (text : List ℕ) (form : StatementForm) (label : Option Token) (sentence : SentenceForm) (head body : SeveralForm AtomForm) → form ≡ forms.Sentence label sentence → sentence ≡ sentences.Rule head body → first_above 16 (map arity (written_atoms (statement_view text form))) ≡ option_or (first_above 16 (map arity (listed (atoms_view text head)))) (first_above 16 (map arity (listed (atoms_view text body))))
wide_of_rule text form label sentence head body e f = rw (e, f) (rule_wide (atoms_view text head) (atoms_view text body))

-- ---- the limits, where a statement has few words

pub wide_at_most : (s : Statement) (n c : ℕ) → length (spelling s) ≤ n → Some c ≡ first_above 16 (map arity (written_atoms s)) → c ≤ n
wide_at_most s n c le e = above_at_most 16 n (map arity (written_atoms s)) c (at_most_more (length (spelling s)) n (map arity (written_atoms s)) le (small s).arities) e

pub answers_at_most : (s : Statement) (n c : ℕ) → length (spelling s) ≤ n → Some c ≡ first_above 16 (length (written_answers s) ∷ []) → c ≤ n
answers_at_most s n c le e = above_at_most 16 n (length (written_answers s) ∷ []) c (omega (arith, (small s).answers), tt) e

pub atoms_at_most : (s : Statement) (n c : ℕ) → length (spelling s) ≤ n → Some c ≡ first_above 32 (map length (limited_atoms s)) → c ≤ n
atoms_at_most s n c le e = above_at_most 32 n (map length (limited_atoms s)) c (at_most_more (length (spelling s)) n (map length (limited_atoms s)) le (small s).atoms) e

-- a statement has as many words as tokens
pub spelled_length : (text : List ℕ) (tokens : List Token) (form : StatementForm) → IsSpelledBy text tokens form → length (spelling (statement_view text form)) ≡ length tokens
spelled_length text tokens form e = ap length e ∙ length-map tokens (word_at text)
