-- Small files, with what they stand for or their refusal.
use Rattle.std.proofs.Common.{◌≡◌, ℕ, zero, suc, false, ap, subst, ◌∙◌, ◌+◌, ◌<◌, List, [], ◌∷◌, ◌++◌, length, Option, Some, None, refl, sym, arith}
use Rattle.std.specs.Prelude.{codes, slice_index_or, AllPairs, ◌≢◌}
use Rattle.std.proofs.lemmas.Bool.{true≢false}
use Rattle.std.proofs.lemmas.List.Elements.{All-contains_itself}
use Rattle.ucq_terms.specs.declared.Term.{Term}
use Rattle.ucq_terms.specs.declared.Term.TheVariants as Terms
use Rattle.ucq_terms.specs.Syntax.{Atom, IsSameSet}
use Rattle.ucq_lexer.specs.declared.Kind.TheVariants.{Variable, Identifier, Iri, Prefixed, Prefix, Integer, Text, Label, Directive, Open, Close, Comma, Dot, Question, Bang, If}
use Rattle.ucq_lexer.specs.Tokens.{none}
use Rattle.ucq_lexer.proofs.Examples.{token, at, skip, bad}
use Rattle.ucq_lexer.proofs.Loop.{comment_at}
use Rattle.ucq_lexer.specs.Tokens.{IsComment, IsGap, comment}
use Rattle.ucq_reader.specs.declared.ReadFault.TheVariants.{BadByte, BadStatement, OpenEnd, UnknownPrefix, NotBuilt, Unsafe, NoQuery}
use Rattle.ucq_reader.specs.declared.NotBuiltKind.TheVariants as kinds
use Rattle.ucq_reader.specs.Statement.{prefix, other, Word, variable, identifier, iri, prefixed, prefix_name, integer, directive, opening, closing, comma, dot, label, question, if_sign, by_identifier, by_iri, by_prefixed, a_variable, a_name, a_text, a_fact, a_query, a_constraint, Statement, a_prefix, a_base, a_sentence}
use Rattle.ucq_reader.specs.Machine.{State, begin, step, run, whole}
use Rattle.ucq_reader.specs.File.{Reads, IsFront, IsInside, IsBadStatement, IsOpenEnd}
use Rattle.ucq_reader.specs.Meaning.{FileRead, malformed, parsed, meaning, SymbolAtom}
use Rattle.ucq_reader.specs.Meaning as meanings
use Rattle.ucq_reader.specs.Input.{words, IsRefused, IsInput, StandsIn}
use Rattle.ucq_reader.proofs.Reading.{runs_inside, runs_bad}

-- no variable stands in no facts
no_facts : (i : ℕ) (x : List ℕ) → StandsIn [] i x → ⊥
no_facts i x (k, l, e) = absurd (omega (arith, l))

-- one comment
remark : (bytes : List ℕ) (place next there : ℕ) → IsComment bytes place next → IsGap bytes next there → IsGap bytes place there
remark bytes place next there c g = comment c g

-- ---- by computation

abbrev pub InsideBy : Option State → Type 0
InsideBy None = ⊥
InsideBy (Some q) = whole q ≡ None

abbrev pub BadBy : Word → Option State → Type 0
BadBy w None = ⊥
BadBy w (Some q) = step q w ≡ None

inside : (f : List Word) → InsideBy (run begin f) → IsInside f
inside f h = go (run begin f) refl h
  where
    go : (o : Option State) → run begin f ≡ o → InsideBy o → IsInside f
    go None e h = absurd h
    go (Some q) e h = runs_inside f q e h

goes_on_with_none : (f : List Word) (w : Word) → BadBy w (run begin f) → ¬ IsFront (f ++ w ∷ [])
goes_on_with_none f w h = go (run begin f) refl h
  where
    go : (o : Option State) → run begin f ≡ o → BadBy w o → ¬ IsFront (f ++ w ∷ [])
    go None e h = absurd h
    go (Some q) e h = runs_bad f q w e h

bad_statement : (ws : List Word) (before : List Statement) (front : List Word) (word : Word) (rest : List Word) (place : ℕ) → Reads ws before (front ++ word ∷ rest) → InsideBy (run begin front) → BadBy word (run begin front) → place + length (word ∷ rest) ≡ length ws → IsBadStatement ws (length before) place
bad_statement ws before front word rest place reads i b e = record { before = before; front = front; word = word; rest = rest; reads = reads; inside = inside front i; bad = goes_on_with_none front word b; count = refl; at = e }

open_end : (ws : List Word) (before : List Statement) (front : List Word) (place : ℕ) → Reads ws before front → 0 < length front → InsideBy (run begin front) → place + length front ≡ length ws → IsOpenEnd ws place
open_end ws before front place reads begun i e = record { before = before; front = front; reads = reads; begun = begun; inside = inside front i; at = e }

-- a last statement without its dot
pub no_last_dot : IsRefused (codes "? :- p(a)" ∷ []) (OpenEnd 0 0)
no_last_dot = (malformed (OpenEnd 0 0) ∷ [], ((refl, token Question 0 1 ∷ token If 2 4 ∷ token Identifier 5 6 ∷ token Open 6 7 ∷ token Identifier 7 8 ∷ token Close 8 9 ∷ [], 0, (none, at (codes "? :- p(a)") Question 0 1 refl, (skip (codes "? :- p(a)") 1 2 (omega arith, refl) (none), at (codes "? :- p(a)") If 2 4 refl, (skip (codes "? :- p(a)") 4 5 (omega arith, refl) (none), at (codes "? :- p(a)") Identifier 5 6 refl, (none, at (codes "? :- p(a)") Open 6 7 refl, (none, at (codes "? :- p(a)") Identifier 7 8 refl, (none, at (codes "? :- p(a)") Close 8 9 refl, none)))))), open_end (words (codes "? :- p(a)") (token Question 0 1 ∷ token If 2 4 ∷ token Identifier 5 6 ∷ token Open 6 7 ∷ token Identifier 7 8 ∷ token Close 8 9 ∷ [])) ([]) (question ∷ if_sign ∷ identifier (codes "p") ∷ opening ∷ identifier (codes "a") ∷ closing ∷ []) 0 refl (omega arith) refl refl, refl), refl), refl)

-- `&` begins no token
pub strange_byte : IsRefused (codes "? :- p(X) & q(X)." ∷ []) (BadByte 0 10)
strange_byte = (malformed (BadByte 0 10) ∷ [], ((refl, bad (codes "? :- p(X) & q(X).") 10 (token Question 0 1 ∷ token If 2 4 ∷ token Identifier 5 6 ∷ token Open 6 7 ∷ token Variable 7 8 ∷ token Close 8 9 ∷ []) (omega arith) (none, at (codes "? :- p(X) & q(X).") Question 0 1 refl, (skip (codes "? :- p(X) & q(X).") 1 2 (omega arith, refl) (none), at (codes "? :- p(X) & q(X).") If 2 4 refl, (skip (codes "? :- p(X) & q(X).") 4 5 (omega arith, refl) (none), at (codes "? :- p(X) & q(X).") Identifier 5 6 refl, (none, at (codes "? :- p(X) & q(X).") Open 6 7 refl, (none, at (codes "? :- p(X) & q(X).") Variable 7 8 refl, (none, at (codes "? :- p(X) & q(X).") Close 8 9 refl, skip (codes "? :- p(X) & q(X).") 9 10 (omega arith, refl) (none))))))) refl (record { space = λ s. true≢false (sym s.1); comment = λ stop c. absurd (omega (arith, c.sign)) })), refl), refl)

-- after a comma comes an atom
pub comma_then_dot : IsRefused (codes "? :- p(X), ." ∷ []) (BadStatement 0 0 11)
comma_then_dot = (malformed (BadStatement 0 0 11) ∷ [], ((refl, token Question 0 1 ∷ token If 2 4 ∷ token Identifier 5 6 ∷ token Open 6 7 ∷ token Variable 7 8 ∷ token Close 8 9 ∷ token Comma 9 10 ∷ token Dot 11 12 ∷ [], 7, (none, at (codes "? :- p(X), .") Question 0 1 refl, (skip (codes "? :- p(X), .") 1 2 (omega arith, refl) (none), at (codes "? :- p(X), .") If 2 4 refl, (skip (codes "? :- p(X), .") 4 5 (omega arith, refl) (none), at (codes "? :- p(X), .") Identifier 5 6 refl, (none, at (codes "? :- p(X), .") Open 6 7 refl, (none, at (codes "? :- p(X), .") Variable 7 8 refl, (none, at (codes "? :- p(X), .") Close 8 9 refl, (none, at (codes "? :- p(X), .") Comma 9 10 refl, (skip (codes "? :- p(X), .") 10 11 (omega arith, refl) (none), at (codes "? :- p(X), .") Dot 11 12 refl, none)))))))), bad_statement (words (codes "? :- p(X), .") (token Question 0 1 ∷ token If 2 4 ∷ token Identifier 5 6 ∷ token Open 6 7 ∷ token Variable 7 8 ∷ token Close 8 9 ∷ token Comma 9 10 ∷ token Dot 11 12 ∷ [])) ([]) (question ∷ if_sign ∷ identifier (codes "p") ∷ opening ∷ variable (codes "X") ∷ closing ∷ comma ∷ []) (dot) ([]) 7 refl refl refl refl, refl), refl), refl)

-- an atom has terms
pub no_terms : IsRefused (codes "? :- p()." ∷ []) (BadStatement 0 0 7)
no_terms = (malformed (BadStatement 0 0 7) ∷ [], ((refl, token Question 0 1 ∷ token If 2 4 ∷ token Identifier 5 6 ∷ token Open 6 7 ∷ token Close 7 8 ∷ token Dot 8 9 ∷ [], 4, (none, at (codes "? :- p().") Question 0 1 refl, (skip (codes "? :- p().") 1 2 (omega arith, refl) (none), at (codes "? :- p().") If 2 4 refl, (skip (codes "? :- p().") 4 5 (omega arith, refl) (none), at (codes "? :- p().") Identifier 5 6 refl, (none, at (codes "? :- p().") Open 6 7 refl, (none, at (codes "? :- p().") Close 7 8 refl, (none, at (codes "? :- p().") Dot 8 9 refl, none)))))), bad_statement (words (codes "? :- p().") (token Question 0 1 ∷ token If 2 4 ∷ token Identifier 5 6 ∷ token Open 6 7 ∷ token Close 7 8 ∷ token Dot 8 9 ∷ [])) ([]) (question ∷ if_sign ∷ identifier (codes "p") ∷ opening ∷ []) (closing) (dot ∷ []) 4 refl refl refl refl, refl), refl), refl)

-- a dot after an integer ends no atom
pub decimal : IsRefused (codes "? :- p(1.5)." ∷ []) (BadStatement 0 0 8)
decimal = (malformed (BadStatement 0 0 8) ∷ [], ((refl, token Question 0 1 ∷ token If 2 4 ∷ token Identifier 5 6 ∷ token Open 6 7 ∷ token Integer 7 8 ∷ token Dot 8 9 ∷ token Integer 9 10 ∷ token Close 10 11 ∷ token Dot 11 12 ∷ [], 5, (none, at (codes "? :- p(1.5).") Question 0 1 refl, (skip (codes "? :- p(1.5).") 1 2 (omega arith, refl) (none), at (codes "? :- p(1.5).") If 2 4 refl, (skip (codes "? :- p(1.5).") 4 5 (omega arith, refl) (none), at (codes "? :- p(1.5).") Identifier 5 6 refl, (none, at (codes "? :- p(1.5).") Open 6 7 refl, (none, at (codes "? :- p(1.5).") Integer 7 8 refl, (none, at (codes "? :- p(1.5).") Dot 8 9 refl, (none, at (codes "? :- p(1.5).") Integer 9 10 refl, (none, at (codes "? :- p(1.5).") Close 10 11 refl, (none, at (codes "? :- p(1.5).") Dot 11 12 refl, none))))))))), bad_statement (words (codes "? :- p(1.5).") (token Question 0 1 ∷ token If 2 4 ∷ token Identifier 5 6 ∷ token Open 6 7 ∷ token Integer 7 8 ∷ token Dot 8 9 ∷ token Integer 9 10 ∷ token Close 10 11 ∷ token Dot 11 12 ∷ [])) ([]) (question ∷ if_sign ∷ identifier (codes "p") ∷ opening ∷ integer (codes "1") ∷ []) (dot) (integer (codes "5") ∷ closing ∷ dot ∷ []) 5 refl refl refl refl, refl), refl), refl)

-- `=` begins no token
pub equal_sign : IsRefused (codes "? :- X = Y." ∷ []) (BadByte 0 7)
equal_sign = (malformed (BadByte 0 7) ∷ [], ((refl, bad (codes "? :- X = Y.") 7 (token Question 0 1 ∷ token If 2 4 ∷ token Variable 5 6 ∷ []) (omega arith) (none, at (codes "? :- X = Y.") Question 0 1 refl, (skip (codes "? :- X = Y.") 1 2 (omega arith, refl) (none), at (codes "? :- X = Y.") If 2 4 refl, (skip (codes "? :- X = Y.") 4 5 (omega arith, refl) (none), at (codes "? :- X = Y.") Variable 5 6 refl, skip (codes "? :- X = Y.") 6 7 (omega arith, refl) (none)))) refl (record { space = λ s. true≢false (sym s.1); comment = λ stop c. absurd (omega (arith, c.sign)) })), refl), refl)

-- a dot begins no statement
pub second_dot : IsRefused (codes "? :- p(X).." ∷ []) (BadStatement 0 1 10)
second_dot = (malformed (BadStatement 0 1 10) ∷ [], ((refl, token Question 0 1 ∷ token If 2 4 ∷ token Identifier 5 6 ∷ token Open 6 7 ∷ token Variable 7 8 ∷ token Close 8 9 ∷ token Dot 9 10 ∷ token Dot 10 11 ∷ [], 7, (none, at (codes "? :- p(X)..") Question 0 1 refl, (skip (codes "? :- p(X)..") 1 2 (omega arith, refl) (none), at (codes "? :- p(X)..") If 2 4 refl, (skip (codes "? :- p(X)..") 4 5 (omega arith, refl) (none), at (codes "? :- p(X)..") Identifier 5 6 refl, (none, at (codes "? :- p(X)..") Open 6 7 refl, (none, at (codes "? :- p(X)..") Variable 7 8 refl, (none, at (codes "? :- p(X)..") Close 8 9 refl, (none, at (codes "? :- p(X)..") Dot 9 10 refl, (none, at (codes "? :- p(X)..") Dot 10 11 refl, none)))))))), bad_statement (words (codes "? :- p(X)..") (token Question 0 1 ∷ token If 2 4 ∷ token Identifier 5 6 ∷ token Open 6 7 ∷ token Variable 7 8 ∷ token Close 8 9 ∷ token Dot 9 10 ∷ token Dot 10 11 ∷ [])) (a_sentence None (a_query None (record { first = record { name = by_identifier (codes "p"); terms = record { first = a_variable (codes "X"); others = [] } }; others = [] })) ∷ []) ([]) (dot) ([]) 7 (dot ∷ [], refl, (λ rest e l. absurd l), refl) refl refl refl, refl), refl), refl)

-- a name alone is no atom
pub bare_name : IsRefused (codes "a:-b." ∷ []) (BadStatement 0 0 1)
bare_name = (malformed (BadStatement 0 0 1) ∷ [], ((refl, token Identifier 0 1 ∷ token If 1 3 ∷ token Identifier 3 4 ∷ token Dot 4 5 ∷ [], 1, (none, at (codes "a:-b.") Identifier 0 1 refl, (none, at (codes "a:-b.") If 1 3 refl, (none, at (codes "a:-b.") Identifier 3 4 refl, (none, at (codes "a:-b.") Dot 4 5 refl, none)))), bad_statement (words (codes "a:-b.") (token Identifier 0 1 ∷ token If 1 3 ∷ token Identifier 3 4 ∷ token Dot 4 5 ∷ [])) ([]) (identifier (codes "a") ∷ []) (if_sign) (identifier (codes "b") ∷ dot ∷ []) 1 refl refl refl refl, refl), refl), refl)

-- every other directive begins no statement
pub other_directive : IsRefused (codes "@fact" ∷ []) (BadStatement 0 0 0)
other_directive = (malformed (BadStatement 0 0 0) ∷ [], ((refl, token Directive 0 5 ∷ [], 0, (none, at (codes "@fact") Directive 0 5 refl, none), bad_statement (words (codes "@fact") (token Directive 0 5 ∷ [])) ([]) ([]) (directive other) ([]) 0 refl refl refl refl, refl), refl), refl)

abbrev BeginsWithDot : List Word → Type 0
BeginsWithDot (dot ∷ ws) = Unit {0}
BeginsWithDot _ = ⊥

no_dot : (ws rest : List Word) → (BeginsWithDot ws → ⊥) → ws ≡ dot ∷ rest → ⊥
no_dot ws rest h e = h (subst BeginsWithDot (sym e) tt)

-- a prefix that no line declares
pub undeclared : IsRefused (codes "? :- ex:p(X)." ∷ []) (UnknownPrefix 0 5)
undeclared = ((parsed ((a_sentence None (a_query None (record { first = record { name = by_prefixed (codes "ex:p"); terms = record { first = a_variable (codes "X"); others = [] } }; others = [] }))) ∷ []) (0 ∷ 2 ∷ 5 ∷ 9 ∷ 10 ∷ 11 ∷ 12 ∷ [])) ∷ [], ((token Question 0 1 ∷ token If 2 4 ∷ token Prefixed 5 9 ∷ token Open 9 10 ∷ token Variable 10 11 ∷ token Close 11 12 ∷ token Dot 12 13 ∷ [], (none, at (codes "? :- ex:p(X).") Question 0 1 refl, (skip (codes "? :- ex:p(X).") 1 2 (omega arith, refl) (none), at (codes "? :- ex:p(X).") If 2 4 refl, (skip (codes "? :- ex:p(X).") 4 5 (omega arith, refl) (none), at (codes "? :- ex:p(X).") Prefixed 5 9 refl, (none, at (codes "? :- ex:p(X).") Open 9 10 refl, (none, at (codes "? :- ex:p(X).") Variable 10 11 refl, (none, at (codes "? :- ex:p(X).") Close 11 12 refl, (none, at (codes "? :- ex:p(X).") Dot 12 13 refl, none))))))), ([], refl, (λ rest e l. absurd l), refl), refl), refl), refl)

-- a base line is read and refused
pub base_line : IsRefused (codes "@base <http://a/>? :- p(X)." ∷ []) (NotBuilt 0 0 kinds.Base)
base_line = ((parsed ((a_base (codes "<http://a/>") false) ∷ (a_sentence None (a_query None (record { first = record { name = by_identifier (codes "p"); terms = record { first = a_variable (codes "X"); others = [] } }; others = [] }))) ∷ []) (0 ∷ 6 ∷ 17 ∷ 19 ∷ 22 ∷ 23 ∷ 24 ∷ 25 ∷ 26 ∷ [])) ∷ [], ((token Directive 0 5 ∷ token Iri 6 17 ∷ token Question 17 18 ∷ token If 19 21 ∷ token Identifier 22 23 ∷ token Open 23 24 ∷ token Variable 24 25 ∷ token Close 25 26 ∷ token Dot 26 27 ∷ [], (none, at (codes "@base <http://a/>? :- p(X).") Directive 0 5 refl, (skip (codes "@base <http://a/>? :- p(X).") 5 6 (omega arith, refl) (none), at (codes "@base <http://a/>? :- p(X).") Iri 6 17 refl, (none, at (codes "@base <http://a/>? :- p(X).") Question 17 18 refl, (skip (codes "@base <http://a/>? :- p(X).") 18 19 (omega arith, refl) (none), at (codes "@base <http://a/>? :- p(X).") If 19 21 refl, (skip (codes "@base <http://a/>? :- p(X).") 21 22 (omega arith, refl) (none), at (codes "@base <http://a/>? :- p(X).") Identifier 22 23 refl, (none, at (codes "@base <http://a/>? :- p(X).") Open 23 24 refl, (none, at (codes "@base <http://a/>? :- p(X).") Variable 24 25 refl, (none, at (codes "@base <http://a/>? :- p(X).") Close 25 26 refl, (none, at (codes "@base <http://a/>? :- p(X).") Dot 26 27 refl, none))))))))), (question ∷ if_sign ∷ identifier (codes "p") ∷ opening ∷ variable (codes "X") ∷ closing ∷ dot ∷ [], refl, (λ rest e l. no_dot (question ∷ if_sign ∷ identifier (codes "p") ∷ opening ∷ variable (codes "X") ∷ closing ∷ dot ∷ []) rest (λ h. h) e), ([], refl, (λ rest e l. absurd l), refl)), refl), refl), refl)

-- a file of no bytes asks nothing
pub no_byte : IsRefused (codes "" ∷ []) (NoQuery)
no_byte = ((parsed ([]) ([])) ∷ [], (([], none, refl, refl), tt), refl)

-- an answer that the body lacks
pub loose_answer : IsRefused (codes "?(X) :- p(Y)." ∷ []) (Unsafe 0 0 0)
loose_answer = ((parsed ((a_sentence None (a_query (Some ((a_variable (codes "X")) ∷ [])) (record { first = record { name = by_identifier (codes "p"); terms = record { first = a_variable (codes "Y"); others = [] } }; others = [] }))) ∷ []) (0 ∷ 1 ∷ 2 ∷ 3 ∷ 5 ∷ 8 ∷ 9 ∷ 10 ∷ 11 ∷ 12 ∷ [])) ∷ [], ((token Question 0 1 ∷ token Open 1 2 ∷ token Variable 2 3 ∷ token Close 3 4 ∷ token If 5 7 ∷ token Identifier 8 9 ∷ token Open 9 10 ∷ token Variable 10 11 ∷ token Close 11 12 ∷ token Dot 12 13 ∷ [], (none, at (codes "?(X) :- p(Y).") Question 0 1 refl, (none, at (codes "?(X) :- p(Y).") Open 1 2 refl, (none, at (codes "?(X) :- p(Y).") Variable 2 3 refl, (none, at (codes "?(X) :- p(Y).") Close 3 4 refl, (skip (codes "?(X) :- p(Y).") 4 5 (omega arith, refl) (none), at (codes "?(X) :- p(Y).") If 5 7 refl, (skip (codes "?(X) :- p(Y).") 7 8 (omega arith, refl) (none), at (codes "?(X) :- p(Y).") Identifier 8 9 refl, (none, at (codes "?(X) :- p(Y).") Open 9 10 refl, (none, at (codes "?(X) :- p(Y).") Variable 10 11 refl, (none, at (codes "?(X) :- p(Y).") Close 11 12 refl, (none, at (codes "?(X) :- p(Y).") Dot 12 13 refl, none)))))))))), ([], refl, (λ rest e l. absurd l), refl), refl), refl), refl)

-- a constraint is read and refused
pub constraint_line : IsRefused (codes "! :- p(X). ? :- p(X)." ∷ []) (NotBuilt 0 0 kinds.Constraint)
constraint_line = ((parsed ((a_sentence None (a_constraint (record { first = record { name = by_identifier (codes "p"); terms = record { first = a_variable (codes "X"); others = [] } }; others = [] }))) ∷ (a_sentence None (a_query None (record { first = record { name = by_identifier (codes "p"); terms = record { first = a_variable (codes "X"); others = [] } }; others = [] }))) ∷ []) (0 ∷ 2 ∷ 5 ∷ 6 ∷ 7 ∷ 8 ∷ 9 ∷ 11 ∷ 13 ∷ 16 ∷ 17 ∷ 18 ∷ 19 ∷ 20 ∷ [])) ∷ [], ((token Bang 0 1 ∷ token If 2 4 ∷ token Identifier 5 6 ∷ token Open 6 7 ∷ token Variable 7 8 ∷ token Close 8 9 ∷ token Dot 9 10 ∷ token Question 11 12 ∷ token If 13 15 ∷ token Identifier 16 17 ∷ token Open 17 18 ∷ token Variable 18 19 ∷ token Close 19 20 ∷ token Dot 20 21 ∷ [], (none, at (codes "! :- p(X). ? :- p(X).") Bang 0 1 refl, (skip (codes "! :- p(X). ? :- p(X).") 1 2 (omega arith, refl) (none), at (codes "! :- p(X). ? :- p(X).") If 2 4 refl, (skip (codes "! :- p(X). ? :- p(X).") 4 5 (omega arith, refl) (none), at (codes "! :- p(X). ? :- p(X).") Identifier 5 6 refl, (none, at (codes "! :- p(X). ? :- p(X).") Open 6 7 refl, (none, at (codes "! :- p(X). ? :- p(X).") Variable 7 8 refl, (none, at (codes "! :- p(X). ? :- p(X).") Close 8 9 refl, (none, at (codes "! :- p(X). ? :- p(X).") Dot 9 10 refl, (skip (codes "! :- p(X). ? :- p(X).") 10 11 (omega arith, refl) (none), at (codes "! :- p(X). ? :- p(X).") Question 11 12 refl, (skip (codes "! :- p(X). ? :- p(X).") 12 13 (omega arith, refl) (none), at (codes "! :- p(X). ? :- p(X).") If 13 15 refl, (skip (codes "! :- p(X). ? :- p(X).") 15 16 (omega arith, refl) (none), at (codes "! :- p(X). ? :- p(X).") Identifier 16 17 refl, (none, at (codes "! :- p(X). ? :- p(X).") Open 17 18 refl, (none, at (codes "! :- p(X). ? :- p(X).") Variable 18 19 refl, (none, at (codes "! :- p(X). ? :- p(X).") Close 19 20 refl, (none, at (codes "! :- p(X). ? :- p(X).") Dot 20 21 refl, none)))))))))))))), (question ∷ if_sign ∷ identifier (codes "p") ∷ opening ∷ variable (codes "X") ∷ closing ∷ dot ∷ [], refl, (λ rest e l. absurd l), ([], refl, (λ rest e l. absurd l), refl)), refl), refl), refl)

abbrev pub made_atom : ℕ → List Term → Atom
made_atom name terms = record { name = name; terms = terms }

same_atoms : (atoms : List Atom) → IsSameSet atoms atoms
same_atoms atoms = (All-contains_itself atoms, All-contains_itself atoms)

two_apart : (a b : Atom) → (a.name ≡ b.name → ⊥) → AllPairs (λ (x y : Atom). x ≢ y) (a ∷ b ∷ [])
two_apart a b h i j d lt l = go i j lt l
  where
    go : (i j : ℕ) → i < j → j < 2 → slice_index_or (a ∷ b ∷ []) i d ≢ slice_index_or (a ∷ b ∷ []) j d
    go zero zero lt l = absurd (omega arith)
    go zero (suc zero) lt l = λ e. h (ap (λ (x : Atom). x.name) e)
    go zero (suc (suc j)) lt l = absurd (omega arith)
    go (suc i) j lt l = absurd (omega arith)

one_apart : (a : Atom) → AllPairs (λ (x y : Atom). x ≢ y) (a ∷ [])
one_apart a i j d lt l = absurd (omega arith)

-- a Boolean query of two atoms, whose variable is one
pub two_atoms : IsInput (codes "? :- p(X), q(X)." ∷ []) (record { names = codes "p" ∷ codes "q" ∷ []; rules = []; queries = record { label = None; query = record { answers = []; atoms = made_atom 0 (Terms.Variable 0 ∷ []) ∷ made_atom 1 (Terms.Variable 0 ∷ []) ∷ [] } } ∷ []; facts = [] })
two_atoms = (record { texts = codes "p" ∷ codes "q" ∷ []; rules = []; queries = record { label = None; query = record { answers = []; atoms = record { name = codes "p"; terms = meanings.variable (codes "X") ∷ [] } ∷ record { name = codes "q"; terms = meanings.variable (codes "X") ∷ [] } ∷ [] } } ∷ []; facts = [] }, ((parsed ((a_sentence None (a_query None (record { first = record { name = by_identifier (codes "p"); terms = record { first = a_variable (codes "X"); others = [] } }; others = record { name = by_identifier (codes "q"); terms = record { first = a_variable (codes "X"); others = [] } } ∷ [] }))) ∷ []) (0 ∷ 2 ∷ 5 ∷ 6 ∷ 7 ∷ 8 ∷ 9 ∷ 11 ∷ 12 ∷ 13 ∷ 14 ∷ 15 ∷ [])) ∷ [], ((token Question 0 1 ∷ token If 2 4 ∷ token Identifier 5 6 ∷ token Open 6 7 ∷ token Variable 7 8 ∷ token Close 8 9 ∷ token Comma 9 10 ∷ token Identifier 11 12 ∷ token Open 12 13 ∷ token Variable 13 14 ∷ token Close 14 15 ∷ token Dot 15 16 ∷ [], (none, at (codes "? :- p(X), q(X).") Question 0 1 refl, (skip (codes "? :- p(X), q(X).") 1 2 (omega arith, refl) (none), at (codes "? :- p(X), q(X).") If 2 4 refl, (skip (codes "? :- p(X), q(X).") 4 5 (omega arith, refl) (none), at (codes "? :- p(X), q(X).") Identifier 5 6 refl, (none, at (codes "? :- p(X), q(X).") Open 6 7 refl, (none, at (codes "? :- p(X), q(X).") Variable 7 8 refl, (none, at (codes "? :- p(X), q(X).") Close 8 9 refl, (none, at (codes "? :- p(X), q(X).") Comma 9 10 refl, (skip (codes "? :- p(X), q(X).") 10 11 (omega arith, refl) (none), at (codes "? :- p(X), q(X).") Identifier 11 12 refl, (none, at (codes "? :- p(X), q(X).") Open 12 13 refl, (none, at (codes "? :- p(X), q(X).") Variable 13 14 refl, (none, at (codes "? :- p(X), q(X).") Close 14 15 refl, (none, at (codes "? :- p(X), q(X).") Dot 15 16 refl, none)))))))))))), ([], refl, (λ rest e l. absurd l), refl), refl), tt), refl), record { names = refl; rules = refl; queries = (record { label = refl; query = record { answers = refl; atoms = same_atoms (made_atom 0 (Terms.Variable 0 ∷ []) ∷ made_atom 1 (Terms.Variable 0 ∷ []) ∷ []); once = two_apart (made_atom 0 (Terms.Variable 0 ∷ [])) (made_atom 1 (Terms.Variable 0 ∷ [])) (λ e. absurd (omega (arith, e))) } }, tt); unknown = λ i x. 0; apart = λ i j x y p. absurd (no_facts i x p); facts = refl })

-- a label, a text with a tag, an Iri and a comment at the end
pub commented : IsInput (codes "[l] ? :- p(\"a%b\"@en, <i>). % end" ∷ []) (record { names = codes "p" ∷ codes "\"a%b\"@en" ∷ codes "<i>" ∷ []; rules = []; queries = record { label = Some (codes "[l]"); query = record { answers = []; atoms = made_atom 0 (Terms.Constant 1 ∷ Terms.Constant 2 ∷ []) ∷ [] } } ∷ []; facts = [] })
commented = (record { texts = codes "p" ∷ codes "\"a%b\"@en" ∷ codes "<i>" ∷ []; rules = []; queries = record { label = Some (codes "[l]"); query = record { answers = []; atoms = record { name = codes "p"; terms = meanings.constant (codes "\"a%b\"@en") ∷ meanings.constant (codes "<i>") ∷ [] } ∷ [] } } ∷ []; facts = [] }, ((parsed ((a_sentence (Some (codes "[l]")) (a_query None (record { first = record { name = by_identifier (codes "p"); terms = record { first = a_text (codes "\"a%b\"@en"); others = (a_name (by_iri (codes "<i>"))) ∷ [] } }; others = [] }))) ∷ []) (0 ∷ 4 ∷ 6 ∷ 9 ∷ 10 ∷ 11 ∷ 19 ∷ 21 ∷ 24 ∷ 25 ∷ [])) ∷ [], ((token Label 0 3 ∷ token Question 4 5 ∷ token If 6 8 ∷ token Identifier 9 10 ∷ token Open 10 11 ∷ token Text 11 19 ∷ token Comma 19 20 ∷ token Iri 21 24 ∷ token Close 24 25 ∷ token Dot 25 26 ∷ [], (none, at (codes "[l] ? :- p(\"a%b\"@en, <i>). % end") Label 0 3 refl, (skip (codes "[l] ? :- p(\"a%b\"@en, <i>). % end") 3 4 (omega arith, refl) (none), at (codes "[l] ? :- p(\"a%b\"@en, <i>). % end") Question 4 5 refl, (skip (codes "[l] ? :- p(\"a%b\"@en, <i>). % end") 5 6 (omega arith, refl) (none), at (codes "[l] ? :- p(\"a%b\"@en, <i>). % end") If 6 8 refl, (skip (codes "[l] ? :- p(\"a%b\"@en, <i>). % end") 8 9 (omega arith, refl) (none), at (codes "[l] ? :- p(\"a%b\"@en, <i>). % end") Identifier 9 10 refl, (none, at (codes "[l] ? :- p(\"a%b\"@en, <i>). % end") Open 10 11 refl, (none, at (codes "[l] ? :- p(\"a%b\"@en, <i>). % end") Text 11 19 refl, (none, at (codes "[l] ? :- p(\"a%b\"@en, <i>). % end") Comma 19 20 refl, (skip (codes "[l] ? :- p(\"a%b\"@en, <i>). % end") 20 21 (omega arith, refl) (none), at (codes "[l] ? :- p(\"a%b\"@en, <i>). % end") Iri 21 24 refl, (none, at (codes "[l] ? :- p(\"a%b\"@en, <i>). % end") Close 24 25 refl, (none, at (codes "[l] ? :- p(\"a%b\"@en, <i>). % end") Dot 25 26 refl, skip (codes "[l] ? :- p(\"a%b\"@en, <i>). % end") 26 32 (omega arith, refl) (remark (codes "[l] ? :- p(\"a%b\"@en, <i>). % end") 27 32 32 (comment_at (codes "[l] ? :- p(\"a%b\"@en, <i>). % end") 27 (omega arith) refl) (none)))))))))))), ([], refl, (λ rest e l. absurd l), refl), refl), tt), refl), record { names = refl; rules = refl; queries = (record { label = refl; query = record { answers = refl; atoms = same_atoms (made_atom 0 (Terms.Constant 1 ∷ Terms.Constant 2 ∷ []) ∷ []); once = one_apart (made_atom 0 (Terms.Constant 1 ∷ Terms.Constant 2 ∷ [])) } }, tt); unknown = λ i x. 0; apart = λ i j x y p. absurd (no_facts i x p); facts = refl })

-- two queries, of which the second has a label
pub two_queries : IsInput (codes "? :- p(X). [b] ? :- q(X)." ∷ []) (record { names = codes "p" ∷ codes "q" ∷ []; rules = []; queries = record { label = None; query = record { answers = []; atoms = made_atom 0 (Terms.Variable 0 ∷ []) ∷ [] } } ∷ record { label = Some (codes "[b]"); query = record { answers = []; atoms = made_atom 1 (Terms.Variable 0 ∷ []) ∷ [] } } ∷ []; facts = [] })
two_queries = (record { texts = codes "p" ∷ codes "q" ∷ []; rules = []; queries = record { label = None; query = record { answers = []; atoms = record { name = codes "p"; terms = meanings.variable (codes "X") ∷ [] } ∷ [] } } ∷ record { label = Some (codes "[b]"); query = record { answers = []; atoms = record { name = codes "q"; terms = meanings.variable (codes "X") ∷ [] } ∷ [] } } ∷ []; facts = [] }, ((parsed ((a_sentence None (a_query None (record { first = record { name = by_identifier (codes "p"); terms = record { first = a_variable (codes "X"); others = [] } }; others = [] }))) ∷ (a_sentence (Some (codes "[b]")) (a_query None (record { first = record { name = by_identifier (codes "q"); terms = record { first = a_variable (codes "X"); others = [] } }; others = [] }))) ∷ []) (0 ∷ 2 ∷ 5 ∷ 6 ∷ 7 ∷ 8 ∷ 9 ∷ 11 ∷ 15 ∷ 17 ∷ 20 ∷ 21 ∷ 22 ∷ 23 ∷ 24 ∷ [])) ∷ [], ((token Question 0 1 ∷ token If 2 4 ∷ token Identifier 5 6 ∷ token Open 6 7 ∷ token Variable 7 8 ∷ token Close 8 9 ∷ token Dot 9 10 ∷ token Label 11 14 ∷ token Question 15 16 ∷ token If 17 19 ∷ token Identifier 20 21 ∷ token Open 21 22 ∷ token Variable 22 23 ∷ token Close 23 24 ∷ token Dot 24 25 ∷ [], (none, at (codes "? :- p(X). [b] ? :- q(X).") Question 0 1 refl, (skip (codes "? :- p(X). [b] ? :- q(X).") 1 2 (omega arith, refl) (none), at (codes "? :- p(X). [b] ? :- q(X).") If 2 4 refl, (skip (codes "? :- p(X). [b] ? :- q(X).") 4 5 (omega arith, refl) (none), at (codes "? :- p(X). [b] ? :- q(X).") Identifier 5 6 refl, (none, at (codes "? :- p(X). [b] ? :- q(X).") Open 6 7 refl, (none, at (codes "? :- p(X). [b] ? :- q(X).") Variable 7 8 refl, (none, at (codes "? :- p(X). [b] ? :- q(X).") Close 8 9 refl, (none, at (codes "? :- p(X). [b] ? :- q(X).") Dot 9 10 refl, (skip (codes "? :- p(X). [b] ? :- q(X).") 10 11 (omega arith, refl) (none), at (codes "? :- p(X). [b] ? :- q(X).") Label 11 14 refl, (skip (codes "? :- p(X). [b] ? :- q(X).") 14 15 (omega arith, refl) (none), at (codes "? :- p(X). [b] ? :- q(X).") Question 15 16 refl, (skip (codes "? :- p(X). [b] ? :- q(X).") 16 17 (omega arith, refl) (none), at (codes "? :- p(X). [b] ? :- q(X).") If 17 19 refl, (skip (codes "? :- p(X). [b] ? :- q(X).") 19 20 (omega arith, refl) (none), at (codes "? :- p(X). [b] ? :- q(X).") Identifier 20 21 refl, (none, at (codes "? :- p(X). [b] ? :- q(X).") Open 21 22 refl, (none, at (codes "? :- p(X). [b] ? :- q(X).") Variable 22 23 refl, (none, at (codes "? :- p(X). [b] ? :- q(X).") Close 23 24 refl, (none, at (codes "? :- p(X). [b] ? :- q(X).") Dot 24 25 refl, none))))))))))))))), (label (codes "[b]") ∷ question ∷ if_sign ∷ identifier (codes "q") ∷ opening ∷ variable (codes "X") ∷ closing ∷ dot ∷ [], refl, (λ rest e l. absurd l), ([], refl, (λ rest e l. absurd l), refl)), refl), tt), refl), record { names = refl; rules = refl; queries = (record { label = refl; query = record { answers = refl; atoms = same_atoms (made_atom 0 (Terms.Variable 0 ∷ []) ∷ []); once = one_apart (made_atom 0 (Terms.Variable 0 ∷ [])) } }, (record { label = refl; query = record { answers = refl; atoms = same_atoms (made_atom 1 (Terms.Variable 0 ∷ []) ∷ []); once = one_apart (made_atom 1 (Terms.Variable 0 ∷ [])) } }, tt)); unknown = λ i x. 0; apart = λ i j x y p. absurd (no_facts i x p); facts = refl })

abbrev two_facts : List (List SymbolAtom)
two_facts = (record { name = codes "p"; terms = meanings.constant (codes "<v#x>") ∷ meanings.variable (codes "Z") ∷ [] } ∷ []) ∷ (record { name = codes "p"; terms = meanings.constant (codes "<v#x>") ∷ meanings.variable (codes "Z") ∷ [] } ∷ []) ∷ []

is_variable : (x : List ℕ) → StandsIn (two_facts) 0 x → x ≡ codes "Z"
is_variable x (zero, l, e) = absurd (other_kind e)
  where
    other_kind : meanings.constant (codes "<v#x>") ≡ meanings.variable x → ⊥
    other_kind e = cc
is_variable x (suc zero, l, e) = same_variable e
  where
    same_variable : meanings.variable (codes "Z") ≡ meanings.variable x → x ≡ codes "Z"
    same_variable e = let same : codes "Z" ≡ x = cc in sym same
is_variable x (suc (suc k), l, e) = absurd (omega arith)

in_two : (i : ℕ) (x : List ℕ) → StandsIn two_facts i x → x ≡ codes "Z"
in_two zero x h = is_variable x h
in_two (suc zero) x h = is_variable x h
in_two (suc (suc i)) x h = absurd (no_facts i x h)

-- the last declaration counts, and a fact statement that is written twice has two unknown values
pub unknowns : IsInput (codes "@prefix a: <u#> @prefix a: <v#> p(a:x,Z). p(a:x,Z). ?(X) :- p(X,Y)." ∷ []) (record { names = codes "p" ∷ codes "<v#x>" ∷ []; rules = []; queries = record { label = None; query = record { answers = Terms.Variable 0 ∷ []; atoms = made_atom 0 (Terms.Variable 0 ∷ Terms.Variable 1 ∷ []) ∷ [] } } ∷ []; facts = made_atom 0 (Terms.Constant 1 ∷ Terms.Variable 0 ∷ []) ∷ made_atom 0 (Terms.Constant 1 ∷ Terms.Variable 1 ∷ []) ∷ [] })
unknowns = (record { texts = codes "p" ∷ codes "<v#x>" ∷ codes "p" ∷ codes "<v#x>" ∷ codes "p" ∷ []; rules = []; queries = record { label = None; query = record { answers = meanings.variable (codes "X") ∷ []; atoms = record { name = codes "p"; terms = meanings.variable (codes "X") ∷ meanings.variable (codes "Y") ∷ [] } ∷ [] } } ∷ []; facts = two_facts }, ((parsed ((a_prefix (codes "a:") (codes "<u#>") false) ∷ (a_prefix (codes "a:") (codes "<v#>") false) ∷ (a_sentence None (a_fact (record { first = record { name = by_identifier (codes "p"); terms = record { first = a_name (by_prefixed (codes "a:x")); others = (a_variable (codes "Z")) ∷ [] } }; others = [] }))) ∷ (a_sentence None (a_fact (record { first = record { name = by_identifier (codes "p"); terms = record { first = a_name (by_prefixed (codes "a:x")); others = (a_variable (codes "Z")) ∷ [] } }; others = [] }))) ∷ (a_sentence None (a_query (Some ((a_variable (codes "X")) ∷ [])) (record { first = record { name = by_identifier (codes "p"); terms = record { first = a_variable (codes "X"); others = (a_variable (codes "Y")) ∷ [] } }; others = [] }))) ∷ []) (0 ∷ 8 ∷ 11 ∷ 16 ∷ 24 ∷ 27 ∷ 32 ∷ 33 ∷ 34 ∷ 37 ∷ 38 ∷ 39 ∷ 40 ∷ 42 ∷ 43 ∷ 44 ∷ 47 ∷ 48 ∷ 49 ∷ 50 ∷ 52 ∷ 53 ∷ 54 ∷ 55 ∷ 57 ∷ 60 ∷ 61 ∷ 62 ∷ 63 ∷ 64 ∷ 65 ∷ 66 ∷ [])) ∷ [], ((token Directive 0 7 ∷ token Prefix 8 10 ∷ token Iri 11 15 ∷ token Directive 16 23 ∷ token Prefix 24 26 ∷ token Iri 27 31 ∷ token Identifier 32 33 ∷ token Open 33 34 ∷ token Prefixed 34 37 ∷ token Comma 37 38 ∷ token Variable 38 39 ∷ token Close 39 40 ∷ token Dot 40 41 ∷ token Identifier 42 43 ∷ token Open 43 44 ∷ token Prefixed 44 47 ∷ token Comma 47 48 ∷ token Variable 48 49 ∷ token Close 49 50 ∷ token Dot 50 51 ∷ token Question 52 53 ∷ token Open 53 54 ∷ token Variable 54 55 ∷ token Close 55 56 ∷ token If 57 59 ∷ token Identifier 60 61 ∷ token Open 61 62 ∷ token Variable 62 63 ∷ token Comma 63 64 ∷ token Variable 64 65 ∷ token Close 65 66 ∷ token Dot 66 67 ∷ [], (none, at (codes "@prefix a: <u#> @prefix a: <v#> p(a:x,Z). p(a:x,Z). ?(X) :- p(X,Y).") Directive 0 7 refl, (skip (codes "@prefix a: <u#> @prefix a: <v#> p(a:x,Z). p(a:x,Z). ?(X) :- p(X,Y).") 7 8 (omega arith, refl) (none), at (codes "@prefix a: <u#> @prefix a: <v#> p(a:x,Z). p(a:x,Z). ?(X) :- p(X,Y).") Prefix 8 10 refl, (skip (codes "@prefix a: <u#> @prefix a: <v#> p(a:x,Z). p(a:x,Z). ?(X) :- p(X,Y).") 10 11 (omega arith, refl) (none), at (codes "@prefix a: <u#> @prefix a: <v#> p(a:x,Z). p(a:x,Z). ?(X) :- p(X,Y).") Iri 11 15 refl, (skip (codes "@prefix a: <u#> @prefix a: <v#> p(a:x,Z). p(a:x,Z). ?(X) :- p(X,Y).") 15 16 (omega arith, refl) (none), at (codes "@prefix a: <u#> @prefix a: <v#> p(a:x,Z). p(a:x,Z). ?(X) :- p(X,Y).") Directive 16 23 refl, (skip (codes "@prefix a: <u#> @prefix a: <v#> p(a:x,Z). p(a:x,Z). ?(X) :- p(X,Y).") 23 24 (omega arith, refl) (none), at (codes "@prefix a: <u#> @prefix a: <v#> p(a:x,Z). p(a:x,Z). ?(X) :- p(X,Y).") Prefix 24 26 refl, (skip (codes "@prefix a: <u#> @prefix a: <v#> p(a:x,Z). p(a:x,Z). ?(X) :- p(X,Y).") 26 27 (omega arith, refl) (none), at (codes "@prefix a: <u#> @prefix a: <v#> p(a:x,Z). p(a:x,Z). ?(X) :- p(X,Y).") Iri 27 31 refl, (skip (codes "@prefix a: <u#> @prefix a: <v#> p(a:x,Z). p(a:x,Z). ?(X) :- p(X,Y).") 31 32 (omega arith, refl) (none), at (codes "@prefix a: <u#> @prefix a: <v#> p(a:x,Z). p(a:x,Z). ?(X) :- p(X,Y).") Identifier 32 33 refl, (none, at (codes "@prefix a: <u#> @prefix a: <v#> p(a:x,Z). p(a:x,Z). ?(X) :- p(X,Y).") Open 33 34 refl, (none, at (codes "@prefix a: <u#> @prefix a: <v#> p(a:x,Z). p(a:x,Z). ?(X) :- p(X,Y).") Prefixed 34 37 refl, (none, at (codes "@prefix a: <u#> @prefix a: <v#> p(a:x,Z). p(a:x,Z). ?(X) :- p(X,Y).") Comma 37 38 refl, (none, at (codes "@prefix a: <u#> @prefix a: <v#> p(a:x,Z). p(a:x,Z). ?(X) :- p(X,Y).") Variable 38 39 refl, (none, at (codes "@prefix a: <u#> @prefix a: <v#> p(a:x,Z). p(a:x,Z). ?(X) :- p(X,Y).") Close 39 40 refl, (none, at (codes "@prefix a: <u#> @prefix a: <v#> p(a:x,Z). p(a:x,Z). ?(X) :- p(X,Y).") Dot 40 41 refl, (skip (codes "@prefix a: <u#> @prefix a: <v#> p(a:x,Z). p(a:x,Z). ?(X) :- p(X,Y).") 41 42 (omega arith, refl) (none), at (codes "@prefix a: <u#> @prefix a: <v#> p(a:x,Z). p(a:x,Z). ?(X) :- p(X,Y).") Identifier 42 43 refl, (none, at (codes "@prefix a: <u#> @prefix a: <v#> p(a:x,Z). p(a:x,Z). ?(X) :- p(X,Y).") Open 43 44 refl, (none, at (codes "@prefix a: <u#> @prefix a: <v#> p(a:x,Z). p(a:x,Z). ?(X) :- p(X,Y).") Prefixed 44 47 refl, (none, at (codes "@prefix a: <u#> @prefix a: <v#> p(a:x,Z). p(a:x,Z). ?(X) :- p(X,Y).") Comma 47 48 refl, (none, at (codes "@prefix a: <u#> @prefix a: <v#> p(a:x,Z). p(a:x,Z). ?(X) :- p(X,Y).") Variable 48 49 refl, (none, at (codes "@prefix a: <u#> @prefix a: <v#> p(a:x,Z). p(a:x,Z). ?(X) :- p(X,Y).") Close 49 50 refl, (none, at (codes "@prefix a: <u#> @prefix a: <v#> p(a:x,Z). p(a:x,Z). ?(X) :- p(X,Y).") Dot 50 51 refl, (skip (codes "@prefix a: <u#> @prefix a: <v#> p(a:x,Z). p(a:x,Z). ?(X) :- p(X,Y).") 51 52 (omega arith, refl) (none), at (codes "@prefix a: <u#> @prefix a: <v#> p(a:x,Z). p(a:x,Z). ?(X) :- p(X,Y).") Question 52 53 refl, (none, at (codes "@prefix a: <u#> @prefix a: <v#> p(a:x,Z). p(a:x,Z). ?(X) :- p(X,Y).") Open 53 54 refl, (none, at (codes "@prefix a: <u#> @prefix a: <v#> p(a:x,Z). p(a:x,Z). ?(X) :- p(X,Y).") Variable 54 55 refl, (none, at (codes "@prefix a: <u#> @prefix a: <v#> p(a:x,Z). p(a:x,Z). ?(X) :- p(X,Y).") Close 55 56 refl, (skip (codes "@prefix a: <u#> @prefix a: <v#> p(a:x,Z). p(a:x,Z). ?(X) :- p(X,Y).") 56 57 (omega arith, refl) (none), at (codes "@prefix a: <u#> @prefix a: <v#> p(a:x,Z). p(a:x,Z). ?(X) :- p(X,Y).") If 57 59 refl, (skip (codes "@prefix a: <u#> @prefix a: <v#> p(a:x,Z). p(a:x,Z). ?(X) :- p(X,Y).") 59 60 (omega arith, refl) (none), at (codes "@prefix a: <u#> @prefix a: <v#> p(a:x,Z). p(a:x,Z). ?(X) :- p(X,Y).") Identifier 60 61 refl, (none, at (codes "@prefix a: <u#> @prefix a: <v#> p(a:x,Z). p(a:x,Z). ?(X) :- p(X,Y).") Open 61 62 refl, (none, at (codes "@prefix a: <u#> @prefix a: <v#> p(a:x,Z). p(a:x,Z). ?(X) :- p(X,Y).") Variable 62 63 refl, (none, at (codes "@prefix a: <u#> @prefix a: <v#> p(a:x,Z). p(a:x,Z). ?(X) :- p(X,Y).") Comma 63 64 refl, (none, at (codes "@prefix a: <u#> @prefix a: <v#> p(a:x,Z). p(a:x,Z). ?(X) :- p(X,Y).") Variable 64 65 refl, (none, at (codes "@prefix a: <u#> @prefix a: <v#> p(a:x,Z). p(a:x,Z). ?(X) :- p(X,Y).") Close 65 66 refl, (none, at (codes "@prefix a: <u#> @prefix a: <v#> p(a:x,Z). p(a:x,Z). ?(X) :- p(X,Y).") Dot 66 67 refl, none)))))))))))))))))))))))))))))))), (directive prefix ∷ prefix_name (codes "a:") ∷ iri (codes "<v#>") ∷ identifier (codes "p") ∷ opening ∷ prefixed (codes "a:x") ∷ comma ∷ variable (codes "Z") ∷ closing ∷ dot ∷ identifier (codes "p") ∷ opening ∷ prefixed (codes "a:x") ∷ comma ∷ variable (codes "Z") ∷ closing ∷ dot ∷ question ∷ opening ∷ variable (codes "X") ∷ closing ∷ if_sign ∷ identifier (codes "p") ∷ opening ∷ variable (codes "X") ∷ comma ∷ variable (codes "Y") ∷ closing ∷ dot ∷ [], refl, (λ rest e l. no_dot (directive prefix ∷ prefix_name (codes "a:") ∷ iri (codes "<v#>") ∷ identifier (codes "p") ∷ opening ∷ prefixed (codes "a:x") ∷ comma ∷ variable (codes "Z") ∷ closing ∷ dot ∷ identifier (codes "p") ∷ opening ∷ prefixed (codes "a:x") ∷ comma ∷ variable (codes "Z") ∷ closing ∷ dot ∷ question ∷ opening ∷ variable (codes "X") ∷ closing ∷ if_sign ∷ identifier (codes "p") ∷ opening ∷ variable (codes "X") ∷ comma ∷ variable (codes "Y") ∷ closing ∷ dot ∷ []) rest (λ h. h) e), (identifier (codes "p") ∷ opening ∷ prefixed (codes "a:x") ∷ comma ∷ variable (codes "Z") ∷ closing ∷ dot ∷ identifier (codes "p") ∷ opening ∷ prefixed (codes "a:x") ∷ comma ∷ variable (codes "Z") ∷ closing ∷ dot ∷ question ∷ opening ∷ variable (codes "X") ∷ closing ∷ if_sign ∷ identifier (codes "p") ∷ opening ∷ variable (codes "X") ∷ comma ∷ variable (codes "Y") ∷ closing ∷ dot ∷ [], refl, (λ rest e l. no_dot (identifier (codes "p") ∷ opening ∷ prefixed (codes "a:x") ∷ comma ∷ variable (codes "Z") ∷ closing ∷ dot ∷ identifier (codes "p") ∷ opening ∷ prefixed (codes "a:x") ∷ comma ∷ variable (codes "Z") ∷ closing ∷ dot ∷ question ∷ opening ∷ variable (codes "X") ∷ closing ∷ if_sign ∷ identifier (codes "p") ∷ opening ∷ variable (codes "X") ∷ comma ∷ variable (codes "Y") ∷ closing ∷ dot ∷ []) rest (λ h. h) e), (identifier (codes "p") ∷ opening ∷ prefixed (codes "a:x") ∷ comma ∷ variable (codes "Z") ∷ closing ∷ dot ∷ question ∷ opening ∷ variable (codes "X") ∷ closing ∷ if_sign ∷ identifier (codes "p") ∷ opening ∷ variable (codes "X") ∷ comma ∷ variable (codes "Y") ∷ closing ∷ dot ∷ [], refl, (λ rest e l. absurd l), (question ∷ opening ∷ variable (codes "X") ∷ closing ∷ if_sign ∷ identifier (codes "p") ∷ opening ∷ variable (codes "X") ∷ comma ∷ variable (codes "Y") ∷ closing ∷ dot ∷ [], refl, (λ rest e l. absurd l), ([], refl, (λ rest e l. absurd l), refl))))), refl), tt), refl), record { names = refl; rules = refl; queries = (record { label = refl; query = record { answers = refl; atoms = same_atoms (made_atom 0 (Terms.Variable 0 ∷ Terms.Variable 1 ∷ []) ∷ []); once = one_apart (made_atom 0 (Terms.Variable 0 ∷ Terms.Variable 1 ∷ [])) } }, tt); unknown = λ i x. i; apart = λ i j x y p q e. (e, in_two i x p ∙ sym (in_two j y q)); facts = refl })
