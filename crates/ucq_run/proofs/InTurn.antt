-- The parts of what is asked, each by its number.
use Rattle.std.proofs.Common.{◌≡◌, ◌+◌, ◌<◌, ◌++◌, ℕ, zero, suc, List, [], ◌∷◌, length, map, take, drop, get_or, All, Contains, refl, sym, ap, ap₂, ◌∙◌, subst, arith}
use Rattle.std.proofs.lemmas.List.{length-append, length-map, take-append-drop}
use Rattle.std.proofs.lemmas.List.Elements.{All-append, All-contains, All-get_or, All-take, Contains-append_right}
use Rattle.std.proofs.lemmas.List.FromFn.{length-enumerate_from}
use Rattle.std.proofs.lemmas.Option.{get_or_from_slice_get, slice_get-get_or, slice_get-map}
use Rattle.std.specs.List.{enumerate_from, insert, remove}
use Rattle.std.specs.Option.{option_map}
use Rattle.std.specs.Prelude.{Option, Some, Result, Ok, Err, IfOk, slice_get}
use Rattle.ucq_terms.specs.Syntax.{Atom, Rule, Problem, Query}
use Rattle.ucq_terms.specs.Rewriting.{rule_at}
use Rattle.ucq_terms.proofs.Lists.{All-from_contains}
use Rattle.ucq_chase.specs.Names.{IsHeldProblem, IsHeldQuery}
use Rattle.ucq_reader.specs.declared.input.Asked.{Asked}
use Rattle.ucq_words.specs.declared.values.Mode.{Mode}
use Rattle.ucq_words.specs.declared.values.Mode.TheVariants.{Plain, Within}
use Rattle.ucq_outside.specs.Taken.{SinkChange}
use Rattle.ucq_run.specs.declared.outcome.Outcome.{Outcome}
use Rattle.ucq_run.specs.declared.request.Shared.{Shared}
use Rattle.ucq_run.specs.declared.solving.Solved.{Solved}
use Rattle.ucq_run.specs.Finished.{Question}
use Rattle.ucq_run.specs.Parts.{Part, compared_of, header_of, judged_of, parts_in, section_of}
use Rattle.ucq_run.specs.Printed.{PrintsFor}
use Rattle.ucq_run.specs.inner.Request.{AreHeldIn, part_count, parts_for, problem_with, question_for, question_in, section_with}
use Rattle.ucq_run.specs.inner.Solved.{IsSolved}

-- ---- an element by its number

slice_get-enumerate_from : {A : Type 0} (n : ℕ) (xs : List A) (k : ℕ) (x : A) → slice_get xs k ≡ Some x → slice_get (enumerate_from n xs) k ≡ Some (n + k, x)
slice_get-enumerate_from n [] k x at = absurd cc
slice_get-enumerate_from n (y ∷ xs) zero x at = let same : y ≡ x = cc in ap₂ (λ (m : ℕ) z. Some (m, z)) (omega arith) same
slice_get-enumerate_from n (y ∷ xs) (suc k) x at = slice_get-enumerate_from (n + 1) xs k x at ∙ ap (λ (m : ℕ). Some (m, x)) (omega arith)

-- the element of a number, with its number
numbered : {A B : Type 0} (f : ℕ × A → B) (xs : List A) (k : ℕ) (x : A) → slice_get xs k ≡ Some x → slice_get (map f (enumerate_from 0 xs)) k ≡ Some (f (k, x))
numbered f xs k x at =
    slice_get-map f (enumerate_from 0 xs) k ∙ (ap (option_map f) (slice_get-enumerate_from 0 xs k x at) ∙ ap (λ (m : ℕ). Some (f (m, x))) (omega arith))

slice_get-append_left : {A : Type 0} (xs ys : List A) (k : ℕ) (x : A) → slice_get xs k ≡ Some x → slice_get (xs ++ ys) k ≡ Some x
slice_get-append_left [] ys k x at = absurd cc
slice_get-append_left (z ∷ xs) ys zero x at = at
slice_get-append_left (z ∷ xs) ys (suc k) x at = slice_get-append_left xs ys k x at

slice_get-append_add : {A : Type 0} (xs ys : List A) (k : ℕ) → slice_get (xs ++ ys) (length xs + k) ≡ slice_get ys k
slice_get-append_add [] ys k = ap (slice_get ys) (omega arith)
slice_get-append_add {A} (z ∷ xs) ys k =
    let later : suc (length xs) + k ≡ suc (length xs + k) = omega arith in
    ap (slice_get (z ∷ (xs ++ ys))) later ∙ slice_get-append_add xs ys k

-- there is one of each number below the length
pub element_at : {A : Type 0} (xs : List A) (k : ℕ) → k < length xs → (x : A) × (slice_get xs k ≡ Some x)
element_at [] k inside = absurd (omega (arith, inside))
element_at (x ∷ xs) zero inside = (x, refl)
element_at (x ∷ xs) (suc k) inside = element_at xs k (omega (arith, inside))

mapped_count : {A B : Type 0} (f : ℕ × A → B) (xs : List A) → length (map f (enumerate_from 0 xs)) ≡ length xs
mapped_count f xs = length-map (enumerate_from 0 xs) f ∙ length-enumerate_from 0 xs

-- ---- parts

abbrev no_rule : Rule
no_rule = record { heads = []; body = [] }

module _ (question : Query → Question) (names : List (List ℕ)) (budget : ℕ) (all : List Asked) (rules : List Rule) where
  -- the section of a query is the part of its number
  query_in : (mode : Mode) (number : ℕ) (asked : Asked) → slice_get all number ≡ Some asked →
      slice_get (parts_in mode all rules question names budget) number ≡ Some (section_with mode (header_of all number asked) (question asked.query) number all)
  query_in Plain number asked at = numbered (section_of all question) all number asked at
  query_in Within number asked at =
      slice_get-append_left (map (compared_of all question) (enumerate_from 0 all)) (map (judged_of names rules budget) (enumerate_from 0 rules)) number _
      (numbered (compared_of all question) all number asked at)

  -- the parts of the rules stand behind those of the queries
  rule_in_parts : (place : ℕ) → place < length rules →
      slice_get (parts_in Within all rules question names budget) (length all + place) ≡ Some (judged_of names rules budget (place, rule_at rules place))
  rule_in_parts place inside =
      let sections = map (compared_of all question) (enumerate_from 0 all) in
      let judged = map (judged_of names rules budget) (enumerate_from 0 rules) in
      ap (λ (n : ℕ). slice_get (sections ++ judged) (n + place)) (sym (mapped_count (compared_of all question) all))
      ∙ (slice_get-append_add sections judged place
      ∙ numbered (judged_of names rules budget) rules place (rule_at rules place) (slice_get-get_or rules place no_rule inside))

  count_in : (mode : Mode) → length (parts_in mode all rules question names budget) ≡ part_count mode all rules
  count_in Plain = mapped_count (section_of all question) all
  count_in Within =
      length-append (map (compared_of all question) (enumerate_from 0 all)) (map (judged_of names rules budget) (enumerate_from 0 rules))
      ∙ ap₂ (λ (m n : ℕ). m + n) (mapped_count (compared_of all question) all) (mapped_count (judged_of names rules budget) rules)

one_part : (p q : Part) (found : Option Part) → found ≡ Some p → found ≡ Some q → p ≡ q
one_part p q found e f = cc

-- what is printed of the query of the number is printed of its part
pub prints_query : (s : Shared) (rules : List Rule) (all : List Asked) (facts : List Atom) (number : ℕ) (asked : Asked) (part : Part) (out : SinkChange) (o : Outcome) →
    slice_get all number ≡ Some asked → slice_get (parts_for s rules all facts) number ≡ Some part →
    PrintsFor (section_with s.mode (header_of all number asked) (question_for s rules facts asked.query) number all) out o → PrintsFor part out o
prints_query s rules all facts number asked part out o at is h =
    subst (λ (p : Part). PrintsFor p out o)
    (one_part _ part (slice_get (parts_for s rules all facts) number) (query_in (question_for s rules facts) s.names s.budget all rules s.mode number asked at) is) h

-- and so what is said of a rule, where there are more parts than queries
pub prints_rule : (s : Shared) (rules : List Rule) (all : List Asked) (facts : List Atom) (place : ℕ) (part : Part) (out : SinkChange) (o : Outcome) →
    s.mode ≡ Within → place < length rules → slice_get (parts_for s rules all facts) (length all + place) ≡ Some part →
    PrintsFor (judged_of s.names rules s.budget (place, rule_at rules place)) out o → PrintsFor part out o
prints_rule s rules all facts place part out o mode inside is h =
    let question = question_for s rules facts in
    subst (λ (p : Part). PrintsFor p out o)
    (one_part _ part (slice_get (parts_in Within all rules question s.names s.budget) (length all + place)) (rule_in_parts question s.names s.budget all rules place inside)
    (subst (λ (m : Mode). slice_get (parts_in m all rules question s.names s.budget) (length all + place) ≡ Some part) mode is)) h

-- where a part is behind those of the queries, the mode is that of containment
pub behind_queries : (mode : Mode) (all : List Asked) (rules : List Rule) (place : ℕ) → length all + place < part_count mode all rules → (mode ≡ Within) × (place < length rules)
behind_queries Plain all rules place inside = absurd (omega (arith, inside))
behind_queries Within all rules place inside = (refl, omega (arith, inside))

-- a part before the number of queries is that of a query
pub prints_first : (s : Shared) (rules : List Rule) (all : List Asked) (facts : List Atom) (number : ℕ) (part : Part) (out : SinkChange) (o : Outcome) →
    number < length all → slice_get (parts_for s rules all facts) number ≡ Some part →
    ((asked : Asked) → slice_get all number ≡ Some asked → PrintsFor (section_with s.mode (header_of all number asked) (question_for s rules facts asked.query) number all) out o) →
    PrintsFor part out o
prints_first s rules all facts number part out o inside is h =
    let (asked, at) = element_at all number inside in
    prints_query s rules all facts number asked part out o at is (h asked at)

-- and a later one that of a rule
pub prints_later : (s : Shared) (rules : List Rule) (all : List Asked) (facts : List Atom) (number place : ℕ) (part : Part) (out : SinkChange) (o : Outcome) →
    length all + place ≡ number → number < part_count s.mode all rules → slice_get (parts_for s rules all facts) number ≡ Some part →
    PrintsFor (judged_of s.names rules s.budget (place, rule_at rules place)) out o → PrintsFor part out o
prints_later s rules all facts number place part out o sum inside is h =
    let (mode, within) = behind_queries s.mode all rules place (subst (λ (n : ℕ). n < part_count s.mode all rules) (sym sum) inside) in
    prints_rule s rules all facts place part out o mode within (subst (λ (n : ℕ). slice_get (parts_for s rules all facts) n ≡ Some part) (sym sum) is) h

pub parts_count : (s : Shared) (rules : List Rule) (all : List Asked) (facts : List Atom) → length (parts_for s rules all facts) ≡ part_count s.mode all rules
parts_count s rules all facts = count_in (question_for s rules facts) s.names s.budget all rules s.mode

-- there is a part of each number
pub part_at : (s : Shared) (rules : List Rule) (all : List Asked) (facts : List Atom) (number : ℕ) → number < part_count s.mode all rules →
    (part : Part) × (slice_get (parts_for s rules all facts) number ≡ Some part)
part_at s rules all facts number inside = element_at (parts_for s rules all facts) number (subst (λ (n : ℕ). number < n) (sym (parts_count s rules all facts)) inside)

-- ---- what is solved

-- what is solved of a problem is that of an equal one
pub solved_of : {E : Type 0} (shared : Shared) (p q : Problem) (solved : Result Solved E) → IfOk solved (IsSolved shared p) → p ≡ q → IfOk solved (λ (s : Solved). s.store.problem ≡ q)
solved_of shared p q (Ok s) h e = h.problem ∙ e
solved_of shared p q (Err e) h same = tt

-- and so are its names
pub held_of : {E : Type 0} (shared : Shared) (count : ℕ) (p q : Problem) (solved : Result Solved E) → IfOk solved (IsSolved shared p) → p ≡ q → IsHeldProblem count q →
    IfOk solved (λ (s : Solved). IsHeldProblem count s.store.problem)
held_of shared count p q (Ok s) h e held = subst (IsHeldProblem count) (sym (h.problem ∙ e)) held
held_of shared count p q (Err e) h same held = tt

-- the problem of a query that is asked has names
pub asked_is_held : (count : ℕ) (rules : List Rule) (all : List Asked) (number : ℕ) (asked : Asked) → AreHeldIn count rules all → number < length all → asked ≡ get_or all number asked →
    IsHeldProblem count (problem_with rules asked.query)
asked_is_held count rules all number asked held inside at = record {
  rules = held.rules;
  query = subst (λ (a : Asked). IsHeldQuery count a.query) (sym at) (All-get_or (λ (a : Asked). IsHeldQuery count a.query) all number asked inside held.queries);
}

-- the query of the number is that which stands there
pub query_of_number : (all : List Asked) (number : ℕ) (found asked : Asked) → found ≡ get_or all number found → slice_get all number ≡ Some asked → found ≡ asked
query_of_number all number found asked at is = at ∙ get_or_from_slice_get all number asked found is

-- what is printed behind a header of a problem is so behind an equal one, of an equal problem
pub same_section : (s : Shared) (header other : List ℕ) (facts : List Atom) (p q : Problem) (number : ℕ) (all : List Asked) (out : SinkChange) (o : Outcome) → header ≡ other → p ≡ q →
    PrintsFor (section_with s.mode header (question_in s p facts) number all) out o → PrintsFor (section_with s.mode other (question_in s q facts) number all) out o
same_section s header other facts p q number all out o e f h =
    subst (λ (bytes : List ℕ). PrintsFor (section_with s.mode bytes (question_in s q facts) number all) out o) e
    (subst (λ (r : Problem). PrintsFor (section_with s.mode header (question_in s r facts) number all) out o) f h)

-- ---- a rule that is taken out

-- it is that of the number
pub rule_of_number : (rules : List Rule) (number : ℕ) (found : Rule) → number < length rules → found ≡ get_or rules number found → found ≡ rule_at rules number
rule_of_number rules number found inside at = at ∙ get_or_from_slice_get rules number (rule_at rules number) found (slice_get-get_or rules number no_rule inside)

-- it comes back to its place
pub put_back : {A : Type 0} (xs : List A) (place : ℕ) (x : A) → slice_get xs place ≡ Some x → insert (remove xs place) place x ≡ xs
put_back [] place x at = absurd cc
put_back (y ∷ xs) zero x at = let same : y ≡ x = cc in ap (λ z. z ∷ xs) (sym same)
put_back (y ∷ xs) (suc place) x at = ap (λ zs. y ∷ zs) (put_back xs place x at)

-- the rest keeps what holds of all
pub All-remove : {A : Type 0} (P : A → Type 0) (xs : List A) (place : ℕ) → All P xs → All P (remove xs place)
All-remove P xs place all =
    All-append P (take place xs) (drop (suc place) xs) (All-take P place xs all)
    (All-from_contains P (drop (suc place) xs) (λ x i. All-contains P xs x all
    (subst (λ ys. Contains ys x) (take-append-drop (suc place) xs) (Contains-append_right (take (suc place) xs) (drop (suc place) xs) x i))))
