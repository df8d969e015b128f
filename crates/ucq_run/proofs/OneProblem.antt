-- Inputs of one meaning have the same problems, up to the order of a query's atoms, and a budget is enough for all or for none.
use Rattle.std.proofs.Common.{◌≡◌, ◌+◌, ◌++◌, ℕ, zero, suc, All, List, [], ◌∷◌, map, refl, sym, ap, ◌∙◌, subst, arith}
use Rattle.std.proofs.lemmas.List.Elements.{All-append, All-cons, All-contains, All-nil, Contains-append_left, Contains-append_right}
use Rattle.std.specs.List.{AllZip, enumerate_from}
use Rattle.std.specs.Prelude.{Result, Ok, Some, slice_get}
use Rattle.ucq_terms.specs.Syntax.{Rule, Query, Problem, IsSubset, IsSameSet}
use Rattle.ucq_terms.specs.Homomorphism.{Covers, IsEquivalent, IsCoreOf}
use Rattle.ucq_terms.specs.Rewriting.{IsInLevel}
use Rattle.ucq_terms.specs.Union.{IsExact}
use Rattle.ucq_chase.proofs.Kept.{equivalent_keeps_exact}
use Rattle.ucq_terms.proofs.Subsets.{IsSubset-trans}
use Rattle.ucq_terms.proofs.Maps.{Covers-refl, Covers-trans}
use Rattle.ucq_store.specs.Laws.{IsCoveredByLevels, IsEnough}
use Rattle.ucq_reader.specs.declared.ReadFault.{ReadFault}
use Rattle.ucq_reader.specs.declared.input.Asked.{Asked}
use Rattle.ucq_reader.specs.Meaning.{Meant, SymbolAsked, SymbolQuery}
use Rattle.ucq_reader.specs.Input.{InputValue, IsAskedOf, IsInput, HasNumbersOf, IsQueryOf, rule_value}
use Rattle.ucq_reader.proofs.Refusals.{meaning_unique}
use Rattle.ucq_terms.proofs.Lists.{All-from_contains}
use Rattle.ucq_words.specs.declared.values.Mode.{Mode}
use Rattle.ucq_words.specs.declared.values.Mode.TheVariants.{Plain, Within}
use Rattle.ucq_words.specs.Settings.{SettingsValue}
use Rattle.ucq_run.specs.Inputs.{problem_of}
use Rattle.ucq_run.specs.Parts.{Part, HasEnoughFor, compared_of, judged_of, parts_in, parts_of, section_of}
use Rattle.ucq_run.specs.Finished.{AreChaseAnswers, question_of}
use Rattle.ucq_run.proofs.Unknowns.{answers_move}

-- a query whose atoms are among those of the other covers it
covers_more : (a b : Query) → a.answers ≡ b.answers → IsSubset a.atoms b.atoms → Covers a b
covers_more a b answers more =
    let itself = Covers-refl a in
    record {
      mapping = itself.mapping;
      homomorphism = record {
        atoms = IsSubset-trans _ a.atoms b.atoms itself.homomorphism.atoms more;
        answers = itself.homomorphism.answers ∙ answers;
      };
    }

same_atoms : (a b : Query) → a.answers ≡ b.answers → IsSameSet a.atoms b.atoms → IsEquivalent a b
same_atoms a b answers same = record { forth = covers_more a b answers same.0; back = covers_more b a (sym answers) same.1 }

core_of_same : (a b core : Query) → IsEquivalent a b → IsCoreOf a core → IsCoreOf b core
core_of_same a b core same of = record {
  core = of.core;
  equivalent = record {
    forth = Covers-trans b a core same.back of.equivalent.forth;
    back = Covers-trans core a b of.equivalent.back same.forth;
  };
}

module _ (rules : List Rule) where
  abbrev problem_with : Query → Problem
  problem_with q = record { rules = rules; query = q }

  level_of_same : (a b : Query) → IsEquivalent a b → (level : ℕ) (core : Query) → IsInLevel (problem_with a) level core → IsInLevel (problem_with b) level core
  level_of_same a b same zero core h = (h.0, core_of_same (problem_with a).query (problem_with b).query core same h.1)
  level_of_same a b same (suc level) core (once, (q, r, before, step, of)) = (once, (q, r, level_of_same a b same level q before, step, of))

  back : (a b : Query) → IsEquivalent a b → IsEquivalent b a
  back a b same = record { forth = same.back; back = same.forth }

  covered_of_same : (a b : Query) → IsEquivalent a b → (last : ℕ) (q : Query) → IsCoveredByLevels (problem_with a) last q → IsCoveredByLevels (problem_with b) last q
  covered_of_same a b same last q c = record { level = c.level; within = c.within; by = c.by; in_level = level_of_same a b same c.level c.by c.in_level; covers = c.covers }

  enough_of_same : (a b : Query) (budget : ℕ) → IsEquivalent a b → IsEnough (problem_with a) budget → IsEnough (problem_with b) budget
  enough_of_same a b budget same h = record {
    last = h.last;
    members = h.members;
    ends = record {
      covered = λ q l. covered_of_same a b same h.last q (h.ends.covered q (level_of_same b a (back a b same) (suc h.last) q l));
      counted = λ level q within l. h.ends.counted level q within (level_of_same b a (back a b same) level q l);
      narrow = λ level q result width within l. h.ends.narrow level q result width within (level_of_same b a (back a b same) level q l);
    };
    fits = h.fits;
  }

-- ---- one meaning

query_of_same : (names : List (List ℕ)) (q : SymbolQuery) (a b : Query) → IsQueryOf names q a → IsQueryOf names q b → IsEquivalent a b
query_of_same names q a b h k =
    same_atoms a b (h.answers ∙ sym k.answers)
    (IsSubset-trans a.atoms _ b.atoms h.atoms.0 k.atoms.1, IsSubset-trans b.atoms _ a.atoms k.atoms.0 h.atoms.1)

-- ---- queries of one meaning

-- two queries of one place mean the same
pub record AreSameAsked (x y : Asked) : Type 0 where
  pub label : x.label ≡ y.label
  pub query : IsEquivalent x.query y.query

same_asked : (names : List (List ℕ)) (m : SymbolAsked) (x y : Asked) → IsAskedOf names m x → IsAskedOf names m y → AreSameAsked x y
same_asked names m x y h k = record { label = h.label ∙ sym k.label; query = query_of_same names m.query x.query y.query h.query k.query }

zipped_same : (names : List (List ℕ)) (ms : List SymbolAsked) (xs ys : List Asked) → AllZip (IsAskedOf names) ms xs → AllZip (IsAskedOf names) ms ys → AllZip AreSameAsked xs ys
zipped_same names [] [] [] h k = tt
zipped_same names [] [] (y ∷ ys) h k = absurd k
zipped_same names [] (x ∷ xs) ys h k = absurd h
zipped_same names (m ∷ ms) [] ys h k = absurd h
zipped_same names (m ∷ ms) (x ∷ xs) [] h k = absurd k
zipped_same names (m ∷ ms) (x ∷ xs) (y ∷ ys) h k = (same_asked names m x y h.0 k.0, zipped_same names ms xs ys h.1 k.1)

-- Inputs of one meaning: the names and rules are the same, and the queries, one by one.
pub record AreSameInput (a b : InputValue) : Type 0 where
  pub names : a.names ≡ b.names
  pub rules : a.rules ≡ b.rules
  pub queries : AllZip AreSameAsked a.queries b.queries

pub same_input : (meant : Meant) (a b : InputValue) → HasNumbersOf meant a → HasNumbersOf meant b → AreSameInput a b
same_input meant a b h k =
    let names : a.names ≡ b.names = h.names ∙ sym k.names in
    record {
      names = names;
      rules = h.rules ∙ (ap (λ ns. map (rule_value ns) meant.rules) names ∙ sym k.rules);
      queries = zipped_same b.names meant.queries a.queries b.queries (subst (λ ns. AllZip (IsAskedOf ns) meant.queries a.queries) names h.queries) k.queries;
    }

-- the query of a number, in both
pub same_at : (xs ys : List Asked) (number : ℕ) (x : Asked) → AllZip AreSameAsked xs ys → slice_get xs number ≡ Some x →
    (y : Asked) × (slice_get ys number ≡ Some y) × AreSameAsked x y
same_at [] ys number x h at = absurd cc
same_at (z ∷ xs) [] number x h at = absurd h
same_at (z ∷ xs) (y ∷ ys) zero x h at = let same : z ≡ x = cc in (y, refl, subst (λ (a : Asked). AreSameAsked a y) same h.0)
same_at (z ∷ xs) (y ∷ ys) (suc number) x h at = same_at xs ys number x h.1 at

-- a budget is enough for both
enough_of_asked : (a b : InputValue) (x y : Asked) (budget : ℕ) → a.rules ≡ b.rules → AreSameAsked x y → IsEnough (problem_of a x.query) budget → IsEnough (problem_of b y.query) budget
enough_of_asked a b x y budget rules same enough =
    enough_of_same b.rules x.query y.query budget same.query (subst (λ (rs : List Rule). IsEnough (problem_with rs x.query) budget) rules enough)

-- so for the parts of queries of one meaning, one by one
enough_of_queries : (part other : ℕ × Asked → Part) → ((n : ℕ) (x y : Asked) → AreSameAsked x y → HasEnoughFor (part (n, x)) → HasEnoughFor (other (n, y))) →
    (n : ℕ) (xs ys : List Asked) → AllZip AreSameAsked xs ys → All HasEnoughFor (map part (enumerate_from n xs)) → All HasEnoughFor (map other (enumerate_from n ys))
enough_of_queries part other each n [] [] h enough = All-nil HasEnoughFor
enough_of_queries part other each n [] (y ∷ ys) h enough = absurd h
enough_of_queries part other each n (x ∷ xs) [] h enough = absurd h
enough_of_queries part other each n (x ∷ xs) (y ∷ ys) h enough =
    All-cons HasEnoughFor (other (n, y)) (map other (enumerate_from (n + 1) ys))
    (each n x y h.0 (enough 0 (part (n, x)) (omega arith)))
    (enough_of_queries part other each (n + 1) xs ys h.1 (λ k d l. enough (suc k) d (omega (arith, l))))

-- and for what is said of the rules
enough_of_rules : (a b : InputValue) (budget : ℕ) → a.names ≡ b.names → a.rules ≡ b.rules → All HasEnoughFor (map (judged_of a.names a.rules budget) (enumerate_from 0 a.rules)) →
    All HasEnoughFor (map (judged_of b.names b.rules budget) (enumerate_from 0 b.rules))
enough_of_rules a b budget names rules enough =
    subst (λ (ns : List (List ℕ)). All HasEnoughFor (map (judged_of ns b.rules budget) (enumerate_from 0 b.rules))) names
    (subst (λ (rs : List Rule). All HasEnoughFor (map (judged_of a.names rs budget) (enumerate_from 0 rs))) rules enough)

module _ (settings : SettingsValue) (a b : InputValue) (same : AreSameInput a b) where
  enough_in : (mode : Mode) → All HasEnoughFor (parts_in mode a.queries a.rules (question_of settings a) a.names settings.budget) →
      All HasEnoughFor (parts_in mode b.queries b.rules (question_of settings b) b.names settings.budget)
  enough_in Plain enough =
      enough_of_queries (section_of a.queries (question_of settings a)) (section_of b.queries (question_of settings b))
      (λ n x y h e. enough_of_asked a b x y settings.budget same.rules h e) 0 a.queries b.queries same.queries enough
  enough_in Within enough =
      let compared = map (compared_of a.queries (question_of settings a)) (enumerate_from 0 a.queries) in
      let judged = map (judged_of a.names a.rules settings.budget) (enumerate_from 0 a.rules) in
      All-append HasEnoughFor (map (compared_of b.queries (question_of settings b)) (enumerate_from 0 b.queries)) (map (judged_of b.names b.rules settings.budget) (enumerate_from 0 b.rules))
      (enough_of_queries (compared_of a.queries (question_of settings a)) (compared_of b.queries (question_of settings b))
      (λ n x y h e. enough_of_asked a b x y settings.budget same.rules h e) 0 a.queries b.queries same.queries
      (All-from_contains HasEnoughFor compared (λ p i. All-contains HasEnoughFor (compared ++ judged) p enough (Contains-append_left compared judged p i))))
      (enough_of_rules a b settings.budget same.names same.rules
      (All-from_contains HasEnoughFor judged (λ p i. All-contains HasEnoughFor (compared ++ judged) p enough (Contains-append_right compared judged p i))))

-- where a budget is enough for the one it is for the other
pub enough_of_input : (settings : SettingsValue) (a b : InputValue) → AreSameInput a b → All HasEnoughFor (parts_of settings a) → All HasEnoughFor (parts_of settings b)
enough_of_input settings a b same enough = enough_in settings a b same settings.mode enough

-- an exact union of the one problem is one of the other
pub exact_of_asked : (a b : InputValue) (x y : Asked) (union : List Query) → a.rules ≡ b.rules → AreSameAsked x y → IsExact (problem_of a x.query) union → IsExact (problem_of b y.query) union
exact_of_asked a b x y union rules same exact =
    equivalent_keeps_exact b.rules x.query y.query union same.query (subst (λ (rs : List Rule). IsExact (problem_with rs x.query) union) rules exact)

abbrev stands_for : Meant → Result Meant ReadFault
stands_for meant = Ok meant

one_meant : (a b : Meant) → stands_for a ≡ stands_for b → a ≡ b
one_meant a b e = cc

-- files stand for inputs of one meaning
pub same_of_files : (texts : List (List ℕ)) (a b : InputValue) → IsInput texts a → IsInput texts b → AreSameInput a b
same_of_files texts a b h k =
    let same : h.0 ≡ k.0 = one_meant h.0 k.0 (meaning_unique texts (stands_for h.0) (stands_for k.0) h.1 k.1) in
    same_input k.0 a b (subst (λ (m : Meant). HasNumbersOf m a) same h.2) k.2

-- and so the answers of their problems are the same, whatever the numbers of their unknown values
pub answers_of_files : (texts : List (List ℕ)) (a b : InputValue) (p r : Problem) (union : List Query) (tuples : List (List ℕ)) → IsInput texts a → IsInput texts b →
    IsExact p union → IsExact r union → AreChaseAnswers a.names p a.facts tuples → AreChaseAnswers b.names r b.facts tuples
answers_of_files texts a b p r union tuples h k of_p of_r answers =
    let same : h.0 ≡ k.0 = one_meant h.0 k.0 (meaning_unique texts (stands_for h.0) (stands_for k.0) h.1 k.1) in
    answers_move k.0 a b p r union tuples (subst (λ (m : Meant). HasNumbersOf m a) same h.2) k.2 of_p of_r answers
