-- Texts of conditions, and of selects, that grow.
use Rattle.std.proofs.Common.{◌≡◌, ℕ, ◌+◌, ◌<◌, List, [], ◌∷◌, ◌++◌, length, take, get_or, sym, ap, ◌∙◌, arith, length-append}
use Rattle.std.specs.Prelude.{Some, slice_get}
use Rattle.std.specs.Option.{option_to_list}
use Rattle.std.proofs.lemmas.List.{append-nil}
use Rattle.std.proofs.lemmas.Option.{slice_get_within, get_or_from_slice_get}
use Rattle.ucq_terms.specs.declared.Term.{Term}
use Rattle.ucq_terms.specs.Syntax.{Atom, Query}
use Rattle.ucq_sql.specs.declared.algebra.Condition.{Condition}
use Rattle.ucq_sql.specs.Selects.{condition_of, conditions_in, row_conditions, select_of, statement_of}
use Rattle.ucq_sql.specs.Text.{condition_text, conditions_text, word_before, select_text, selects_text, union_before}
use Rattle.ucq_sql.proofs.Places.{by_place-append, by_place-next, by_place-next_image, grown}

-- further conditions behind those that stand in a text
pub record AreBehind (names : List (List ℕ)) (before : List ℕ) (n : ℕ) (conditions : List Condition) (text : List ℕ) (count : ℕ) : Type 0 where
  pub text_is : text ≡ before ++ conditions_text names n conditions
  pub count_is : count ≡ n + length conditions

pub behind-more : (names : List (List ℕ)) (before : List ℕ) (n : ℕ) (xs ys whole : List Condition) (text after : List ℕ) (count next : ℕ) → AreBehind names before n xs text count →
    whole ≡ xs ++ ys → after ≡ text ++ conditions_text names count ys → next ≡ count + length ys → AreBehind names before n whole after next
behind-more names before n xs ys whole text after count next h split more number =
    let place : count ≡ n + length xs = h.count_is in
    record {
      text_is = grown before (conditions_text names n xs) (conditions_text names count ys) (conditions_text names n whole) text after h.text_is more
          (ap (conditions_text names n) split ∙ (by_place-append (λ place condition. word_before place ++ condition_text names condition) n xs ys ∙ ap (λ k. conditions_text names n xs ++ conditions_text names k ys) (sym place)));
      count_is = omega (arith, number, place, ap (λ (l : List Condition). length l) split, length-append xs ys);
    }

-- one condition, or none
pub one_condition : (names : List (List ℕ)) (count : ℕ) (condition : Condition) (text after : List ℕ) → after ≡ text ++ (word_before count ++ condition_text names condition) → after ≡ text ++ conditions_text names count (condition ∷ [])
one_condition names count condition text after e = e ∙ ap (λ l. text ++ l) (sym (append-nil (word_before count ++ condition_text names condition)))

pub no_condition : (text after : List ℕ) → after ≡ text → after ≡ text ++ []
no_condition text after e = e ∙ sym (append-nil text)

-- the conditions of one more term, and those of one more atom
pub row_conditions-next : (atoms : List Atom) (alias : ℕ) (terms : List Term) (i : ℕ) (d : Term) → i < length terms →
    row_conditions atoms alias (take (i + 1) terms) ≡ row_conditions atoms alias (take i terms) ++ option_to_list (condition_of atoms (record { alias = alias; column = i }) (get_or terms i d))
row_conditions-next atoms alias terms i d h = by_place-next (λ column term. option_to_list (condition_of atoms (record { alias = alias; column = column }) term)) terms i d h

pub conditions_in-next : (atoms first : List Atom) (i : ℕ) (a : Atom) → i < length first → a ≡ get_or first i a →
    conditions_in atoms (take (i + 1) first) ≡ conditions_in atoms (take i first) ++ row_conditions atoms i a.terms
conditions_in-next atoms first i a h is =
    by_place-next (λ alias (atom : Atom). row_conditions atoms alias atom.terms) first i a h ∙ ap (λ (b : Atom). conditions_in atoms (take i first) ++ row_conditions atoms i b.terms) (sym is)

-- the text of one more select
pub selects_text-next : (names : List (List ℕ)) (union : List Query) (i : ℕ) (q : Query) → slice_get union i ≡ Some q →
    selects_text names (statement_of (take (i + 1) union)) ≡ selects_text names (statement_of (take i union)) ++ (union_before i ++ select_text names (select_of q))
selects_text-next names union i q h =
    by_place-next_image (λ place select. union_before place ++ select_text names select) select_of union i q (slice_get_within union i q h) ∙
    ap (λ (p : Query). selects_text names (statement_of (take i union)) ++ (union_before i ++ select_text names (select_of p))) (get_or_from_slice_get union i q q h)
