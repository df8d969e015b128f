-- The first column of a term.
use Rattle.std.proofs.Common.{◌≡◌, ℕ, zero, suc, ◌+◌, ◌<◌, ◌≤◌, Bool, true, false, cond, List, [], ◌∷◌, length, drop, get_or, Contains, nat_eq, add-one, refl, sym, ap, ◌∙◌, subst, arith}
use Rattle.std.specs.List.{list_any, position_or_len}
use Rattle.std.specs.Prelude.{Some, slice_get}
use Rattle.std.proofs.Math.Seq.{drop-cons}
use Rattle.std.proofs.lemmas.Bool.{and_parts}
use Rattle.std.proofs.lemmas.Bool.Decides.{Decides-eqb}
use Rattle.std.proofs.lemmas.Option.{slice_get-get_or}
use Rattle.ucq_terms.specs.declared.Term.{Term}
use Rattle.ucq_terms.specs.Syntax.{Atom}
use Rattle.ucq_terms.specs.Numbering.{term_eq}
use Rattle.ucq_terms.proofs.Equality.{IsEquality-term_eq}
use Rattle.ucq_terms.proofs.Numbering.{position_below, position_new, get_or-position, Contains-from_any, any_from_contains}
use Rattle.ucq_sql.specs.declared.algebra.Column.{Column}
use Rattle.ucq_sql.specs.Selects.{column_eq, first_column_from}

-- a place within the terms, or behind them, tells whether the term stands there
stands : (t : Term) (ts : List Term) (b : Bool) → list_any (term_eq t) ts ≡ b → position_or_len (term_eq t) ts < length ts → list_any (term_eq t) ts ≡ true
stands t ts true e l = e
stands t ts false e l = let n = position_new term_eq ts t e in absurd (omega arith)

misses : (t : Term) (ts : List Term) (b : Bool) → list_any (term_eq t) ts ≡ b → length ts ≤ position_or_len (term_eq t) ts → list_any (term_eq t) ts ≡ false
misses t ts true e l = let n = position_below term_eq ts t e in absurd (omega arith)
misses t ts false e l = e

-- The first of the atoms from a place on holds the term, or the others are asked.
pub first_here : (atoms : List Atom) (t : Term) (i place : ℕ) (a : Atom) → i < length atoms → a ≡ get_or atoms i a → place ≡ position_or_len (term_eq t) a.terms → place < length a.terms →
    first_column_from i (drop i atoms) t ≡ record { alias = i; column = place }
first_here atoms t i place a h is e l =
    let yes = stands t a.terms (list_any (term_eq t) a.terms) refl (subst (λ n. n < length a.terms) e l) in
    ap (λ (l : List Atom). first_column_from i l t) (drop-cons atoms i a h ∙ ap (λ (b : Atom). b ∷ drop (suc i) atoms) (sym is)) ∙
    (ap (λ b. cond b (record { alias = i; column = position_or_len (term_eq t) a.terms }) (first_column_from (suc i) (drop (suc i) atoms) t)) yes ∙
    ap (λ n. let c : Column = record { alias = i; column = n } in c) (sym e))

pub first_later : (atoms : List Atom) (t : Term) (i place : ℕ) (a : Atom) → i < length atoms → a ≡ get_or atoms i a → place ≡ position_or_len (term_eq t) a.terms → length a.terms ≤ place →
    first_column_from i (drop i atoms) t ≡ first_column_from (i + 1) (drop (i + 1) atoms) t
first_later atoms t i place a h is e l =
    let no = misses t a.terms (list_any (term_eq t) a.terms) refl (subst (λ n. length a.terms ≤ n) e l) in
    ap (λ (l : List Atom). first_column_from i l t) (drop-cons atoms i a h ∙ ap (λ (b : Atom). b ∷ drop (suc i) atoms) (sym is)) ∙
    (ap (λ b. cond b (record { alias = i; column = position_or_len (term_eq t) a.terms }) (first_column_from (suc i) (drop (suc i) atoms) t)) no ∙
    ap (λ n. first_column_from n (drop n atoms) t) (sym (add-one i)))

-- The column holds the term, where the first of the atoms has this alias.
pub record Stands (alias : ℕ) (atoms : List Atom) (t : Term) (c : Column) : Type 0 where
  pub place : ℕ
  pub atom : Atom
  pub alias_is : c.alias ≡ alias + place
  pub atom_is : slice_get atoms place ≡ Some atom
  pub term_is : slice_get atom.terms c.column ≡ Some t

-- a term of an atom stands in its first column
pub first_stands : (alias : ℕ) (atoms : List Atom) (t : Term) (i : ℕ) (a : Atom) → slice_get atoms i ≡ Some a → Contains a.terms t → Stands alias atoms t (first_column_from alias atoms t)
first_stands alias [] t i a e h = absurd cc
first_stands alias (b ∷ atoms) t i a e h = go (λ k f. first_stands (suc alias) atoms t k a f h) (list_any (term_eq t) b.terms) refl i e
  where
    go : ((k : ℕ) → slice_get atoms k ≡ Some a → Stands (suc alias) atoms t (first_column_from (suc alias) atoms t)) → (here : Bool) → list_any (term_eq t) b.terms ≡ here → (i : ℕ) → slice_get (b ∷ atoms) i ≡ Some a →
        Stands alias (b ∷ atoms) t (cond here (record { alias = alias; column = position_or_len (term_eq t) b.terms }) (first_column_from (suc alias) atoms t))
    go r true there i e =
        let inside = position_below term_eq b.terms t there in
        record {
          place = 0;
          atom = b;
          alias_is = omega arith;
          atom_is = refl;
          term_is = slice_get-get_or b.terms (position_or_len (term_eq t) b.terms) t inside ∙ ap Some (get_or-position term_eq IsEquality-term_eq b.terms t t (Contains-from_any term_eq IsEquality-term_eq b.terms t there));
        }
    go r false missing zero e =
        let same : b ≡ a = cc in
        let bad : true ≡ false = sym (any_from_contains term_eq IsEquality-term_eq b.terms t (subst (λ (c : Atom). Contains c.terms t) (sym same) h)) ∙ missing in
        absurd cc
    go r false missing (suc i) e =
        let later = r i e in
        let number = later.alias_is in
        record { place = suc later.place; atom = later.atom; alias_is = omega (arith, number); atom_is = later.atom_is; term_is = later.term_is }

-- two columns that the test takes for one are one
pub column_eq-same : (a b : Column) → column_eq a b ≡ true → a ≡ b
column_eq-same a b e =
    let both = and_parts (nat_eq a.alias b.alias) (nat_eq a.column b.column) e in
    let aliases : a.alias ≡ b.alias = (Decides-eqb a.alias b.alias).0 both.0 in
    let columns : a.column ≡ b.column = (Decides-eqb a.column b.column).0 both.1 in
    λ i. record { alias = aliases i; column = columns i }
