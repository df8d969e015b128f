-- The names by labels tell the classes of the links that made them.
use Rattle.std.proofs.Common.{◌≡◌, ◌≢◌, ◌<◌, ◌≤◌, ◌+◌, ◌*◌, ◌&&◌, ℕ, suc, Bool, true, false, List, [], ◌∷◌, length, Contains, AllPairs, nat_eq, cond, get_or, refl, sym, ap, ap₂, ◌∙◌, subst, inl, inr, arith}
use Rattle.std.specs.Prelude.{nat_lt}
use Rattle.std.specs.List.{position_or_len}
use Rattle.std.proofs.lemmas.Bool.{cases_lt, lt-ltb, le-ltb, ltb-true}
use Rattle.std.proofs.lemmas.List.Elements.{Contains-get_or}
use Rattle.std.proofs.Math.Decide.{ℕ_discrete}
use Rattle.ucq_partition.specs.Partition.{AreLinked, label_of}
use Rattle.ucq_partition.proofs.Links.{label-linked, linked_from_label}
use Rattle.ucq_terms.specs.declared.Term.{Term}
use Rattle.ucq_terms.specs.declared.Term.TheVariants.{Constant, Variable}
use Rattle.ucq_terms.specs.Syntax.{Query, Rule}
use Rattle.ucq_terms.specs.Unifier.{Node, constant, of_query, of_copy, AreJoined, alone, HasNoClash}
use Rattle.ucq_terms.specs.Rewriting.{Member, NamesClasses, all_links}
use Rattle.ucq_terms.proofs.ClassNames.{code, code-same, number as code_number}
use Rattle.ucq_terms.proofs.Decide.{dec_contains, dec_and}
use Rattle.ucq_classes.specs.Numbers.{Numbers, number, first, width_of}
use Rattle.ucq_classes.specs.Classes.{Labels, IsClassed}
use Rattle.ucq_classes.proofs.Numbers.{place_below, place_at, first_more}
use Rattle.ucq_classes.proofs.Classed.{linked_numbers, joined_numbers}
use Rattle.ucq_join.specs.inner.Copies.{IsWidthOf, IsReadyFor}
use Rattle.ucq_join.specs.Names.{Named, past, name_of, TellsNames}
use Rattle.ucq_join.specs.inner.Naming.{name_by, IsNamed}
use Rattle.ucq_join.proofs.Even.{Has, has_numbered, has_below, has_of_links, both_have, first_even}
use Rattle.ucq_join.proofs.Labels.{name_by-constant, name_by-variable, name_by-same}

-- A choice by a test of numbers.
chosen_below : {X : Type 0} (a b : ℕ) (x y : X) → a < b → cond (nat_lt a b) x y ≡ x
chosen_below {X} a b x y l = ap (λ (t : Bool). cond t x y) (lt-ltb a b l)

chosen_above : {X : Type 0} (a b : ℕ) (x y : X) → b ≤ a → cond (nat_lt a b) x y ≡ y
chosen_above {X} a b x y l = ap (λ (t : Bool). cond t x y) (le-ltb a b l)

-- Names of nodes without a number.
past-same : (n : ℕ) (s t : Term) → past n s ≡ past n t → s ≡ t
past-same n (Constant c) (Constant d) e = e
past-same n (Constant c) (Variable w) e = cc
past-same n (Variable v) (Constant d) e = cc
past-same n (Variable v) (Variable w) e = let d : n + v ≡ n + w = cc in ap Variable (let s : v ≡ w = omega arith in s)

dec_below : (a b : ℕ) → Dec (a < b)
dec_below a b = elim (cases_lt a b) [ inl l ↦ yes l | inr l ↦ no (λ m. omega arith) ]

dec_has : (n : Numbers) (k : ℕ) (x : Node) → Dec (Has n k x)
dec_has n k (constant c) = dec_contains ℕ_discrete n.constants c
dec_has n k (of_query v) = dec_below v n.variables
dec_has n k (of_copy m v) = dec_and (dec_below m k) (dec_below v (width_of n m))

module _ (L : Labels) (chosen : List ℕ) (j : Named) (links : List (Node × Node)) (named : IsNamed L chosen j) (classed : IsClassed links L)
    (ends : (l : Node × Node) → Contains links l → Has L.numbers (length chosen) l.0 × Has L.numbers (length chosen) l.1) (none : HasNoClash links) where
  abbrev N : Numbers
  N = L.numbers

  abbrev Count : ℕ
  Count = length chosen

  once : AllPairs (λ (c d : ℕ). c ≢ d) N.constants
  once = named.proper.once

  -- the numbers of the set's copies have labels
  room : first N Count ≤ length L.labels
  room = let m = first_more N Count (length N.widths) named.within in let e = named.whole.room in omega arith

  label_below : (x : Node) → Has N Count x → label_of L.labels (number N x) < first N Count
  label_below x i =
      let l = has_below N Count x i in
      let m : label_of L.labels (number N x) ≤ number N x = classed.made.least (number N x) (omega (arith, room)) in
      omega arith

  name_at : (k : ℕ) → k < first N Count → get_or j.names k (Constant 0) ≡ name_by N.constants (label_of L.labels k)
  name_at k l = named.names.each k (Constant 0) l

  -- the name of a node with a number is that of its label
  numbered_name : (x : Node) → Has N Count x → name_of j x ≡ name_by N.constants (label_of L.labels (number N x))
  numbered_name (constant c) i =
      let xs = N.constants in
      let k = position_or_len (nat_eq c) xs in
      let l = place_below xs c i in
      let below = has_below N Count (constant c) i in
      let r = label_of L.labels k in
      let low : r ≤ k = classed.made.least k (omega (arith, room)) in
      let d = get_or xs r 0 in
      let held : Contains xs d = Contains-get_or xs r 0 (omega arith) in
      let at : number N (constant d) ≡ r = place_at N.constants r once (omega arith) in
      let linked : AreLinked classed.joins (number N (constant c)) (number N (constant d)) =
      subst (λ (y : ℕ). AreLinked classed.joins k y) (sym at) (classed.made.linked k (omega (arith, room))) in
      let same : c ≡ d = none c d (joined_numbers L links classed (constant c) (constant d) i held linked) in
      ap Constant same ∙ sym (name_by-constant xs r (omega arith))
  numbered_name (of_query v) i =
      let a : j.variables ≡ N.variables = named.variables in
      let b : j.constants ≡ length N.constants = named.constants in
      let l = has_below N Count (of_query v) i in
      chosen_below v j.variables (get_or j.names (j.constants + v) (Constant 0)) (past (length j.names) (code (of_query v))) (omega arith) ∙
      (ap (λ (k : ℕ). get_or j.names (k + v) (Constant 0)) b ∙ name_at (number N (of_query v)) l)
  numbered_name (of_copy m v) i =
      let a : j.variables ≡ N.variables = named.variables in
      let b : j.constants ≡ length N.constants = named.constants in
      let e : length j.members ≡ length chosen = ap length named.members in
      let l = has_below N Count (of_copy m v) i in
      let within : m < length N.widths = let p = i.0 in let r = named.within in omega arith in
      let wide : width_of N m ≡ j.width = named.width.each m within in
      let one : m < length j.members = let p = i.0 in omega arith in
      let two : v < j.width = let p = i.1 in omega arith in
      let even = first_even N j.width named.width m (omega arith) in
      let place : j.constants + j.variables + m * j.width + v ≡ number N (of_copy m v) = omega arith in
      ap (λ (x : Bool). cond x (get_or j.names (j.constants + j.variables + m * j.width + v) (Constant 0)) (past (length j.names) (code (of_copy m v))))
      (ap₂ (λ (x y : Bool). x && y) (lt-ltb m (length j.members) one) (lt-ltb v j.width two)) ∙
      (ap (λ (k : ℕ). get_or j.names k (Constant 0)) place ∙ name_at (number N (of_copy m v)) l)

  -- and that of any other node is past all of these
  past_name : (x : Node) → ¬ Has N Count x → name_of j x ≡ past (length j.names) (code x)
  unfolding code
  past_name (constant c) n = refl
  past_name (of_query v) n = elim (cases_lt v j.variables) [
    | inl l ↦ absurd (n (let a : j.variables ≡ N.variables = named.variables in omega arith))
    | inr l ↦ chosen_above v j.variables (get_or j.names (j.constants + v) (Constant 0)) (past (length j.names) (code (of_query v))) l
  ]
  past_name (of_copy m v) n = go (nat_lt m (length j.members)) (nat_lt v j.width) refl refl
    where
      go : (a b : Bool) → nat_lt m (length j.members) ≡ a → nat_lt v j.width ≡ b →
          cond (a && b) (get_or j.names (j.constants + j.variables + m * j.width + v) (Constant 0)) (past (length j.names) (code (of_copy m v))) ≡
          past (length j.names) (code (of_copy m v))
      go false b p q = refl
      go true false p q = refl
      go true true p q =
          let l : m < length j.members = ltb-true m (length j.members) p in
          let k : v < j.width = ltb-true v j.width q in
          let e : length j.members ≡ length chosen = ap length named.members in
          let within : m < length N.widths = let r = named.within in omega arith in
          let wide : width_of N m ≡ j.width = named.width.each m within in
          absurd (n (omega arith, omega arith))

  past_variable : (x : Node) (m : ℕ) → Has N Count x → name_by N.constants (label_of L.labels (number N x)) ≡ Variable (length j.names + m) → ⊥
  past_variable x m i f =
      let r = label_of L.labels (number N x) in
      let low = label_below x i in
      let count : length j.names ≡ first N Count = named.names.count in
      elim (cases_lt r (length N.constants)) [
        | inl l ↦ let bad : Constant (get_or N.constants r 0) ≡ Variable (length j.names + m) = sym (name_by-constant N.constants r l) ∙ f in cc
        | inr l ↦
            let bad : Variable r ≡ Variable (length j.names + m) = sym (name_by-variable N.constants r l) ∙ f in
            let same : r ≡ length j.names + m = cc in
            absurd (omega arith)
      ]

  -- the two kinds of names differ
  kinds_differ : (x y : Node) → Has N Count x → ¬ Has N Count y → name_by N.constants (label_of L.labels (number N x)) ≡ past (length j.names) (code y) → ⊥
  unfolding code
  kinds_differ x (constant c) i n f =
      let r = label_of L.labels (number N x) in
      elim (cases_lt r (length N.constants)) [
        | inl l ↦
            let same : Constant (get_or N.constants r 0) ≡ Constant c = sym (name_by-constant N.constants r l) ∙ f in
            let d : get_or N.constants r 0 ≡ c = cc in
            n (subst (λ (z : ℕ). Contains N.constants z) d (Contains-get_or N.constants r 0 l))
        | inr l ↦ let bad : Variable r ≡ Constant c = sym (name_by-variable N.constants r l) ∙ f in cc
      ]
  kinds_differ x (of_query v) i n f = past_variable x (code_number 0 v) i f
  kinds_differ x (of_copy m v) i n f = past_variable x (code_number (suc m) v) i f

  names_differ : (x y : Node) → Has N Count x → ¬ Has N Count y → name_of j x ≡ name_of j y → ⊥
  names_differ x y i n e = kinds_differ x y i n (sym (numbered_name x i) ∙ (e ∙ past_name y n))

  -- joined nodes are both numbered, or one
  both_numbered : (x y : Node) → AreJoined links x y → ¬ Has N Count y → x ≡ y
  both_numbered x y h n = elim (both_have N Count links ends h) [ inl e ↦ e | inr (a, b) ↦ absurd (n b) ]

  joined_from_names : (x y : Node) → name_of j x ≡ name_of j y → AreJoined links x y
  joined_from_names x y e = elim (dec_has N Count x) [
    | yes i ↦ elim (dec_has N Count y) [
      | yes k ↦
          let same : label_of L.labels (number N x) ≡ label_of L.labels (number N y) = name_by-same N.constants _ _ once (sym (numbered_name x i) ∙ (e ∙ numbered_name y k)) in
          let l = has_below N Count x i in
          let m = has_below N Count y k in
          joined_numbers L links classed x y (has_numbered N Count x i) (has_numbered N Count y k) (linked_from_label classed.joins L.labels (number N x) (number N y) classed.made (omega (arith, room)) (omega (arith, room)) same)
      | no n ↦ absurd (names_differ x y i n e)
    ]
    | no n ↦ elim (dec_has N Count y) [
      | yes k ↦ absurd (names_differ y x k n (sym e))
      | no m ↦
          let same : x ≡ y = code-same x y (past-same (length j.names) (code x) (code y) (sym (past_name x n) ∙ (e ∙ past_name y m))) in
          subst (λ (z : Node). AreJoined links x z) same alone
    ]
  ]

  names_from_joined : (x y : Node) → AreJoined links x y → name_of j x ≡ name_of j y
  names_from_joined x y h = elim (both_have N Count links ends h) [
    | inl e ↦ ap (name_of j) e
    | inr (i, k) ↦
        numbered_name x i ∙
        (ap (name_by N.constants) (label-linked classed.joins L.labels (number N x) (number N y) classed.made (linked_numbers L links classed h)) ∙
        sym (numbered_name y k))
  ]

  pub NamesClasses-labels : NamesClasses links (name_of j)
  NamesClasses-labels = record { classes = λ x y. (joined_from_names x y, names_from_joined x y); constants = λ c. refl }

-- What a set of pieces that was named tells.
pub TellsNames-named : (q : Query) (rule : Rule) (c : Labels) (chosen : List ℕ) (j : Named) (members : List Member) → IsReadyFor q rule c.numbers →
    IsWidthOf rule j.width → length members ≡ length chosen → IsNamed c chosen j → IsClassed (all_links q (rule ∷ []) members) c →
    HasNoClash (all_links q (rule ∷ []) members) → TellsNames q rule members j
TellsNames-named q rule c chosen j members h wide count named classed none = record {
  names = NamesClasses-labels c chosen j (all_links q (rule ∷ []) members) named classed
      (λ l i. subst (λ (k : ℕ). Has c.numbers k l.0 × Has c.numbers k l.1) count (has_of_links q rule members c classed l i)) none;
  of_query = λ v o. let l = h.query.each (Variable v) o in let e : j.variables ≡ c.numbers.variables = named.variables in omega arith;
  of_heads = wide.heads;
  of_body = wide.body;
}
