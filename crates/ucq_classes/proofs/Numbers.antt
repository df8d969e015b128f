-- The numbers of a numbering.
use Rattle.std.proofs.Common.{◌≡◌, ◌≢◌, ◌<◌, ◌≤◌, ◌+◌, ℕ, true, false, List, length, Contains, AllPairs, nat_eq, get_or, take, sum, sym, ap, ap₂, ◌∙◌, inl, inr, arith, eqb-true, eq-eqb}
use Rattle.std.specs.List.{position_or_len}
use Rattle.std.proofs.lemmas.Bool.{cases_lt, cases_eq}
use Rattle.std.proofs.lemmas.List.{get_or_default, get_or_past, take-take}
use Rattle.std.proofs.lemmas.List.Sums.{passes_at_first, fails_before_first, sum_by_more, sum_by-take-le}
use Rattle.ucq_terms.specs.declared.Term.{Term}
use Rattle.ucq_terms.specs.declared.Term.TheVariants.{Constant, Variable}
use Rattle.ucq_terms.specs.Syntax.{Atom, Query, Rule, OccursIn}
use Rattle.ucq_terms.specs.Unifier.{Node, constant, of_query, of_copy, query_node, copy_node, atom_at}
use Rattle.ucq_terms.proofs.Equality.{IsEquality-nat_eq}
use Rattle.ucq_terms.proofs.Idempotence.{position-distinct}
use Rattle.ucq_terms.proofs.Subsets.{OccursIn-at}
use Rattle.ucq_classes.specs.Numbers.{Numbers, first, size, width_of, number, IsNumbered, NumbersQuery, NumbersHeads, NumbersAtom, NumbersHead}

-- The place of a constant.
pub place_below : (xs : List ℕ) (c : ℕ) → Contains xs c → position_or_len (nat_eq c) xs < length xs
place_below xs c (k, l, e) = elim (cases_lt (position_or_len (nat_eq c) xs) (length xs)) [
  | inl m ↦ m
  | inr m ↦
      let out : nat_eq c (get_or xs k c) ≡ false = fails_before_first (nat_eq c) xs k c (omega arith) in
      let here : nat_eq c (get_or xs k c) ≡ true = eq-eqb c (get_or xs k c) (sym e) in
      let bad : false ≡ true = sym out ∙ here in cc
]

pub constant_at_place : (xs : List ℕ) (c : ℕ) → Contains xs c → get_or xs (position_or_len (nat_eq c) xs) 0 ≡ c
constant_at_place xs c i = sym (eqb-true c (get_or xs (position_or_len (nat_eq c) xs) 0) (passes_at_first (nat_eq c) xs 0 (place_below xs c i)))

place_same : (xs : List ℕ) (c d : ℕ) → Contains xs c → Contains xs d → position_or_len (nat_eq c) xs ≡ position_or_len (nat_eq d) xs → c ≡ d
place_same xs c d i j e = sym (constant_at_place xs c i) ∙ (ap (λ n. get_or xs n 0) e ∙ constant_at_place xs d j)

-- constants, each once, by their places
pub place_at : (xs : List ℕ) (k : ℕ) → AllPairs (λ (c d : ℕ). c ≢ d) xs → k < length xs → position_or_len (nat_eq (get_or xs k 0)) xs ≡ k
place_at xs k o l = position-distinct nat_eq IsEquality-nat_eq xs k 0 o l

-- The first numbers of copies.
module _ (n : Numbers) where
  -- a copy with a variable is one of them
  pub copy_within : (copy v : ℕ) → v < width_of n copy → copy < length n.widths
  copy_within copy v l = elim (cases_lt copy (length n.widths)) [
    | inl m ↦ m
    | inr m ↦ let e : get_or n.widths copy 0 ≡ 0 = get_or_past n.widths copy 0 m in absurd (omega arith)
  ]

  pub first_next : (copy : ℕ) → copy < length n.widths → first n (copy + 1) ≡ first n copy + width_of n copy
  first_next copy l = let e : sum (take (copy + 1) n.widths) ≡ sum (take copy n.widths) + get_or n.widths copy 0 = sum_by_more (λ x. x) n.widths copy 0 l in omega arith

  pub first_more : (copy other : ℕ) → copy ≤ other → first n copy ≤ first n other
  first_more copy other l =
      let e : take copy (take other n.widths) ≡ take copy n.widths = take-take copy other n.widths l in
      let s : sum (take copy (take other n.widths)) ≤ sum (take other n.widths) = sum_by-take-le (λ x. x) (take other n.widths) copy in
      let f : sum (take copy (take other n.widths)) ≡ sum (take copy n.widths) = ap sum e in
      omega arith

  -- the numbers of a copy come before those of a later one
  pub copy_before : (copy v other : ℕ) → v < width_of n copy → copy < other → first n copy + v < first n other
  copy_before copy v other l m =
      let e = first_next copy (copy_within copy v l) in
      let s : first n (copy + 1) ≤ first n other = first_more (copy + 1) other (omega arith) in
      omega arith

  pub number_below : (x : Node) → IsNumbered n x → number n x < size n
  number_below (constant c) i = let p = place_below n.constants c i in omega (arith, p)
  number_below (of_query v) i = omega (arith, i)
  number_below (of_copy copy v) i = copy_before copy v (length n.widths) i (copy_within copy v i)

  copy_same : (k m u v : ℕ) → u < width_of n k → v < width_of n m → first n k + u ≡ first n m + v → (k ≡ m) × (u ≡ v)
  copy_same k m u v i j e = elim (cases_lt k m) [
    | inl l ↦ let s = copy_before k u m i l in let t : first n m ≤ first n m + v = omega arith in absurd (omega arith)
    | inr l ↦ elim (cases_eq k m) [
      | inl d ↦ (d, let s : first n k ≡ first n m = ap (first n) d in omega arith)
      | inr d ↦ let s = copy_before m v k j (omega arith) in absurd (omega arith)
    ]
  ]

  -- terms with one number are one
  pub number_same : (x y : Node) → IsNumbered n x → IsNumbered n y → number n x ≡ number n y → x ≡ y
  number_same (constant c) (constant d) i j e = ap constant (place_same n.constants c d i j e)
  number_same (constant c) (of_query v) i j e = let p = place_below n.constants c i in absurd (omega arith)
  number_same (constant c) (of_copy m v) i j e = let p = place_below n.constants c i in absurd (omega arith)
  number_same (of_query u) (constant d) i j e = let p = place_below n.constants d j in absurd (omega arith)
  number_same (of_query u) (of_query v) i j e = ap of_query (let d : u ≡ v = omega arith in d)
  number_same (of_query u) (of_copy m v) i j e = absurd (omega (arith, i, e))
  number_same (of_copy k u) (constant d) i j e = let p = place_below n.constants d j in absurd (omega arith)
  number_same (of_copy k u) (of_query v) i j e = absurd (omega (arith, j, e))
  number_same (of_copy k u) (of_copy m v) i j e = let (p, q) = copy_same k m u v i j e in ap₂ of_copy p q

  -- the atoms of a query and of a head that have numbers
  pub numbered_atom : (q : Query) (place : ℕ) → NumbersQuery n q → place < length q.atoms → NumbersAtom n (atom_at q.atoms place)
  numbered_atom q place h l = record { each = λ s c. h.each s (OccursIn-at q.atoms place s l c) }

  pub numbered_head : (rule : Rule) (copy place : ℕ) → NumbersHeads n copy rule → place < length rule.heads → NumbersHead n copy (atom_at rule.heads place)
  numbered_head rule copy place h l = record { each = λ s c. h.each s (OccursIn-at rule.heads place s l c) }

  -- where constants and variables have numbers, terms have
  pub query_numbered : (q : Query) → ((c : ℕ) → OccursIn q.atoms (Constant c) → Contains n.constants c) → ((v : ℕ) → OccursIn q.atoms (Variable v) → v < n.variables) →
      NumbersQuery n q
  query_numbered q f g = record { each = each }
    where
      each : (s : Term) → OccursIn q.atoms s → IsNumbered n (query_node s)
      each (Constant c) o = f c o
      each (Variable v) o = g v o

  pub heads_numbered : (copy : ℕ) (rule : Rule) → ((c : ℕ) → OccursIn rule.heads (Constant c) → Contains n.constants c) →
      ((v : ℕ) → OccursIn rule.heads (Variable v) → v < width_of n copy) → NumbersHeads n copy rule
  heads_numbered copy rule f g = record { each = each }
    where
      each : (s : Term) → OccursIn rule.heads s → IsNumbered n (copy_node copy s)
      each (Constant c) o = f c o
      each (Variable v) o = g v o

-- an atom that was read is the one at the place
pub read_atom : (atoms read : List Atom) (place : ℕ) (x : Atom) → read ≡ atoms → place < length atoms → x ≡ get_or read place x → x ≡ atom_at atoms place
read_atom atoms read place x e l d = d ∙ (ap (λ (ys : List Atom). get_or ys place x) e ∙ get_or_default atoms place x _ l)
