-- Numbers of copies of one rule.
use Rattle.std.proofs.Common.{◌≡◌, ◌<◌, ◌≤◌, ◌+◌, ◌*◌, ◌⊎◌, ℕ, zero, suc, List, [], ◌∷◌, ◌++◌, length, Contains, get_or, sym, ap, ◌∙◌, subst, inl, inr, arith}
use Rattle.std.proofs.Math.Nat.{suc-mul, mul-le-mul_left}
use Rattle.std.proofs.lemmas.Bool.{cases_eq}
use Rattle.std.proofs.lemmas.List.{length-append, get_or_push, get_or_append_left}
use Rattle.std.specs.List.{enumerate_from}
use Rattle.ucq_terms.specs.declared.Term.{Term}
use Rattle.ucq_terms.specs.declared.Term.TheVariants.{Constant, Variable}
use Rattle.ucq_terms.specs.Syntax.{Query, Rule}
use Rattle.ucq_terms.specs.Unifier.{Node, constant, of_query, of_copy, query_node, copy_node, links, AreJoined}
use Rattle.ucq_terms.specs.Rewriting.{Member, rule_at, all_links}
use Rattle.ucq_terms.proofs.Classes.{AreJoined-end, AreJoined-sym}
use Rattle.ucq_terms.proofs.Lists.{Contains-from_flat_map}
use Rattle.ucq_terms.proofs.Matched.{Contains-from_links}
use Rattle.ucq_terms.proofs.Members.{member_at-entry}
use Rattle.ucq_classes.specs.Numbers.{Numbers, number, first, size, width_of, IsNumbered}
use Rattle.ucq_classes.specs.Classes.{Labels, IsClassed}
use Rattle.ucq_classes.proofs.Numbers.{place_below, first_next, copy_before, heads_numbered}
use Rattle.ucq_join.specs.Walk.{Walk}
use Rattle.ucq_join.specs.inner.Search.{IsWalking}
use Rattle.ucq_join.specs.inner.Copies.{IsWidthOf, IsReadyFor, HasCopyWidth, AreNumbered}

-- Copies of one width have their first numbers at equal distances.
pub first_even : (n : Numbers) (width : ℕ) → HasCopyWidth n width → (k : ℕ) → k ≤ length n.widths → first n k ≡ length n.constants + n.variables + k * width
first_even n width h zero l = omega arith
first_even n width h (suc k) l =
    let m : k < length n.widths = omega arith in
    let before = first_even n width h k (omega arith) in
    let next = first_next n k m in
    let wide : width_of n k ≡ width = h.each k m in
    let place : first n (suc k) ≡ first n (k + 1) = ap (first n) (let e : suc k ≡ k + 1 = omega arith in e) in
    let product : suc k * width ≡ k * width + width = suc-mul k width in
    omega arith

-- and there is room for one more among so many
pub size_more : (n : Numbers) (width count : ℕ) → HasCopyWidth n width → length n.widths < count →
    size n + width ≤ length n.constants + n.variables + count * width
size_more n width count h l =
    let k = length n.widths in
    let e = first_even n width h k (omega arith) in
    let a : width * suc k ≤ width * count = mul-le-mul_left width l in
    let b : width * suc k ≡ suc k * width = omega arith in
    let c : width * count ≡ count * width = omega arith in
    let d : suc k * width ≡ k * width + width = suc-mul k width in
    omega arith

pub HasCopyWidth-none : (n : Numbers) (width : ℕ) → n.widths ≡ [] → HasCopyWidth n width
HasCopyWidth-none n width e = record { each = λ copy l. let z : length n.widths ≡ 0 = ap length e in absurd (omega arith) }

pub HasCopyWidth-push : (n m : Numbers) (width : ℕ) → HasCopyWidth n width → m ≡ record n { widths = n.widths ++ width ∷ [] } → HasCopyWidth m width
HasCopyWidth-push n m width h e = subst (λ (x : Numbers). HasCopyWidth x width) (sym e) (record { each = each })
  where
    each : (copy : ℕ) → copy < length (n.widths ++ width ∷ []) → get_or (n.widths ++ width ∷ []) copy 0 ≡ width
    each copy l =
        let long : length (n.widths ++ width ∷ []) ≡ length n.widths + 1 = length-append n.widths (width ∷ []) in
        elim (cases_eq copy (length n.widths)) [
          | inl d ↦ get_or_push n.widths width 0 copy (sym d)
          | inr d ↦ let k : copy < length n.widths = omega arith in get_or_append_left n.widths (width ∷ []) 0 copy k ∙ h.each copy k
        ]

-- with other copies the query and the rule's constants have numbers too
pub ready_with : (q : Query) (rule : Rule) (n m : Numbers) → m ≡ record n { widths = m.widths } → IsReadyFor q rule n → IsReadyFor q rule m
ready_with q rule n m e h = subst (IsReadyFor q rule) (sym e) (record {
  query = record { each = λ s o. moved s (h.query.each s o) };
  constants = h.constants;
  few_atoms = h.few_atoms;
  few_constants = h.few_constants;
  few_variables = h.few_variables;
})
  where
    moved : (s : Term) → IsNumbered n (query_node s) → IsNumbered (record n { widths = m.widths }) (query_node s)
    moved (Constant c) i = i
    moved (Variable v) i = i

pub walking_with : (w : Walk) (n m : Numbers) (width : ℕ) → m ≡ record n { widths = m.widths } → IsWalking w n width → IsWalking w m width
walking_with w n m width e h = record {
  pieces = h.pieces;
  ready = ready_with w.query w.rule n m e h.ready;
  width_of = h.width_of;
  present = h.present;
}

pub numbered_copies : (q : Query) (rule : Rule) (n : Numbers) (width : ℕ) → IsReadyFor q rule n → IsWidthOf rule width → HasCopyWidth n width → AreNumbered q rule n
numbered_copies q rule n width h w e = record {
  query = h.query;
  heads = λ copy l. heads_numbered n copy rule h.constants (λ v o. subst (λ (k : ℕ). v < k) (sym (e.each copy l)) (w.heads v o));
  few_atoms = h.few_atoms;
}

-- the numbers of at most 129 copies are few
pub few_numbers : (q : Query) (rule : Rule) (n : Numbers) (width count : ℕ) → IsReadyFor q rule n → IsWidthOf rule width → count ≤ 129 →
    length n.constants + n.variables + count * width ≤ 1000000
few_numbers q rule n width count h w l =
    let a = h.few_constants in
    let b = h.few_variables in
    let c = w.low in
    let r : width * count ≤ width * 129 = mul-le-mul_left width l in
    let e : width * count ≡ count * width = omega arith in
    omega arith

-- The term has a number, and is none of a later copy.
abbrev pub Has : Numbers → ℕ → Node → Type 0
Has n k (constant c) = Contains n.constants c
Has n k (of_query v) = v < n.variables
Has n k (of_copy m v) = (m < k) × (v < width_of n m)

pub has_numbered : (n : Numbers) (k : ℕ) (x : Node) → Has n k x → IsNumbered n x
has_numbered n k (constant c) i = i
has_numbered n k (of_query v) i = i
has_numbered n k (of_copy m v) i = i.1

pub has_below : (n : Numbers) (k : ℕ) (x : Node) → Has n k x → number n x < first n k
has_below n k (constant c) i = let p = place_below n.constants c i in omega (arith, p)
has_below n k (of_query v) i = omega (arith, i)
has_below n k (of_copy m v) i = copy_before n m v k i.1 i.0

-- the ends of the links of so many members are of none
abbrev Below : ℕ → Node → Type 0
Below k (constant c) = Unit {0}
Below k (of_query v) = Unit {0}
Below k (of_copy m v) = m < k

below_query : (k : ℕ) (t : Term) → Below k (query_node t)
below_query k (Constant c) = tt
below_query k (Variable v) = tt

below_copy : (k copy : ℕ) (t : Term) → copy < k → Below k (copy_node copy t)
below_copy k copy (Constant c) l = tt
below_copy k copy (Variable v) l = l

has_from : (n : Numbers) (k : ℕ) (x : Node) → IsNumbered n x → Below k x → Has n k x
has_from n k (constant c) i b = i
has_from n k (of_query v) i b = i
has_from n k (of_copy m v) i b = (b, i)

pub has_of_links : (q : Query) (rule : Rule) (members : List Member) (c : Labels) → IsClassed (all_links q (rule ∷ []) members) c →
    (l : Node × Node) → Contains (all_links q (rule ∷ []) members) l → Has c.numbers (length members) l.0 × Has c.numbers (length members) l.1
has_of_links q rule members c classed l i =
    let r = Contains-from_flat_map (λ (p : ℕ × Member). links q p.0 (rule_at (rule ∷ []) p.1.rule) p.1.pairs) (enumerate_from 0 members) l i in
    let e = member_at-entry members r.0.0 r.0.1 r.1 in
    let k = Contains-from_links q r.0.0 (rule_at (rule ∷ []) r.0.1.rule) r.0.1.pairs l r.2 in
    let at = k.2 in
    let numbered = classed.numbered l i in
    let n = length members in (
      has_from c.numbers n l.0 numbered.0 (subst (Below n) at.left_is (below_query n at.left)),
      has_from c.numbers n l.1 numbered.1 (subst (Below n) at.right_is (below_copy n r.0.0 at.right e.0)),
    )

-- joined terms are one, or both have such numbers
pub both_have : (n : Numbers) (k : ℕ) (links : List (Node × Node)) → ((l : Node × Node) → Contains links l → Has n k l.0 × Has n k l.1) →
    {x y : Node} → AreJoined links x y → (x ≡ y) ⊎ (Has n k x × Has n k y)
both_have n k links ends {x} {y} h = elim (AreJoined-end h) [
  | inl e ↦ inl e
  | inr (z, i) ↦ elim (AreJoined-end (AreJoined-sym h)) [
    | inl e ↦ inl (sym e)
    | inr (w, j) ↦ inr (side w x j, side z y i)
  ]
]
  where
    side : (a b : Node) → Contains links (a, b) ⊎ Contains links (b, a) → Has n k b
    side a b (inl i) = (ends (a, b) i).1
    side a b (inr i) = (ends (b, a) i).0
