-- What the labels of classed numbers tell of terms.
use Rattle.std.proofs.Common.{◌≡◌, ℕ, Bool, true, List, [], ◌∷◌, ◌++◌, Contains, ◌↔◌, ◌⊎◌, refl, sym, ap, ◌∙◌, subst, inl, inr}
use Rattle.std.proofs.lemmas.List.Elements.{Contains-append_left, Contains-push, Contains-push_cases}
use Rattle.ucq_partition.specs.Partition.{AreLinked, alone as linked_alone, forth as linked_forth, back as linked_back, IsMadeBy}
use Rattle.ucq_terms.specs.Unifier.{Node, AreJoined, alone, forth, back}
use Rattle.ucq_terms.proofs.Classes.{AreJoined-end, AreJoined-sym}
use Rattle.ucq_terms.proofs.Lists.{Contains-empty}
use Rattle.ucq_classes.specs.Numbers.{Numbers, number, IsNumbered}
use Rattle.ucq_classes.specs.Classes.{Labels, IsClassed}
use Rattle.ucq_classes.proofs.Numbers.{number_same}

module _ (c : Labels) (links : List (Node × Node)) (k : IsClassed links c) where
  -- joined terms have linked numbers
  pub linked_numbers : {x y : Node} → AreJoined links x y → AreLinked k.joins (number c.numbers x) (number c.numbers y)
  linked_numbers alone = linked_alone
  linked_numbers (forth i h) = linked_forth (k.to _ i) (linked_numbers h)
  linked_numbers (back i h) = linked_back (k.to _ i) (linked_numbers h)

  -- and terms with linked numbers are joined
  joined_from : {a b : ℕ} → AreLinked k.joins a b → (x y : Node) → IsNumbered c.numbers x → IsNumbered c.numbers y → number c.numbers x ≡ a →
      number c.numbers y ≡ b → AreJoined links x y
  joined_from linked_alone x y i j e f = subst (λ (z : Node). AreJoined links x z) (number_same c.numbers x y i j (e ∙ sym f)) alone
  joined_from (linked_forth p h) x y i j e f =
      let (l, m, s, t) = k.from _ p in
      let (r, o) = k.numbered l m in
      let same : l.0 ≡ x = number_same c.numbers l.0 x r i (s ∙ sym e) in
      let rest = joined_from h l.1 y o j t f in
      subst (λ (z : Node). AreJoined links z y) same (forth m rest)
  joined_from (linked_back p h) x y i j e f =
      let (l, m, s, t) = k.from _ p in
      let (r, o) = k.numbered l m in
      let same : l.1 ≡ x = number_same c.numbers l.1 x o i (t ∙ sym e) in
      let rest = joined_from h l.0 y r j s f in
      subst (λ (z : Node). AreJoined links z y) same (back m rest)

  pub joined_numbers : (x y : Node) → IsNumbered c.numbers x → IsNumbered c.numbers y → AreLinked k.joins (number c.numbers x) (number c.numbers y) →
      AreJoined links x y
  joined_numbers x y i j h = joined_from h x y i j refl refl

  -- the end of a chain of links is the start, or both have numbers
  pub both_numbered : {x y : Node} → AreJoined links x y → (x ≡ y) ⊎ (IsNumbered c.numbers x × IsNumbered c.numbers y)
  both_numbered {x} {y} h = elim (AreJoined-end h) [
    | inl e ↦ inl e
    | inr (z, i) ↦ elim (AreJoined-end (AreJoined-sym h)) [
      | inl e ↦ inl (sym e)
      | inr (w, j) ↦ inr (side w x j, side z y i)
    ]
  ]
    where
      side : (a b : Node) → Contains links (a, b) ⊎ Contains links (b, a) → IsNumbered c.numbers b
      side a b (inl i) = (k.numbered (a, b) i).1
      side a b (inr i) = (k.numbered (b, a) i).0

  -- A test whether two numbers are linked tells whether the terms are joined.
  pub test_tells : (b : Bool) (m n : ℕ) (x y : Node) → ((joins : List (ℕ × ℕ)) → IsMadeBy joins c.labels → (b ≡ true) ↔ AreLinked joins m n) →
      IsNumbered c.numbers x → IsNumbered c.numbers y → m ≡ number c.numbers x → n ≡ number c.numbers y → (b ≡ true) ↔ AreJoined links x y
  test_tells b m n x y h i j e f =
      let tells = h k.joins k.made in (
        λ r. joined_numbers x y i j (subst (λ (p : ℕ). AreLinked k.joins p (number c.numbers y)) e (subst (λ (p : ℕ). AreLinked k.joins m p) f (tells.0 r))),
        λ r. tells.1 (subst (λ (p : ℕ). AreLinked k.joins p n) (sym e) (subst (λ (p : ℕ). AreLinked k.joins (number c.numbers x) p) (sym f) (linked_numbers r))),
      )

-- no links
pub classed_none : (c : Labels) → IsMadeBy [] c.labels → IsClassed [] c
classed_none c m = record {
  joins = [];
  made = m;
  numbered = λ l i. absurd (Contains-empty l i);
  to = λ l i. absurd (Contains-empty l i);
  from = λ j i. absurd (Contains-empty j i);
}

-- and a link more
pub classed_more : (n : Numbers) (links : List (Node × Node)) (labels more : List ℕ) (x y : Node) → IsNumbered n x → IsNumbered n y →
    (k : IsClassed links (record { numbers = n; labels = labels })) → IsMadeBy (k.joins ++ (number n x, number n y) ∷ []) more →
    IsClassed (links ++ (x, y) ∷ []) (record { numbers = n; labels = more })
classed_more n links labels more x y i j k m = record {
  joins = k.joins ++ (number n x, number n y) ∷ [];
  made = m;
  numbered = λ l c. elim (Contains-push_cases links (x, y) l c) [
    | inl d ↦ k.numbered l d
    | inr e ↦ subst (λ (z : Node × Node). IsNumbered n z.0 × IsNumbered n z.1) e (i, j)
  ];
  to = λ l c. elim (Contains-push_cases links (x, y) l c) [
    | inl d ↦ Contains-append_left k.joins ((number n x, number n y) ∷ []) (number n l.0, number n l.1) (k.to l d)
    | inr e ↦
        subst (λ (z : Node × Node). Contains {X = ℕ × ℕ} (k.joins ++ (number n x, number n y) ∷ []) (number n z.0, number n z.1)) e
        (Contains-push {X = ℕ × ℕ} k.joins (number n x, number n y))
  ];
  from = λ p c. elim (Contains-push_cases k.joins (number n x, number n y) p c) [
    | inl d ↦ let (l, q, e, f) = k.from p d in (l, Contains-append_left links ((x, y) ∷ []) l q, e, f)
    | inr e ↦ ((x, y), Contains-push links (x, y), ap (λ (z : ℕ × ℕ). z.0) e, ap (λ (z : ℕ × ℕ). z.1) e)
  ];
}
