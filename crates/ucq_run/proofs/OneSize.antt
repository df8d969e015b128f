-- Exact unions of one problem have equally many members, and equally many atoms where no member has one twice.
use Rattle.std.proofs.Common.{◌≡◌, ◌≤◌, ◌+◌, ℕ, List, [], ◌∷◌, length, get_or, Contains, All, AllPairs, refl, sym, ap, ◌∙◌, subst, inl, inr, arith, zero-le}
use Rattle.std.specs.Prelude.{sum_by}
use Rattle.std.proofs.lemmas.Bool.{cases_order}
use Rattle.std.proofs.lemmas.List.{get_or_default, length-map}
use Rattle.std.proofs.lemmas.List.Elements.{All-contains}
use Rattle.std.proofs.lemmas.List.Sums.{sum_by-cons}
use Rattle.ucq_terms.specs.Syntax.{Atom, HasEachOnce, Problem, Query, atom_image, atoms_image}
use Rattle.ucq_terms.specs.Homomorphism.{Covers, IsCore, AreIsomorphic}
use Rattle.ucq_terms.specs.Union.{AreIncomparable, IsExact, IsSound}
use Rattle.ucq_terms.proofs.Distinct.{length-distinct_le}
use Rattle.ucq_terms.proofs.Lists.{Any-contains, Contains-cons_cases, Contains-empty, Contains-first, Contains-rest}
use Rattle.ucq_terms.proofs.Maps.{Covers-trans}
use Rattle.ucq_terms.proofs.Pairwise.{AllPairs-first, AllPairs-rest}
use Rattle.ucq_terms.proofs.Subsets.{IsSubset-contains}
use Rattle.ucq_chase.proofs.Cores.{equivalent_cores}
use Rattle.ucq_print.specs.Texts.{atom_count}

-- ---- sums

module _ {X : Type 0} (f : X → ℕ) where
  -- one element out of a list
  without : (x : X) (ys : List X) → Contains ys x →
      (zs : List X) × (sum_by f ys ≡ f x + sum_by f zs) × ((z : X) → Contains ys z → (z ≡ x → ⊥) → Contains zs z) × ((z : X) → Contains zs z → Contains ys z)
  without x [] i = absurd (Contains-empty x i)
  without x (y ∷ ys) i = elim (Contains-cons_cases y ys x i) [
    | inl e ↦ (
      ys,
      sum_by-cons f y ys ∙ ap (λ (z : X). f z + sum_by f ys) e,
      λ z j ne. elim (Contains-cons_cases y ys z j) [ inl d ↦ absurd (ne (sym d ∙ e)) | inr k ↦ k ],
      λ z j. Contains-rest y ys z j,
    )
    | inr j ↦ let (zs, sum, kept, from) = without x ys j in (
      y ∷ zs,
      (let a = sum_by-cons f y ys in let b = sum_by-cons f y zs in omega arith),
      λ z j ne. elim (Contains-cons_cases y ys z j) [
        | inl d ↦ subst (λ (w : X). Contains (y ∷ zs) w) d (Contains-first y zs)
        | inr k ↦ Contains-rest y zs z (kept z k ne)
      ],
      λ z j. elim (Contains-cons_cases y zs z j) [
        | inl d ↦ subst (λ (w : X). Contains (y ∷ ys) w) d (Contains-first y ys)
        | inr k ↦ Contains-rest y ys z (from z k)
      ],
    )
  ]

  -- where each element has a partner that no other has, and that counts for no less
  sum_le : (R : X → X → Type 0) (xs ys : List X) → ((x : X) → Contains xs x → (y : X) × Contains ys y × R x y × (f x ≤ f y)) →
      AllPairs (λ (a b : X). (y : X) → R a y → R b y → ⊥) xs → sum_by f xs ≤ sum_by f ys
  sum_le R [] ys partner apart = zero-le
  sum_le R (x ∷ xs) ys partner apart =
      let (y, i, r, l) = partner x (Contains-first x xs) in
      let (zs, sum, kept, from) = without y ys i in
      let alone : (z : X) → Contains xs z → (y : X) → R x y → R z y → ⊥ = λ z j. AllPairs-first (λ (a b : X). (y : X) → R a y → R b y → ⊥) x xs z apart j in
      let rest : sum_by f xs ≤ sum_by f zs = sum_le R xs zs (λ z j.
      let (w, k, s, m) = partner z (Contains-rest x xs z j) in
      (w, kept w k (λ e. alone z j y r (subst (R z) e s)), s, m))
      (AllPairs-rest (λ (a b : X). (y : X) → R a y → R b y → ⊥) x xs apart) in
      let whole = sum_by-cons f x xs in
      omega arith

-- one for each
sum_of_ones : {X : Type 0} (xs : List X) → sum_by (λ (x : X). 1) xs ≡ length xs
sum_of_ones [] = refl
sum_of_ones {X} (x ∷ xs) = let a = sum_by-cons (λ (x : X). 1) x xs in let b = sum_of_ones xs in omega arith

-- ---- members and their partners

-- each covers the other
abbrev AreEqual : Query → Query → Type 0
AreEqual a b = Covers a b × Covers b a

-- members of a minimal list, of which one covers the other, are one
one_comparable : (xs : List Query) (a b : Query) → AllPairs AreIncomparable xs → Contains xs a → Contains xs b → Covers a b → a ≡ b
one_comparable xs a b minimal (i, l, e) (j, m, g) covers =
    let at : get_or xs j a ≡ b = get_or_default xs j a b m ∙ g in
    elim (cases_order i j) [
      | inl same ↦ sym e ∙ (ap (λ (n : ℕ). get_or xs n a) same ∙ at)
      | inr other ↦ elim other [
        | inl before ↦ absurd ((minimal i j a before m).not_forth (subst (λ (q : Query). Covers q (get_or xs j a)) (sym e) (subst (Covers a) (sym at) covers)))
        | inr after ↦ absurd ((minimal j i a after l).not_back (subst (λ (q : Query). Covers q (get_or xs j a)) (sym e) (subst (Covers a) (sym at) covers)))
      ]
    ]

module _ (problem : Problem) (xs ys : List Query) (of_xs : IsExact problem xs) (of_ys : IsExact problem ys) where
  partner : (x : Query) → Contains xs x → (y : Query) × Contains ys y × AreEqual x y
  partner x i =
      let (y, j, back) = Any-contains (λ (q : Query). Covers q x) ys (of_ys.complete.finds x.atoms x.answers (All-contains (IsSound problem) xs x of_xs.sound i)) in
      let (w, k, there) = Any-contains (λ (q : Query). Covers q y) xs (of_xs.complete.finds y.atoms y.answers (All-contains (IsSound problem) ys y of_ys.sound j)) in
      let same : w ≡ x = one_comparable xs w x of_xs.minimal k i (Covers-trans w y x there back) in
      (y, j, (subst (λ (q : Query). Covers q y) same there, back))

  no_two : AllPairs (λ (a b : Query). (y : Query) → AreEqual a y → AreEqual b y → ⊥) xs
  no_two i j d lt below = λ y a b. (of_xs.minimal i j d lt below).not_forth (Covers-trans (get_or xs i d) y (get_or xs j d) a.0 b.1)

  count_le : length xs ≤ length ys
  count_le =
      let sums = sum_le (λ (q : Query). 1) AreEqual xs ys (λ x i. let (y, j, e) = partner x i in (y, j, e, omega arith)) no_two in
      let a = sum_of_ones xs in let b = sum_of_ones ys in omega arith

  -- of isomorphic queries the one with each atom once has no more
  no_more : (a b : Query) → HasEachOnce b.atoms → AreIsomorphic a b → length b.atoms ≤ length a.atoms
  no_more a b once i =
      let image : List Atom = atoms_image i.renaming a.atoms in
      let le : length b.atoms ≤ length image = length-distinct_le b.atoms image once (λ x j. IsSubset-contains b.atoms image x i.isomorphism.atoms.1 j) in
      let size : length image ≡ length a.atoms = length-map a.atoms (atom_image i.renaming) in
      omega arith

  atoms_le : All (λ (member : Query). HasEachOnce member.atoms) xs → atom_count xs ≤ atom_count ys
  atoms_le once = sum_le (λ (q : Query). length q.atoms) AreEqual xs ys (λ x i.
      let (y, j, e) = partner x i in (
        y,
        j,
        e,
        no_more y x (All-contains (λ (member : Query). HasEachOnce member.atoms) xs x once i)
            (equivalent_cores y x (All-contains IsCore ys y of_ys.cores j) (All-contains IsCore xs x of_xs.cores i) e.1 e.0),
      )) no_two

pub one_size : (problem : Problem) (xs ys : List Query) → IsExact problem xs → IsExact problem ys → length xs ≡ length ys
one_size problem xs ys h k = let a = count_le problem xs ys h k in let b = count_le problem ys xs k h in omega arith

pub one_atom_count : (problem : Problem) (xs ys : List Query) → IsExact problem xs → IsExact problem ys → All (λ (member : Query). HasEachOnce member.atoms) xs →
    All (λ (member : Query). HasEachOnce member.atoms) ys → atom_count xs ≡ atom_count ys
one_atom_count problem xs ys h k once also = let a = atoms_le problem xs ys h k once in let b = atoms_le problem ys xs k h also in omega arith
