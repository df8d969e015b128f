-- A query from which spare atoms are taken out, from the last place to the first, becomes a core of it.
use Rattle.std.proofs.Common.{◌≡◌, ◌<◌, ◌≤◌, ◌+◌, ℕ, zero, suc, List, [], ◌∷◌, length, Contains, ◌≢◌, refl, sym, ap, ◌∙◌, subst, inl, inr, arith}
use Rattle.std.specs.List.{remove}
use Rattle.std.proofs.lemmas.Bool.{cases_lt, cases_eq}
use Rattle.std.proofs.lemmas.List.{get_or_default}
use Rattle.std.proofs.lemmas.List.Elements.{Contains-get_or}
use Rattle.std.proofs.lemmas.List.Edits.{length-remove, get_or-remove_below, get_or-remove_above}
use Rattle.ucq_terms.specs.declared.Term.{Term}
use Rattle.ucq_terms.specs.declared.Term.TheVariants.{Variable}
use Rattle.ucq_terms.specs.Syntax.{Atom, Query, OccursIn, HasEachOnce, IsSafe, IsSubset, atom_image, atoms_image, term_image, terms_image}
use Rattle.ucq_terms.specs.Homomorphism.{MapsInto, Covers, IsEquivalent, IsCore, IsCoreOf}
use Rattle.ucq_terms.specs.Unifier.{atom_at}
use Rattle.ucq_terms.proofs.Decide.{atom_discrete, dec_contains}
use Rattle.ucq_terms.proofs.Images.{IsSubset-from_image, IsSubset-image, atom_image-same, terms_image-same, OccursIn-image}
use Rattle.ucq_terms.proofs.Lists.{Contains-cons_cases, Contains-empty, length-positive, first_element}
use Rattle.ucq_terms.proofs.Maps.{MapsInto-trans, Covers-refl, Covers-trans}
use Rattle.ucq_terms.proofs.Pairwise.{AllPairs-at}
use Rattle.ucq_terms.proofs.Places.{place_of}
use Rattle.ucq_terms.proofs.Subsets.{IsSubset-contains, IsSubset-from_contains, IsSubset-trans}
use Rattle.ucq_fold.specs.Parts.{IsPartInOrder, without_atom, CanSpare, IsTried}
use Rattle.ucq_hom.proofs.Found.{Contains-remove, Contains-from_remove}

-- Parts of lists in order.
pub IsPartInOrder-refl : (xs : List Atom) → IsPartInOrder xs xs
IsPartInOrder-refl [] = refl
IsPartInOrder-refl (x ∷ xs) = inr (xs, refl, IsPartInOrder-refl xs)

pub IsPartInOrder-remove : (xs : List Atom) (i : ℕ) → IsPartInOrder (remove xs i) xs
IsPartInOrder-remove [] zero = refl
IsPartInOrder-remove [] (suc i) = refl
IsPartInOrder-remove (x ∷ xs) zero = inl (IsPartInOrder-refl xs)
IsPartInOrder-remove (x ∷ xs) (suc i) = inr (remove xs i, refl, IsPartInOrder-remove xs i)

pub IsPartInOrder-trans : (xs ys zs : List Atom) → IsPartInOrder xs ys → IsPartInOrder ys zs → IsPartInOrder xs zs
IsPartInOrder-trans xs ys [] h k = subst (IsPartInOrder xs) k h
IsPartInOrder-trans xs ys (z ∷ zs) h (inl k) = inl (IsPartInOrder-trans xs ys zs h k)
IsPartInOrder-trans xs ys (z ∷ zs) h (inr (rest, e, k)) = elim (subst (IsPartInOrder xs) e h) [
  | inl p ↦ inl (IsPartInOrder-trans xs rest zs p k)
  | inr (more, d, p) ↦ inr (more, d, IsPartInOrder-trans more rest zs p k)
]

-- A list without an element is a part of it, and the next one can still be left out.
pub IsSubset-remove : (xs : List Atom) (i : ℕ) → IsSubset (remove xs i) xs
IsSubset-remove xs i = IsSubset-from_contains (remove xs i) xs (λ a c. let (k, l, n, e) = Contains-from_remove xs i a c in (k, l, e))

IsSubset-remove_twice : (xs : List Atom) (p k : ℕ) → p < length xs → p ≤ k → IsSubset (remove (remove xs p) k) (remove xs (k + 1))
IsSubset-remove_twice xs p k l m = IsSubset-from_contains (remove (remove xs p) k) (remove xs (k + 1)) (λ a c.
    let (j, n, ne, e) = Contains-from_remove (remove xs p) k a c in
    let size : length (remove xs p) + 1 ≡ length xs = length-remove xs p l in
    elim (cases_lt j p) [
      | inl less ↦
          subst (λ (x : Atom). Contains (remove xs (k + 1)) x) (sym (get_or-remove_below xs p a j less l) ∙ e)
          (Contains-remove xs (k + 1) j a (omega arith) (λ q. omega arith))
      | inr more ↦
          subst (λ (x : Atom). Contains (remove xs (k + 1)) x) (sym (get_or-remove_above xs p a j more l) ∙ e)
          (Contains-remove xs (k + 1) (j + 1) a (omega arith) (λ q. ne (omega arith)))
    ])

-- a map into a part is one into the whole
pub MapsInto-more : (q : Query) (part whole : List Atom) (tuple : List Term) → IsSubset part whole → MapsInto q part tuple → MapsInto q whole tuple
MapsInto-more q part whole tuple s m = record {
  mapping = m.mapping;
  homomorphism = record {
    atoms = IsSubset-trans (atoms_image m.mapping q.atoms) part whole m.homomorphism.atoms s;
    answers = m.homomorphism.answers;
  };
}

-- a query with fewer atoms covers the one with more
pub Covers-part : (a b : Query) → a.answers ≡ b.answers → IsSubset a.atoms b.atoms → Covers a b
Covers-part a b e s = record {
  mapping = Variable;
  homomorphism = record {
    atoms = IsSubset-from_image Variable a.atoms b.atoms (λ x i. subst (λ (c : Atom). Contains b.atoms c) (sym (atom_image-same x)) (IsSubset-contains a.atoms b.atoms x s i));
    answers = terms_image-same a.answers ∙ e;
  };
}

-- a map that keeps a list of terms keeps each variable there
variable_kept : (h : ℕ → Term) (ts : List Term) (v : ℕ) → terms_image h ts ≡ ts → Contains ts (Variable v) → h v ≡ Variable v
variable_kept h [] v e i = absurd (Contains-empty (Variable v) i)
variable_kept h (t ∷ ts) v e i = elim (Contains-cons_cases t ts (Variable v) i) [
  | inl d ↦ let q : term_image h t ≡ t = cc in ap (term_image h) (sym d) ∙ q ∙ d
  | inr j ↦ let q : terms_image h ts ≡ ts = cc in variable_kept h ts v q j
]

-- a query without an atom that it can spare is safe
pub IsSafe-without : (q : Query) (place : ℕ) → IsSafe q → CanSpare q place → IsSafe (without_atom q place)
IsSafe-without q place s m =
    let h = m.mapping in
    record {
      nonempty =
          let (x, i) = first_element q.atoms s.nonempty in
          length-positive (remove q.atoms place) (atom_image h x) (IsSubset-image h q.atoms (remove q.atoms place) m.homomorphism.atoms x i);
      answers = λ v i. subst (λ (t : Term). OccursIn (remove q.atoms place) t) (variable_kept h q.answers v m.homomorphism.answers i)
          (OccursIn-image h q.atoms (remove q.atoms place) (Variable v) m.homomorphism.atoms (s.answers v i));
    }

-- How far the shrinking has come: the atoms from the place on can't be spared.
pub record IsShrunk (old now : Query) (place : ℕ) : Type 0 where
  pub equivalent : IsEquivalent old now
  pub answers : now.answers ≡ old.answers
  pub part : IsPartInOrder now.atoms old.atoms
  pub safe : IsSafe now
  pub left : place ≤ length now.atoms
  pub needed : (k : ℕ) → place ≤ k → k < length now.atoms → CanSpare now k → ⊥

pub IsShrunk-start : (q : Query) → IsSafe q → IsShrunk q q (length q.atoms)
IsShrunk-start q s = record {
  equivalent = record { forth = Covers-refl q; back = Covers-refl q };
  answers = refl;
  part = IsPartInOrder-refl q.atoms;
  safe = s;
  left = omega arith;
  needed = λ k l m. absurd (omega arith);
}

-- the next atom can't be spared
IsShrunk-keeps : (old now : Query) (place : ℕ) → IsShrunk old now (place + 1) → ¬ CanSpare now place → IsShrunk old now place
IsShrunk-keeps old now place s n = record {
  equivalent = s.equivalent;
  answers = s.answers;
  part = s.part;
  safe = s.safe;
  left = let l = s.left in omega arith;
  needed = λ k l m c. elim (cases_eq k place) [
    | inl e ↦ n (subst (λ (x : ℕ). CanSpare now x) e c)
    | inr ne ↦ s.needed k (omega arith) m c
  ];
}

-- the next atom is spared
IsShrunk-drops : (old now : Query) (place : ℕ) → IsShrunk old now (place + 1) → CanSpare now place → IsShrunk old (without_atom now place) place
IsShrunk-drops old now place s c =
    let next = without_atom now place in
    let l : place < length now.atoms = let m = s.left in omega arith in
    let size : length (remove now.atoms place) + 1 ≡ length now.atoms = length-remove now.atoms place l in
    let to_next : Covers now next = c in
    let from_next : Covers next now = Covers-part next now refl (IsSubset-remove now.atoms place) in
    record {
      equivalent = record {
        forth = Covers-trans old now next s.equivalent.forth to_next;
        back = Covers-trans next now old from_next s.equivalent.back;
      };
      answers = s.answers;
      part = IsPartInOrder-trans next.atoms now.atoms old.atoms (IsPartInOrder-remove now.atoms place) s.part;
      safe = IsSafe-without now place s.safe c;
      left = let m = s.left in omega arith;
      needed =
          λ k m n d. s.needed (k + 1) (omega arith) (omega arith)
          (MapsInto-more now (remove next.atoms k) (remove now.atoms (k + 1)) now.answers (IsSubset-remove_twice now.atoms place k l m)
          (MapsInto-trans now next (remove next.atoms k) now.answers to_next d));
    }

pub IsShrunk-tried : (old now next : Query) (place : ℕ) → IsShrunk old now (place + 1) → IsTried now next place → IsShrunk old next place
IsShrunk-tried old now next place s (inl (e, c)) = subst (λ (q : Query). IsShrunk old q place) (sym e) (IsShrunk-drops old now place s c)
IsShrunk-tried old now next place s (inr (e, n)) = subst (λ (q : Query). IsShrunk old q place) (sym e) (IsShrunk-keeps old now place s n)

-- a query of which no atom can be spared is a core
pub IsCore-needed : (q : Query) → ((k : ℕ) → k < length q.atoms → CanSpare q k → ⊥) → IsCore q
IsCore-needed q needed = record {
  no_proper_part = λ part s m. IsSubset-from_contains q.atoms part (λ a i. elim (dec_contains atom_discrete part a) [
    | yes c ↦ c
    | no n ↦
        let (place, l, e) = place_of q.atoms a i in
        absurd (needed place l (MapsInto-more q part (remove q.atoms place) q.answers (avoids part place a l e s n) m))
  ]);
}
  where
    avoids : (part : List Atom) (place : ℕ) (a : Atom) → place < length q.atoms → atom_at q.atoms place ≡ a → IsSubset part q.atoms → ¬ Contains part a → IsSubset part (remove q.atoms place)
    avoids part place a l e s n = IsSubset-from_contains part (remove q.atoms place) (λ x i.
        let (k, m, p) = place_of q.atoms x (IsSubset-contains part q.atoms x s i) in
        let other : k ≡ place → ⊥ = λ d. n (subst (λ (y : Atom). Contains part y) (sym p ∙ (ap (atom_at q.atoms) d ∙ e)) i) in
        subst (λ (y : Atom). Contains (remove q.atoms place) y) p (Contains-remove q.atoms place k _ m other))

pub IsCoreOf-shrunk : (old now : Query) → IsShrunk old now 0 → IsCoreOf old now
IsCoreOf-shrunk old now s = record {
  core = IsCore-needed now (λ k l c. s.needed k (omega arith) l c);
  equivalent = s.equivalent;
}

-- no atom of a core can be spared
pub needed_in_core : (q : Query) → IsCore q → HasEachOnce q.atoms → (k : ℕ) → k < length q.atoms → CanSpare q k → ⊥
needed_in_core q c once k l m =
    let a = atom_at q.atoms k in
    let i : Contains (remove q.atoms k) a = IsSubset-contains q.atoms (remove q.atoms k) a (c.no_proper_part (remove q.atoms k) (IsSubset-remove q.atoms k) m) (Contains-get_or q.atoms k _ l) in
    let (j, n, ne, e) = Contains-from_remove q.atoms k a i in
    AllPairs-at (λ (x y : Atom). x ≢ y) q.atoms j k a (λ x y d p. d (sym p)) once n l ne (e ∙ get_or_default q.atoms k _ a l)
