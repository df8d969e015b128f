-- Atoms that are left out, and those that stay.
use Rattle.std.proofs.Common.{◌≡◌, ◌≢◌, ◌⊎◌, ℕ, zero, suc, ◌<◌, ◌≤◌, List, [], ◌∷◌, length, take, drop, Contains, get_or, refl, sym, ap, ◌∙◌, subst, inl, inr, arith}
use Rattle.std.specs.List.{remove}
use Rattle.std.proofs.lemmas.List.Elements.{Contains-append_cases, Contains-append_left, Contains-append_right, Contains-get_or}
use Rattle.std.proofs.lemmas.List.Edits.{length-remove, get_or-remove_below}
use Rattle.ucq_terms.specs.declared.Term.{Term}
use Rattle.ucq_terms.specs.declared.Term.TheVariants.{Constant, Variable}
use Rattle.ucq_terms.specs.Syntax.{Atom, Query, OccursIn, IsSafe, IsSubset, HasEachOnce}
use Rattle.ucq_terms.specs.Unifier.{atom_at}
use Rattle.ucq_terms.specs.Homomorphism.{Covers}
use Rattle.ucq_terms.proofs.Decide.{atom_discrete, dec_contains}
use Rattle.ucq_terms.proofs.Lists.{Contains-first, Contains-rest, Contains-cons_cases, length-positive}
use Rattle.ucq_terms.proofs.Maps.{Covers-refl}
use Rattle.ucq_terms.proofs.Pairwise.{AllPairs-first, AllPairs-rest}
use Rattle.ucq_terms.proofs.Removal.{Contains-remove, AllPairs-remove}
use Rattle.ucq_terms.proofs.Subsets.{IsSubset-contains, IsSubset-from_contains, IsSubset-refl, IsSubset-trans, OccursIn-atom, OccursIn-from_atom, OccursIn-subset}
use Rattle.ucq_chase.specs.Laws.{SoundIsCarried}
use Rattle.ucq_store.specs.Store.{Store, IsRow, query_of, IsFinished}
use Rattle.ucq_store.specs.Lawful.{IsLawful}
use Rattle.ucq_store.specs.Laws.{FinishedIsExact}
use Rattle.ucq_within.specs.Containment.{AreEqualUnder}
use Rattle.ucq_within.specs.Minimal.{without, IsHeldWithout, LeavesOut, IsProperPart}
use Rattle.ucq_within.proofs.Contained.{covered_is_contained, contained_trans, row_contains, contained_is_covered}

-- ---- lists

-- each other element stays
pub stays : (xs : List Atom) (i : ℕ) (x : Atom) → i < length xs → Contains xs x → x ≢ atom_at xs i → Contains (remove xs i) x
stays [] i x l h other = absurd (omega (arith, l))
stays (y ∷ ys) zero x l h other = elim (Contains-cons_cases y ys x h) [
  | inl e ↦ absurd (other (sym e))
  | inr j ↦ j
]
stays (y ∷ ys) (suc i) x l h other = elim (Contains-cons_cases y ys x h) [
  | inl e ↦ subst (λ (z : Atom). Contains (y ∷ remove ys i) z) e (Contains-first y (remove ys i))
  | inr j ↦ Contains-rest y (remove ys i) x (stays ys i x (omega (arith, l)) j other)
]

-- and the one that is taken out doesn't, where it stood once
pub is_gone : (xs : List Atom) (i : ℕ) → i < length xs → HasEachOnce xs → ¬ Contains (remove xs i) (atom_at xs i)
is_gone [] i l once h = absurd (omega (arith, l))
is_gone (y ∷ ys) zero l once h = AllPairs-first (λ (a b : Atom). a ≢ b) y ys y once h refl
is_gone (y ∷ ys) (suc i) l once h = elim (Contains-cons_cases y (remove ys i) (atom_at ys i) h) [
  | inl e ↦ AllPairs-first (λ (a b : Atom). a ≢ b) y ys (atom_at ys i) once (Contains-get_or ys i _ (omega (arith, l))) e
  | inr j ↦ is_gone ys i (omega (arith, l)) (AllPairs-rest (λ (a b : Atom). a ≢ b) y ys once) j
]

rest_is_subset : (xs : List Atom) (i : ℕ) → IsSubset (remove xs i) xs
rest_is_subset xs i = IsSubset-from_contains (remove xs i) xs (λ a. Contains-remove xs i a)

-- a term occurs in the rest where it occurs before or behind the place
pub occurs_beside : (atoms : List Atom) (place next : ℕ) (t : Term) → suc place ≡ next → OccursIn (take place atoms) t ⊎ OccursIn (drop next atoms) t → OccursIn (remove atoms place) t
occurs_beside atoms place next t e (inl o) =
    let (a, i, j) = OccursIn-atom (take place atoms) t o in
    OccursIn-from_atom (remove atoms place) t a (Contains-append_left (take place atoms) (drop (suc place) atoms) a i) j
occurs_beside atoms place next t e (inr o) =
    let (a, i, j) = OccursIn-atom (drop next atoms) t o in
    OccursIn-from_atom (remove atoms place) t a
    (Contains-append_right (take place atoms) (drop (suc place) atoms) a (subst (λ (n : ℕ). Contains (drop n atoms) a) (sym e) i)) j

pub beside_occurs : (atoms : List Atom) (place next : ℕ) (t : Term) → suc place ≡ next → OccursIn (remove atoms place) t → OccursIn (take place atoms) t ⊎ OccursIn (drop next atoms) t
beside_occurs atoms place next t e o =
    let (a, i, j) = OccursIn-atom (remove atoms place) t o in
    elim (Contains-append_cases (take place atoms) (drop (suc place) atoms) a i) [
      | inl k ↦ inl (OccursIn-from_atom (take place atoms) t a k j)
      | inr k ↦ inr (OccursIn-from_atom (drop next atoms) t a (subst (λ (n : ℕ). Contains (drop n atoms) a) e k) j)
    ]

-- an answer term of a query that is safe without an atom occurs in another one
pub held_of_safe : (q : Query) (place : ℕ) (t : Term) → IsSafe (without q place) → Contains q.answers t → IsHeldWithout q.atoms place t
held_of_safe q place (Constant c) safe i = tt
held_of_safe q place (Variable v) safe i = safe.answers v i

pub safe_of_held : (q : Query) (place : ℕ) → place < length q.atoms → 1 < length q.atoms → ((t : Term) → Contains q.answers t → IsHeldWithout q.atoms place t) → IsSafe (without q place)
safe_of_held q place within others held = record {
  nonempty = let size = length-remove q.atoms place within in omega (arith, size, others);
  answers = λ v i. held (Variable v) i;
}

-- ---- what stays

-- a query maps into more atoms, too
pub covers_more : (a b c : Query) → b.answers ≡ c.answers → IsSubset b.atoms c.atoms → Covers a b → Covers a c
covers_more a b c same more m = record {
  mapping = m.mapping;
  homomorphism = record {
    atoms = IsSubset-trans _ b.atoms c.atoms m.homomorphism.atoms more;
    answers = m.homomorphism.answers ∙ same;
  };
}

-- the atoms that stay are some of the query's, with its answers
pub left_is_part : (s : Store) (n : ℕ) (q left : Query) → LeavesOut s n q left → (left.answers ≡ q.answers) × IsSubset left.atoms q.atoms
left_is_part s zero q left e = (ap (λ (r : Query). r.answers) e, subst (λ (r : Query). IsSubset r.atoms q.atoms) (sym e) (IsSubset-refl q.atoms))
left_is_part s (suc n) q left (inl (may, more)) =
    let (answers, atoms) = left_is_part s n (without q n) left more in
    (answers, IsSubset-trans left.atoms (remove q.atoms n) q.atoms atoms (rest_is_subset q.atoms n))
left_is_part s (suc n) q left (inr (not, more)) = left_is_part s n q left more

-- what stays has the answers of the problem's query
pub left_is_equal : SoundIsCarried → (s : Store) → IsLawful s → (n : ℕ) (q left : Query) → LeavesOut s n q left → AreEqualUnder s.problem.rules q s.problem.query →
    AreEqualUnder s.problem.rules left s.problem.query
left_is_equal carried s lawful zero q left e h = subst (λ (r : Query). AreEqualUnder s.problem.rules r s.problem.query) (sym e) h
left_is_equal carried s lawful (suc n) q left (inl (may, more)) h =
    left_is_equal carried s lawful n (without q n) left more (record {
      forth = row_contains carried s lawful (without q n) may.row may.row_of may.covers;
      back = contained_trans s.problem.rules s.problem.query q (without q n) h.back
          (covered_is_contained s.problem.rules (without q n) q (covers_more (without q n) (without q n) q refl (rest_is_subset q.atoms n) (Covers-refl (without q n))));
    })
left_is_equal carried s lawful (suc n) q left (inr (not, more)) h = left_is_equal carried s lawful n q left more h

below_or_last : (k n : ℕ) → k < suc n → (k < n) ⊎ (k ≡ n)
below_or_last zero zero l = inr refl
below_or_last zero (suc n) l = inl (omega arith)
below_or_last (suc k) zero l = absurd (omega (arith, l))
below_or_last (suc k) (suc n) l = elim (below_or_last k n (omega (arith, l))) [
  | inl lt ↦ inl (omega (arith, lt))
  | inr e ↦ inr (ap suc e)
]

-- a row covers no query of some atoms that lacks one of those that stay
module _ (s : Store) (part : Query) (safe : IsSafe part) (row : ℕ) (row_of : IsRow s row) (covers : Covers (query_of s row) part) where
  pub each_is_needed : (n : ℕ) (q left : Query) → LeavesOut s n q left → n ≤ length q.atoms → HasEachOnce q.atoms → part.answers ≡ left.answers →
      IsSubset part.atoms left.atoms → (k : ℕ) → k < n → Contains left.atoms (atom_at q.atoms k) → ¬ Contains part.atoms (atom_at q.atoms k) → ⊥
  each_is_needed zero q left e few once same into k l stays_in lacks = omega (arith, l)
  each_is_needed (suc n) q left (inl (may, more)) few once same into k l stays_in lacks =
      let atoms = (left_is_part s n (without q n) left more).1 in
      elim (below_or_last k n l) [
        | inl lt ↦
            let at : atom_at (remove q.atoms n) k ≡ atom_at q.atoms k = get_or-remove_below q.atoms n _ k lt few in
            let size = length-remove q.atoms n few in
            each_is_needed n (without q n) left more (omega (arith, size, few)) (AllPairs-remove (λ (a b : Atom). a ≢ b) q.atoms n once) same into k lt
            (subst (λ (a : Atom). Contains left.atoms a) (sym at) stays_in) (subst (λ (a : Atom). ¬ Contains part.atoms a) (sym at) lacks)
        | inr here ↦
            is_gone q.atoms n few once (IsSubset-contains left.atoms (remove q.atoms n) (atom_at q.atoms n) atoms
            (subst (λ (i : ℕ). Contains left.atoms (atom_at q.atoms i)) here stays_in))
      ]
  each_is_needed (suc n) q left (inr (not, more)) few once same into k l stays_in lacks = elim (below_or_last k n l) [
    | inl lt ↦ each_is_needed n q left more (omega (arith, few)) once same into k lt stays_in lacks
    | inr here ↦
        let (answers, atoms) = left_is_part s n q left more in
        let among : IsSubset part.atoms (remove q.atoms n) = IsSubset-from_contains part.atoms (remove q.atoms n) (λ a i. stays q.atoms n a few
        (IsSubset-contains left.atoms q.atoms a atoms (IsSubset-contains part.atoms left.atoms a into i))
        (λ e. lacks (subst (λ (a : Atom). Contains part.atoms a) (e ∙ ap (λ (i : ℕ). atom_at q.atoms i) (sym here)) i))) in
        not (record {
          safe = record {
            nonempty = some_left part.atoms (remove q.atoms n) among safe.nonempty;
            answers = λ v i. OccursIn-subset part.atoms (remove q.atoms n) (Variable v) among (safe.answers v (subst (λ (ts : List Term). Contains ts (Variable v)) (sym (same ∙ answers)) i));
          };
          row = row;
          row_of = row_of;
          covers = covers_more (query_of s row) part (without q n) (same ∙ answers) among covers;
        })
  ]
    where
      some_left : (xs ys : List Atom) → IsSubset xs ys → 0 < length xs → 0 < length ys
      some_left [] ys into l = omega (arith, l)
      some_left (x ∷ xs) ys into l = length-positive ys x (IsSubset-contains (x ∷ xs) ys x into (Contains-first x xs))

-- so no proper part of what stays has the answers of a finished store's query
pub left_is_minimal : FinishedIsExact → (s : Store) → IsLawful s → (left : Query) → HasEachOnce s.problem.query.atoms →
    LeavesOut s (length s.problem.query.atoms) s.problem.query left → IsFinished s → (part : Query) → IsProperPart left part →
    ¬ AreEqualUnder s.problem.rules part s.problem.query
left_is_minimal exact s lawful left once leaves finished part proper equal =
    let q = s.problem.query in
    let (row, row_of, covers) = contained_is_covered exact s lawful finished part proper.safe equal.forth in
    let atoms = (left_is_part s (length q.atoms) q left leaves).1 in
    proper.proper (IsSubset-from_contains left.atoms part.atoms (λ a i.
    elim (dec_contains atom_discrete part.atoms a) [
      | yes there ↦ there
      | no lacks ↦
          let (k, l, e) = IsSubset-contains left.atoms q.atoms a atoms i in
          let at : atom_at q.atoms k ≡ a = same_read q.atoms k a _ l ∙ e in
          absurd (each_is_needed s part proper.safe row row_of covers (length q.atoms) q left leaves (omega arith) once proper.answers proper.atoms k l
          (subst (λ (b : Atom). Contains left.atoms b) (sym at) i) (subst (λ (b : Atom). ¬ Contains part.atoms b) (sym at) lacks))
    ]))
  where
    same_read : (xs : List Atom) (k : ℕ) (d e : Atom) → k < length xs → get_or xs k e ≡ get_or xs k d
    same_read [] k d e l = absurd (omega (arith, l))
    same_read (x ∷ xs) zero d e l = refl
    same_read (x ∷ xs) (suc k) d e l = same_read xs k d e (omega (arith, l))
