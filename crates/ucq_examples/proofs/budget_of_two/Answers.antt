use Rattle.std.proofs.Common.{◌≡◌, ◌≤◌, ◌<◌, ℕ, zero, suc, List, [], ◌∷◌, length, AllPairs, inl, inr, refl, sym, ap, ap₂, ◌∙◌, subst, arith}
use Rattle.std.specs.Prelude.{Any, Contains}
use Rattle.ucq_terms.specs.declared.Term.{Term}
use Rattle.ucq_terms.specs.declared.Term.TheVariants.{Constant}
use Rattle.ucq_terms.specs.declared.TheConstants.{ATOMS}
use Rattle.ucq_terms.specs.Syntax.{Atom, HasEachOnce, Query, Problem, IsSubset, IsSameSet, atom_image, atoms_image, terms_image}
use Rattle.ucq_terms.specs.Homomorphism.{IsCoreOf, IsEquivalent}
use Rattle.ucq_terms.specs.Unifier.{constant, of_copy, alone, back, KeepsPredicate, IsSinglePiece}
use Rattle.ucq_terms.specs.Rewriting.{AreApart, HasWidth, IsInLevel, IsMember, IsOneStep, Member, Rewrites, rule_at}
use Rattle.ucq_terms.proofs.Distinct.{length-distinct_le}
use Rattle.ucq_terms.proofs.Images.{IsSubset-image}
use Rattle.ucq_terms.proofs.Lists.{Contains-empty, Contains-first}
use Rattle.ucq_terms.proofs.Maps.{Covers-refl}
use Rattle.ucq_terms.proofs.Subsets.{IsSameSet-refl, IsSubset-contains, IsSubset-from_contains, IsSubset-trans}
use Rattle.ucq_examples.specs.Examples.{constant_a, s, t, asks, mark_rule, member, first}
use Rattle.ucq_examples.proofs.Edges.{pair_zero}
use Rattle.ucq_examples.proofs.Literal.{one_of}
use Rattle.ucq_examples.proofs.Single.{no_step, only_first}
use Rattle.ucq_examples.proofs.budget_of_two.Goals as goal

-- ---- one ground atom

is_it : (x y : Atom) → Contains (x ∷ []) y → x ≡ y
is_it x y i = elim (one_of (x ∷ []) y i) [ inl e ↦ e | inr n ↦ absurd n ]

-- a list of one atom, which it has once
only_it : (x : Atom) (xs : List Atom) → HasEachOnce xs → IsSubset xs (x ∷ []) → Contains xs x → xs ≡ x ∷ []
only_it x [] once below i = absurd (Contains-empty x i)
only_it x (y ∷ []) once below i = let e = is_it x y (below 0 y (omega arith)) in cc
only_it x (y ∷ z ∷ rest) once below i =
    let e = is_it x y (below 0 y (omega arith)) in
    let f = is_it x z (below 1 y (omega arith)) in
    absurd (once 0 1 y (omega arith) (omega arith) (sym e ∙ f))

-- the core of a query with one ground atom is that query
module _ (x : Atom) (ground : (h : ℕ → Term) → atom_image h x ≡ x) where
  one_core : (r core : Query) → r.answers ≡ [] → IsSameSet r.atoms (x ∷ []) → HasEachOnce core.atoms → IsCoreOf r core → core ≡ asks (x ∷ [])
  one_core r core none same once of =
      let h = of.equivalent.forth.mapping in
      let g = of.equivalent.back.mapping in
      let there : Contains core.atoms x =
      subst (λ (y : Atom). Contains core.atoms y) (ground h)
      (IsSubset-image h r.atoms core.atoms of.equivalent.forth.homomorphism.atoms x (IsSubset-contains (x ∷ []) r.atoms x same.1 (Contains-first x []))) in
      let answers : core.answers ≡ [] = sym of.equivalent.forth.homomorphism.answers ∙ ap (terms_image h) none in
      let part : IsSubset (x ∷ []) core.atoms = IsSubset-from_contains (x ∷ []) core.atoms (λ y i. subst (λ (z : Atom). Contains core.atoms z) (is_it x y i) there) in
      let below : IsSubset core.atoms (x ∷ []) =
      of.core.no_proper_part (x ∷ []) part (record {
        mapping = g;
        homomorphism = record {
          atoms = IsSubset-trans (atoms_image g core.atoms) r.atoms (x ∷ []) of.equivalent.back.homomorphism.atoms same.0;
          answers = of.equivalent.back.homomorphism.answers ∙ (none ∙ sym answers);
        };
      }) in
      let atoms : core.atoms ≡ x ∷ [] = only_it x core.atoms once below there in
      ap₂ (λ (terms : List Term) (list : List Atom). record { answers = terms; atoms = list }) answers atoms

-- ---- the levels

abbrev asks_t : Query
asks_t = asks (t constant_a ∷ [])

abbrev asks_s : Query
asks_s = asks (s constant_a ∷ [])

abbrev problem : Problem
problem = record { rules = mark_rule ∷ []; query = asks_t }

first_level : (q : Query) → IsInLevel problem 0 q → q ≡ asks_t
first_level q (once, core) = one_core (t constant_a) (λ h. refl) asks_t q refl (IsSameSet-refl asks_t.atoms) once core

only_member : (m : Member) → IsMember asks_t (mark_rule ∷ []) m → m ≡ member first
only_member m is = go m.rule is.rule refl
  where
    go : (n : ℕ) → n < 1 → m.rule ≡ n → m ≡ member first
    go zero lt e =
        let single : IsSinglePiece asks_t mark_rule m.pairs = subst (λ (n : ℕ). IsSinglePiece asks_t (rule_at (mark_rule ∷ []) n) m.pairs) e is.single in
        let pairs : m.pairs ≡ first = only_first asks_t mark_rule m.pairs single.unifier.matching (λ a k. pair_zero a.0 a.1 k.in_query k.in_head) in
        ap₂ (λ (number : ℕ) (list : List (ℕ × ℕ)). record { rule = number; pairs = list }) e pairs
    go (suc n) lt e = absurd (omega arith)

one_member : (ms : List Member) → 0 < length ms → ((m : Member) → Contains ms m → m ≡ member first) → AllPairs AreApart ms → ms ≡ member first ∷ []
one_member [] some each apart = absurd (omega arith)
one_member (m ∷ []) some each apart = let e = each m (Contains-first m []) in cc
one_member (m ∷ n ∷ rest) some each apart =
    let e = each m (Contains-first m (n ∷ rest)) in
    let f = each n (1, omega arith, refl) in
    let bad : AreApart (member first) (member first) = subst (λ (a : Member). AreApart a (member first)) e (subst (AreApart m) f (apart 0 1 m (omega arith) (omega arith))) in
    absurd (bad 0 (0, omega arith, refl) (0, omega arith, refl))

-- the rewriting has no atom but s(a)
record HasOnly (r : Query) : Type 0 where
  answers : r.answers ≡ []
  atoms : IsSameSet r.atoms (s constant_a ∷ [])

rewritten : (r : Query) → Rewrites asks_t (mark_rule ∷ []) (member first ∷ []) r → HasOnly r
rewritten r w =
    let named : w.name (of_copy 0 0) ≡ Constant 0 = (w.names.classes (of_copy 0 0) (constant 0)).1 (back (0, omega arith, refl) alone) ∙ w.names.constants 0 in
    record { answers = w.answers; atoms = subst (λ (x : Term). IsSameSet r.atoms (s x ∷ [])) named w.atoms }

step_to : (r : Query) → IsOneStep (mark_rule ∷ []) asks_t r → HasOnly r
step_to r one =
    let w = one.step.rewrites in
    let members : one.step.members ≡ member first ∷ [] =
    one_member one.step.members w.aggregate.nonempty (λ m i. only_member m (subst (IsMember asks_t (mark_rule ∷ [])) i.2 (w.aggregate.each i.0 m i.1))) w.aggregate.apart in
    rewritten r (subst (λ (ms : List Member). Rewrites asks_t (mark_rule ∷ []) ms r) members w)

second_level : (q : Query) → IsInLevel problem 1 q → q ≡ asks_s
second_level q (once, (p, r, before, step, core)) =
    let h = step_to r (subst (λ (x : Query). IsOneStep (mark_rule ∷ []) x r) (first_level p before) step) in
    one_core (s constant_a) (λ h. refl) r q h.answers h.atoms once core

-- s(a) is no head
ends_there : (r : Query) → ¬ IsOneStep (mark_rule ∷ []) asks_s r
ends_there r = no_step asks_s mark_rule r none
  where
    differ : (a : ℕ × ℕ) → KeepsPredicate asks_s mark_rule a → ⊥
    differ (zero, zero) k = let e = k.name in omega arith
    differ (zero, suc b) k = let l = k.in_head in omega arith
    differ (suc a, b) k = let l = k.in_query in omega arith

    none : (pairs : List (ℕ × ℕ)) → ¬ IsSinglePiece asks_s mark_rule pairs
    none [] single = let l = single.unifier.matching.nonempty in omega arith
    none (a ∷ pairs) single = differ a (single.unifier.matching.each a (Contains-first a pairs))

no_third : (q : Query) → ¬ IsInLevel problem 2 q
no_third q (once, (p, r, before, step, core)) = ends_there r (subst (λ (x : Query). IsOneStep (mark_rule ∷ []) x r) (second_level p before) step)

same_query : (a q : Query) → q ≡ a → IsEquivalent a q
same_query a q e = subst (IsEquivalent a) (sym e) (record { forth = Covers-refl a; back = Covers-refl a })

counted : (level : ℕ) (q : Query) → level ≤ 2 → IsInLevel problem level q → Any (λ m. IsEquivalent m q) (asks_t ∷ asks_s ∷ [])
counted zero q within h = (0, asks_t, omega arith, refl, same_query asks_t q (first_level q h))
counted (suc zero) q within h = (1, asks_s, omega arith, refl, same_query asks_s q (second_level q h))
counted (suc (suc zero)) q within h = absurd (no_third q h)
counted (suc (suc (suc level))) q within h = absurd (omega arith)

narrow_one : (r : Query) (width : ℕ) → HasOnly r → HasWidth r.atoms width → width ≤ ATOMS
narrow_one r width h w =
    let below : IsSubset w.different (s constant_a ∷ []) = IsSubset-trans w.different r.atoms (s constant_a ∷ []) w.same.0 h.atoms.0 in
    let few : length w.different ≤ 1 = length-distinct_le w.different (s constant_a ∷ []) w.once (λ x i. IsSubset-contains w.different (s constant_a ∷ []) x below i) in
    let count : width ≡ length w.different = w.count in
    omega arith

narrow : (level : ℕ) (q result : Query) (width : ℕ) → level ≤ 1 → IsInLevel problem level q → IsOneStep (mark_rule ∷ []) q result → HasWidth result.atoms width → width ≤ ATOMS
narrow zero q result width within h step w = narrow_one result width (step_to result (subst (λ (x : Query). IsOneStep (mark_rule ∷ []) x result) (first_level q h) step)) w
narrow (suc zero) q result width within h step w = absurd (ends_there result (subst (λ (x : Query). IsOneStep (mark_rule ∷ []) x result) (second_level q h) step))
narrow (suc (suc level)) q result width within h step w = absurd (omega arith)

pub returns : goal.returns
returns c = record {
  last = 1;
  members = asks_t ∷ asks_s ∷ [];
  ends = record {
    covered = λ q h. absurd (no_third q h);
    counted = counted;
    narrow = narrow;
  };
  fits = omega arith;
}
