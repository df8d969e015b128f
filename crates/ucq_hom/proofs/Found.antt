-- The images of some atoms, found one after another.
use Rattle.std.proofs.Common.{◌≡◌, ℕ, zero, suc, ◌+◌, ◌<◌, List, [], ◌∷◌, length, drop, get_or, Contains, refl, sym, ap, ◌∙◌, subst, inl, inr, arith}
use Rattle.std.specs.List.{remove}
use Rattle.std.proofs.lemmas.Bool.{cases_eq}
use Rattle.std.proofs.lemmas.List.Elements.{Contains-get_or}
use Rattle.std.proofs.lemmas.List.{get_or_default}
use Rattle.ucq_terms.specs.declared.Term.{Term}
use Rattle.ucq_terms.specs.declared.Term.TheVariants.{Variable}
use Rattle.ucq_terms.specs.Syntax.{Atom, atom_image}
use Rattle.ucq_terms.specs.Unifier.{atom_at}
use Rattle.ucq_terms.proofs.Decide.{atom_path}
use Rattle.ucq_terms.proofs.Images.{atom_image-agree}
use Rattle.ucq_hom.specs.Levels.{Counts, ExtendsAt, HasLevelsOf, IsNoted, IsLevelSubset, KeepsLevels}
use Rattle.ucq_hom.proofs.Noted.{IsDeeper, IsDeeper-noted, ExtendsAt-less, ExtendsAt-matched, ExtendsAt-jump, HasLevelsOf-within, patched, patched-same, Extends-patched}
use Rattle.ucq_terms.proofs.Lists.{Contains-first, Contains-rest, Contains-cons_cases, Contains-empty}
use Rattle.ucq_terms.proofs.Subsets.{OccursIn-at}
use Rattle.ucq_hom.specs.Bindings.{Bound, Grown, IsMatched}
use Rattle.ucq_hom.specs.Search.{HasLowTerms, HasLowAtoms, ArePlaces, Sends, IsMappedFurther, IsBlocked, IsAtomClash}
use Rattle.ucq_hom.proofs.Trail.{Grown-refl, Grown-trans}
use Rattle.ucq_hom.proofs.Matched.{Extends-less, IsSome-grown}

-- A list without the element at a place.
pub Contains-remove : {X : Type 0} (xs : List X) (out k : ℕ) (d : X) → k < length xs → (k ≡ out → ⊥) → Contains (remove xs out) (get_or xs k d)
Contains-remove [] out k d l n = absurd (omega arith)
Contains-remove (x ∷ xs) zero zero d l n = absurd (n refl)
Contains-remove (x ∷ xs) zero (suc k) d l n = Contains-get_or xs k d (omega arith)
Contains-remove (x ∷ xs) (suc out) zero d l n = Contains-first x (remove xs out)
Contains-remove (x ∷ xs) (suc out) (suc k) d l n = Contains-rest x (remove xs out) (get_or xs k d) (Contains-remove xs out k d (omega arith) (λ e. n (ap suc e)))

pub Contains-from_remove : {X : Type 0} (xs : List X) (out : ℕ) (x : X) → Contains (remove xs out) x →
    (k : ℕ) × (k < length xs) × (k ≡ out → ⊥) × (get_or xs k x ≡ x)
Contains-from_remove [] zero x i = absurd (Contains-empty x i)
Contains-from_remove [] (suc out) x i = absurd (Contains-empty x i)
Contains-from_remove (y ∷ xs) zero x (k, l, e) = (suc k, omega (arith, l), (λ q. omega arith), e)
Contains-from_remove (y ∷ xs) (suc out) x i = elim (Contains-cons_cases y (remove xs out) x i) [
  | inl e ↦ (zero, omega arith, (λ q. omega arith), e)
  | inr j ↦ let (k, l, n, e) = Contains-from_remove xs out x j in (suc k, omega (arith, l), (λ q. n (omega arith)), e)
]

-- what sends more atoms sends fewer
Sends-rest : (h : ℕ → Term) (from : List Atom) (place : ℕ) (rest : List ℕ) (targets : List Atom) → Sends h from (place ∷ rest) targets → Sends h from rest targets
Sends-rest h from place rest targets s = record { each = λ x j. s.each x (Contains-rest place rest x j) }

-- nothing to send
pub IsMappedFurther-nothing : (b : Bound) (from : List Atom) (places : List ℕ) (targets : List Atom) → length places ≡ 0 → IsMappedFurther b b from places targets
IsMappedFurther-nothing b from places targets z = record {
  grown = Grown-refl b;
  sent = λ h e. record { each = λ place i. absurd (let l = i.1 in omega arith) };
  bound = λ v place i j. absurd (let l = i.1 in omega arith);
  no_more = λ v s. inl s;
}

-- an atom matched onto a target, and then the rest
pub IsMappedFurther-more : (a b c : Bound) (from : List Atom) (place : ℕ) (rest : List ℕ) (targets : List Atom) (target : Atom) → place < length from →
    Contains targets target → (atom_at from place).name ≡ target.name → IsMatched a b (atom_at from place).terms target.terms → IsMappedFurther b c from rest targets →
    IsMappedFurther a c from (place ∷ rest) targets
IsMappedFurther-more a b c from place rest targets target l t name m f = record {
  grown = Grown-trans a b c m.grown f.grown;
  sent = λ h e. record {
    each = λ p i. elim (Contains-cons_cases place rest p i) [
      | inl q ↦
          let here : target ≡ atom_image h (atom_at from place) = sym (atom_path _ _ name (m.carried h (Extends-less b c h f.grown e))) in
          subst (λ (k : ℕ). Contains targets (atom_image h (atom_at from k))) q (subst (λ (x : Atom). Contains targets x) here t)
      | inr j ↦ (f.sent h e).each p j
    ];
  };
  bound = λ v p i j. elim (Contains-cons_cases place rest p i) [
    | inl q ↦ IsSome-grown b c v f.grown (m.bound v (subst (λ (k : ℕ). Contains (atom_at from k).terms (Variable v)) (sym q) j))
    | inr k ↦ f.bound v p k j
  ];
  no_more = λ v s. elim (f.no_more v s) [
    | inr o ↦ inr o
    | inl r ↦ elim (m.no_more v r) [ inl x ↦ inl x | inr j ↦ inr (OccursIn-at from place (Variable v) l j) ]
  ];
}

-- No map that agrees at the levels of the set, and sends the rest, sends the atom to one of the first targets.
pub record IsPast (before : Bound) (levels : List ℕ) (set : ℕ) (from : List Atom) (atom : Atom) (rest : List ℕ) (to : List Atom) (skip count : ℕ) : Type 0 where
  pub none : (h : ℕ → Term) → ExtendsAt h before levels set → Sends h from rest (remove to skip) → (k : ℕ) → k < count → (k ≡ skip → ⊥) →
      atom_image h atom ≡ atom_at to k → ⊥

pub IsPast-none : (b : Bound) (levels : List ℕ) (set : ℕ) (from : List Atom) (atom : Atom) (rest : List ℕ) (to : List Atom) (skip : ℕ) →
    IsPast b levels set from atom rest to skip 0
IsPast-none b levels set from atom rest to skip = record { none = λ h e s k l. absurd (omega arith) }

-- one target more
IsPast-more : (b : Bound) (levels : List ℕ) (set : ℕ) (from : List Atom) (atom : Atom) (rest : List ℕ) (to : List Atom) (skip j : ℕ) →
    IsPast b levels set from atom rest to skip j →
    ((h : ℕ → Term) → ExtendsAt h b levels set → Sends h from rest (remove to skip) → (j ≡ skip → ⊥) → atom_image h atom ≡ atom_at to j → ⊥) →
    IsPast b levels set from atom rest to skip (j + 1)
IsPast-more b levels set from atom rest to skip j p f = record {
  none = λ h e s k l n q. elim (cases_eq k j) [
    | inl r ↦ f h e s (subst (λ (x : ℕ). x ≡ skip → ⊥) r n) (subst (λ (x : ℕ). atom_image h atom ≡ atom_at to x) r q)
    | inr r ↦ p.none h e s k (omega arith) n q
  ];
}

-- the target is left out
pub IsPast-skip : (b : Bound) (levels : List ℕ) (set : ℕ) (from : List Atom) (atom : Atom) (rest : List ℕ) (to : List Atom) (skip j : ℕ) →
    IsPast b levels set from atom rest to skip j → j ≡ skip → IsPast b levels set from atom rest to skip (j + 1)
IsPast-skip b levels set from atom rest to skip j p q = IsPast-more b levels set from atom rest to skip j p (λ h e s n i. n q)

-- the atom clashes with the target
pub IsPast-clash : (b : Bound) (levels : List ℕ) (set : ℕ) (from : List Atom) (atom : Atom) (rest : List ℕ) (to : List Atom) (skip j : ℕ) →
    IsPast b levels set from atom rest to skip j → HasLevelsOf b levels set atom.terms → IsAtomClash b atom (atom_at to j) →
    IsPast b levels set from atom rest to skip (j + 1)
IsPast-clash b levels set from atom rest to skip j p l k = IsPast-more b levels set from atom rest to skip j p
    (λ h e s n i. k.none (patched b h) (Extends-patched b h) (atom_image-agree (patched b h) h atom (patched-same b h levels set atom.terms e l) ∙ i))

-- the rest is blocked once the atom is matched onto the target
pub IsPast-blocked : (b c : Bound) (levels deep : List ℕ) (level set next deeper : ℕ) (from : List Atom) (atom : Atom) (rest : List ℕ) (to : List Atom) (skip j : ℕ) →
    IsPast b levels set from atom rest to skip j → HasLevelsOf b levels set atom.terms → IsLevelSubset set next → IsLevelSubset deeper next → IsDeeper b c levels deep level →
    IsMatched b c atom.terms (atom_at to j).terms → IsBlocked c deep deeper from rest (remove to skip) → IsPast b levels next from atom rest to skip (j + 1)
IsPast-blocked b c levels deep level set next deeper from atom rest to skip j p l v w d m k =
    IsPast-more b levels next from atom rest to skip j (record { none = λ h e. p.none h (ExtendsAt-less h b levels set next v e) }) (λ h e s n i.
    k.none h (ExtendsAt-matched b c levels deep level next deeper atom.terms (atom_at to j).terms h d m (HasLevelsOf-within b levels set next atom.terms v l) w e (ap (λ (a : Atom). a.terms) i)) s)

-- all targets are past
pub IsBlocked-all : (b : Bound) (levels : List ℕ) (set : ℕ) (from : List Atom) (place : ℕ) (rest : List ℕ) (to : List Atom) (skip : ℕ) →
    IsPast b levels set from (atom_at from place) rest to skip (length to) → IsBlocked b levels set from (place ∷ rest) (remove to skip)
IsBlocked-all b levels set from place rest to skip p = record {
  none = λ h e s.
      let i = s.each place (Contains-first place rest) in
      let (k, l, n, q) = Contains-from_remove to skip (atom_image h (atom_at from place)) i in
      p.none h e (Sends-rest h from place rest (remove to skip) s) k l n (sym q ∙ get_or_default to k _ _ l);
}

-- the rest is blocked whatever the atom's image
pub IsBlocked-jump : (b c : Bound) (levels deep : List ℕ) (level deeper : ℕ) (from : List Atom) (place : ℕ) (rest : List ℕ) (targets : List Atom) →
    IsDeeper b c levels deep level → Grown b c → ¬ Counts deeper level → IsBlocked c deep deeper from rest targets →
    IsBlocked b levels deeper from (place ∷ rest) targets
IsBlocked-jump b c levels deep level deeper from place rest targets d g n k = record {
  none = λ h e s. k.none h (ExtendsAt-jump b c levels deep level deeper h d g n e) (Sends-rest h from place rest targets s);
}

-- One atom matched: facts of the bindings and the levels then, from what the loop keeps.
pub match_from : (a b c : Bound) (terms targets : List Term) → b ≡ a → IsMatched b c terms targets → IsMatched a c terms targets
match_from a b c terms targets e m = subst (λ (x : Bound). IsMatched x c terms targets) e m

pub deeper_from : (a b c : Bound) (first old new : List ℕ) (level mark : ℕ) (terms targets : List Term) → b ≡ a → mark ≡ length a.trail → IsMatched b c terms targets →
    KeepsLevels a first old → IsNoted old new (drop mark c.trail) level → IsDeeper a c first new level
deeper_from a b c first old new level mark terms targets e q m k n =
    IsDeeper-noted a c first old new level (match_from a b c terms targets e m).grown k (subst (λ (x : ℕ). IsNoted old new (drop x c.trail) level) q n)

-- The places of a list, and its first one and the rest.
pub ArePlaces-first : (from : List Atom) (places : List ℕ) (place : ℕ) (rest : List ℕ) → places ≡ place ∷ rest → ArePlaces from places → place < length from
ArePlaces-first from places place rest e p = p.within place (subst (λ (x : List ℕ). Contains x place) (sym e) (Contains-first place rest))

pub ArePlaces-rest : (from : List Atom) (places : List ℕ) (place : ℕ) (rest : List ℕ) → places ≡ place ∷ rest → ArePlaces from places → ArePlaces from rest
ArePlaces-rest from places place rest e p = record {
  within = λ x i. p.within x (subst (λ (y : List ℕ). Contains y x) (sym e) (Contains-rest place rest x i));
}

-- an atom that was read at a place
pub read_at : (atoms : List Atom) (place : ℕ) (a : Atom) → place < length atoms → a ≡ get_or atoms place a → a ≡ atom_at atoms place
read_at atoms place a l e = e ∙ get_or_default atoms place a _ l

-- its terms are low
pub HasLowTerms-at : (atoms : List Atom) (place : ℕ) → place < length atoms → HasLowAtoms atoms → HasLowTerms (atom_at atoms place).terms
HasLowTerms-at atoms place l h = record { low = λ v i. h.low v (OccursIn-at atoms place (Variable v) l i) }
