-- The tuples that are added while one atom is sent to facts, one after another.
use Rattle.std.proofs.Common.{◌≡◌, ℕ, ◌<◌, refl, List, [], ◌∷◌, ◌++◌, length, get_or, Option, Contains, sym, ◌∙◌, subst, inl, inr}
use Rattle.std.specs.List.{SwappedAt}
use Rattle.std.proofs.lemmas.List.Elements.{Contains-append_right}
use Rattle.ucq_terms.specs.declared.Term.{Term}
use Rattle.ucq_terms.specs.Syntax.{Atom, Query}
use Rattle.ucq_terms.specs.Unifier.{atom_at}
use Rattle.ucq_terms.proofs.Lists.{Contains-first}
use Rattle.ucq_hom.specs.Space.{IsClear}
use Rattle.ucq_hom.specs.Bindings.{Bound, IsMatched, IsClash}
use Rattle.ucq_hom.specs.Search.{ArePlaces, IsOrder}
use Rattle.ucq_hom.proofs.Ordered.{ArePlaces-at}
use Rattle.ucq_facts.specs.Facts.{matching}
use Rattle.ucq_facts.proofs.Matching.{Contains-from_matching}
use Rattle.ucq_eval.specs.inner.Join.{IsGrownBy, IsCollected, SendsToTuple, GivesBy, HasSamePlaces, IsKey, AreTargets, IsChoice}
use Rattle.ucq_eval.proofs.Places.{read_of}
use Rattle.ucq_eval.proofs.Grown.{IsGrownBy-nothing, IsGrownBy-same, IsGrownBy-both}
use Rattle.ucq_eval.proofs.Given.{none_by_no_target, none_by_clash, GivesBy-cases, GivesBy-left, GivesBy-right, GivesBy-same, GivesBy-from_same, GivesBy-matched, SendsToTuple-matched, SendsToTuple-same, SendsToTuple-from_same, SendsToTuple-by_matching, matching-given, SendsToTuple-maps, MapsInto-given}

-- facts of an atom that was read at one of the places
pub chosen : (b : Bound) (facts atoms : List Atom) (places : List ℕ) (choice : ℕ) (a : Atom) (targets : List Atom) → choice < length places → ArePlaces atoms places →
    a ≡ get_or atoms (get_or places choice 0) a → AreTargets b facts a targets → IsChoice b facts atoms places choice targets
chosen b facts atoms places choice a targets within p is t =
    let inside : get_or places choice 0 < length atoms = ArePlaces-at atoms places choice within p in
    let atom : a ≡ atom_at atoms (get_or places choice 0) = read_of atoms atoms (get_or places choice 0) a refl inside is in
    record { within = within; facts_of = subst (λ (x : Atom). AreTargets b facts x targets) atom t }

-- the facts that were chosen are those of the first place, once it was put there
pub targets_of_first : (b : Bound) (facts all atoms : List Atom) (places order : List ℕ) (choice : ℕ) (targets : List Atom) → all ≡ atoms → SwappedAt places order 0 choice →
    IsChoice b facts all places choice targets → AreTargets b facts (atom_at atoms (get_or order 0 0)) targets
targets_of_first b facts all atoms places order choice targets e s c =
    subst (λ (xs : List Atom). AreTargets b facts (atom_at xs (get_or order 0 0)) targets) e
    (subst (λ (place : ℕ). AreTargets b facts (atom_at all place) targets) (sym (s.0 0)) c.facts_of)

-- no target yet
pub found_none : (b : Bound) (q : Query) (place : ℕ) (rest : List ℕ) (facts : List Atom) (us : List (List ℕ)) → IsGrownBy (GivesBy b q place [] rest facts) us us
found_none b q place rest facts us = IsGrownBy-nothing _ us (λ t g. absurd (none_by_no_target b q place rest facts t g))

-- one target more
pub found_more : (a b : Bound) (q : Query) (place : ℕ) (xs : List Atom) (target : Atom) (rest others : List ℕ) (facts : List Atom) (us vs ws : List (List ℕ)) →
    b ≡ a → HasSamePlaces rest others → IsGrownBy (GivesBy a q place xs rest facts) us vs → IsGrownBy (GivesBy b q place (target ∷ []) others facts) vs ws →
    IsGrownBy (GivesBy a q place (xs ++ target ∷ []) rest facts) us ws
found_more a b q place xs target rest others facts us vs ws e s f g =
    let step : IsGrownBy (GivesBy a q place (target ∷ []) rest facts) vs ws =
    IsGrownBy-same _ _ vs ws (λ t h. GivesBy-from_same a q place (target ∷ []) rest others facts t s h)
    (λ t h. GivesBy-same a q place (target ∷ []) rest others facts t s h)
    (subst (λ (x : Bound). IsGrownBy (GivesBy x q place (target ∷ []) others facts) vs ws) e g) in
    IsGrownBy-both _ _ _ us vs ws (λ t h. GivesBy-cases a q place xs (target ∷ []) rest facts t h) (λ t h. GivesBy-left a q place xs (target ∷ []) rest facts t h)
    (λ t h. GivesBy-right a q place xs (target ∷ []) rest facts t h) f step

-- all the facts that match
pub found_all : (b : Bound) (q : Query) (places : List ℕ) (place : ℕ) (rest : List ℕ) (facts targets : List Atom) (key : Option (ℕ × Term)) (us vs : List (List ℕ)) →
    targets ≡ matching facts (atom_at q.atoms place).name (length (atom_at q.atoms place).terms) key → IsKey b (atom_at q.atoms place).terms key →
    HasSamePlaces places (place ∷ rest) → IsGrownBy (GivesBy b q place targets rest facts) us vs → IsGrownBy (SendsToTuple b q places facts) us vs
found_all b q places place rest facts targets key us vs e k s f =
    IsGrownBy-same _ _ us vs
    (λ t g. SendsToTuple-from_same b q places (place ∷ rest) facts t s
    (SendsToTuple-by_matching b q place rest facts key t (subst (λ (xs : List Atom). GivesBy b q place xs rest facts t) e g)))
    (λ t g. subst (λ (xs : List Atom). GivesBy b q place xs rest facts t) (sym e)
    (matching-given b q place rest facts key t k (SendsToTuple-same b q places (place ∷ rest) facts t s g))) f

-- a target that the atom is matched with, and one with which it clashes
pub found_matched : (a b : Bound) (q : Query) (place : ℕ) (target : Atom) (rest : List ℕ) (facts : List Atom) (us vs : List (List ℕ)) →
    (atom_at q.atoms place).name ≡ target.name → IsMatched a b (atom_at q.atoms place).terms target.terms → IsGrownBy (SendsToTuple b q rest facts) us vs →
    IsGrownBy (GivesBy a q place (target ∷ []) rest facts) us vs
found_matched a b q place target rest facts us vs n m f =
    IsGrownBy-same _ _ us vs (λ t g. GivesBy-matched a b q place target rest facts t n m g) (λ t g. SendsToTuple-matched a b q place target rest facts t m g) f

pub found_clash : (a : Bound) (q : Query) (place : ℕ) (target : Atom) (rest : List ℕ) (facts : List Atom) (us : List (List ℕ)) →
    IsClash a (atom_at q.atoms place).terms target.terms → IsGrownBy (GivesBy a q place (target ∷ []) rest facts) us us
found_clash a q place target rest facts us k = IsGrownBy-nothing _ us (λ t g. absurd (none_by_clash a q place target rest facts t k g))

-- the first of the facts that are left has the name of those that match
pub name-first : (facts done left : List Atom) (name arity : ℕ) (key : Option (ℕ × Term)) (all : List Atom) (target : Atom) (rest : List Atom) →
    all ≡ matching facts name arity key → done ++ left ≡ all → left ≡ target ∷ rest → target.name ≡ name
name-first facts done left name arity key all target rest e f g =
    let among : Contains left target = subst (λ (xs : List Atom). Contains xs target) (sym g) (Contains-first target rest) in
    let i : Contains (matching facts name arity key) target =
    subst (λ (xs : List Atom). Contains xs target) (f ∙ e) (Contains-append_right done left target among) in
    (Contains-from_matching facts name arity key target i).1.name_is

-- the tuples of all maps are those of homomorphisms
pub IsCollected-found : (b : Bound) (q : Query) (order : List ℕ) (facts : List Atom) (us vs : List (List ℕ)) → IsClear b.images → IsOrder q.atoms order →
    IsGrownBy (SendsToTuple b q order facts) us vs → IsCollected q facts us vs
IsCollected-found b q order facts us vs c o f = record {
  each = λ t. (
    λ i. elim ((f.each t).0 i) [ inl j ↦ inl j | inr g ↦ inr (MapsInto-given b q order facts t o g) ],
    λ i. elim i [ inl j ↦ (f.each t).1 (inl j) | inr m ↦ (f.each t).1 (inr (SendsToTuple-maps b q order facts t c o m)) ],
  );
}
