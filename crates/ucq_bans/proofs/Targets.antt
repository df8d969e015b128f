-- The places of facts, and those to which an atom may be sent.
use Rattle.std.proofs.Common.{◌≡◌, ℕ, zero, suc, ◌+◌, Bool, true, false, cond, List, [], ◌∷◌, length, Contains, slice_get, Option, Some, None, refl, sym, ap, ◌∙◌, subst, inl, inr, arith}
use Rattle.std.specs.Prelude.{◌≢◌}
use Rattle.std.specs.Option.{option_map}
use Rattle.std.proofs.lemmas.List.{length-map}
use Rattle.std.proofs.lemmas.Option.{slice_get-map, slice_get-get_or, slice_get_within, get_or_from_slice_get, same_Some, none-some}
use Rattle.ucq_terms.specs.declared.Term.{Term}
use Rattle.ucq_terms.specs.declared.Term.TheVariants.{Constant, Variable}
use Rattle.ucq_terms.specs.Syntax.{Atom, HasEachOnce, term_image, atom_image}
use Rattle.ucq_terms.proofs.Lists.{Contains-first, Contains-rest, Contains-cons_cases, Contains-empty}
use Rattle.ucq_terms.proofs.Pairwise.{AllPairs-first, AllPairs-rest}
use Rattle.ucq_hom.specs.Bindings.{Bound, Extends}
use Rattle.ucq_facts.specs.Facts.{IsMatch, is_match, places_from}
use Rattle.ucq_facts.proofs.Matching.{is_match-true, IsMatch-from_test}
use Rattle.ucq_bans.specs.inner.Search.{value, IsKey, AreTargets}

-- ---- places of facts

pub Contains-at : {X : Type 0} (xs : List X) (i : ℕ) (x : X) → slice_get xs i ≡ Some x → Contains xs x
Contains-at xs i x e = (i, slice_get_within xs i x e, get_or_from_slice_get xs i x x e)

pub at_place : {X : Type 0} (xs : List X) (x : X) → Contains xs x → (i : ℕ) × (slice_get xs i ≡ Some x)
at_place xs x (i, within, e) = (i, slice_get-get_or xs i x within ∙ ap Some e)

-- a fact has one place
pub one_place : (facts : List Atom) (i j : ℕ) (a : Atom) → HasEachOnce facts → slice_get facts i ≡ Some a → slice_get facts j ≡ Some a → i ≡ j
one_place [] i j a once e f = absurd (none-some a e)
one_place (x ∷ xs) zero zero a once e f = refl
one_place (x ∷ xs) zero (suc j) a once e f = absurd (AllPairs-first (λ (a b : Atom). a ≢ b) x xs a once (Contains-at xs j a f) (same_Some x a e))
one_place (x ∷ xs) (suc i) zero a once e f = absurd (AllPairs-first (λ (a b : Atom). a ≢ b) x xs a once (Contains-at xs i a e) (same_Some x a f))
one_place (x ∷ xs) (suc i) (suc j) a once e f = ap suc (one_place xs i j a (AllPairs-rest (λ (a b : Atom). a ≢ b) x xs once) e f)

-- ---- facts that pass a test

-- the place is that of a fact that passes, where places are counted from a number
pub record IsPassing (test : Atom → Bool) (n : ℕ) (facts : List Atom) (place : ℕ) : Type 0 where
  pub index : ℕ
  pub is : place ≡ n + index
  pub fact : Atom
  pub at : slice_get facts index ≡ Some fact
  pub passes : test fact ≡ true

pub Contains-places_from : (test : Atom → Bool) (n : ℕ) (facts : List Atom) (i : ℕ) (a : Atom) → slice_get facts i ≡ Some a → test a ≡ true →
    Contains (places_from test n facts) (n + i)
Contains-places_from test n [] i a e h = absurd (none-some a e)
Contains-places_from test n (x ∷ facts) zero a e h =
    let rest = places_from test (n + 1) facts in
    let start : n ≡ n + 0 = omega arith in
    let here : Contains (n ∷ rest) (n + 0) = subst (λ (k : ℕ). Contains (n ∷ rest) k) start (Contains-first n rest) in
    let passes : test x ≡ true = ap test (same_Some x a e) ∙ h in
    subst (λ (b : Bool). Contains (cond b (n ∷ rest) rest) (n + 0)) (sym passes) here
Contains-places_from test n (x ∷ facts) (suc i) a e h =
    let rest = places_from test (n + 1) facts in
    let same : n + 1 + i ≡ n + suc i = omega arith in
    let later : Contains rest (n + suc i) = subst (λ (k : ℕ). Contains rest k) same (Contains-places_from test (n + 1) facts i a e h) in
    go (test x) later
  where
    go : (b : Bool) → Contains (places_from test (n + 1) facts) (n + suc i) → Contains (cond b (n ∷ places_from test (n + 1) facts) (places_from test (n + 1) facts)) (n + suc i)
    go true later = Contains-rest n (places_from test (n + 1) facts) (n + suc i) later
    go false later = later

pub Contains-from_places_from : (test : Atom → Bool) (n : ℕ) (facts : List Atom) (place : ℕ) → Contains (places_from test n facts) place → IsPassing test n facts place
Contains-from_places_from test n [] place i = absurd (Contains-empty place i)
Contains-from_places_from test n (x ∷ facts) place i = go (test x) refl i (λ j. later (Contains-from_places_from test (n + 1) facts place j))
  where
    later : IsPassing test (n + 1) facts place → IsPassing test n (x ∷ facts) place
    later p = record {
      index = suc p.index;
      is = let e = p.is in omega arith;
      fact = p.fact;
      at = p.at;
      passes = p.passes;
    }

    go : (b : Bool) → test x ≡ b → Contains (cond b (n ∷ places_from test (n + 1) facts) (places_from test (n + 1) facts)) place →
        (Contains (places_from test (n + 1) facts) place → IsPassing test n (x ∷ facts) place) → IsPassing test n (x ∷ facts) place
    go true e i rest = elim (Contains-cons_cases n (places_from test (n + 1) facts) place i) [
      | inl here ↦ record { index = 0; is = omega (arith, here); fact = x; at = refl; passes = e }
      | inr j ↦ rest j
    ]
    go false e i rest = rest i

-- ---- targets

-- a map that agrees with what is bound carries a term to what is bound to it
value-image : (h : ℕ → Term) (b : Bound) (t s : Term) → Extends h b → value b t ≡ Some s → term_image h t ≡ s
value-image h b (Constant c) s e q = cc
value-image h b (Variable v) s e q = e.agrees v s q

IsMatch-image : (h : ℕ → Term) (b : Bound) (a : Atom) (key : Option (ℕ × Term)) → Extends h b → IsKey b a.terms key →
    IsMatch a.name (length a.terms) key (atom_image h a)
IsMatch-image h b a None e k = record { name_is = refl; arity_is = length-map a.terms (term_image h); bound_is = tt }
IsMatch-image h b a (Some key) e k = record {
  name_is = refl;
  arity_is = length-map a.terms (term_image h);
  bound_is = slice_get-map (term_image h) a.terms key.0 ∙ (ap (option_map (term_image h)) k.1 ∙ ap Some (value-image h b k.0 key.1 e k.2));
}

-- the place of the fact to which such a map sends the atom is a target
pub is_target : (b : Bound) (facts : List Atom) (a : Atom) (targets : List ℕ) (h : ℕ → Term) (place : ℕ) → AreTargets b facts a targets → Extends h b →
    slice_get facts place ≡ Some (atom_image h a) → Contains targets place
is_target b facts a targets h place t e at =
    let test = is_match a.name (length a.terms) t.key in
    let start : 0 + place ≡ place = omega arith in
    let here : Contains (places_from test 0 facts) place =
    subst (λ (k : ℕ). Contains (places_from test 0 facts) k) start
    (Contains-places_from test 0 facts place (atom_image h a) at (is_match-true a.name (length a.terms) t.key (atom_image h a) (IsMatch-image h b a t.key e t.keyed))) in
    subst (λ (ts : List ℕ). Contains ts place) (sym t.are) here

-- a target is the place of a fact of the atom's name
pub record IsFactOfName (facts : List Atom) (name target : ℕ) : Type 0 where
  pub fact : Atom
  pub at : slice_get facts target ≡ Some fact
  pub named : fact.name ≡ name

pub target_is_fact : (b : Bound) (facts : List Atom) (a : Atom) (targets : List ℕ) (place : ℕ) → AreTargets b facts a targets → Contains targets place →
    IsFactOfName facts a.name place
target_is_fact b facts a targets place t i =
    let test = is_match a.name (length a.terms) t.key in
    let p = Contains-from_places_from test 0 facts place (subst (λ (ts : List ℕ). Contains ts place) t.are i) in
    let e = p.is in
    let same : p.index ≡ place = omega (arith, e) in
    record {
      fact = p.fact;
      at = subst (λ (k : ℕ). slice_get facts k ≡ Some p.fact) same p.at;
      named = (IsMatch-from_test a.name (length a.terms) t.key p.fact p.passes).name_is;
    }

pub target_named : (b : Bound) (facts : List Atom) (a fact : Atom) (targets : List ℕ) (place : ℕ) → AreTargets b facts a targets → Contains targets place →
    slice_get facts place ≡ Some fact → fact.name ≡ a.name
target_named b facts a fact targets place t i at =
    let f = target_is_fact b facts a targets place t i in
    ap (λ (x : Atom). x.name) (same_Some fact f.fact (sym at ∙ f.at)) ∙ f.named
