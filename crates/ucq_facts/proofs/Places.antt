-- Places of facts in a list, and the facts at places.
use Rattle.std.proofs.Common.{◌≡◌, ℕ, suc, ◌+◌, ◌<◌, Bool, true, false, cond, List, [], ◌∷◌, ◌++◌, length, filter, All, slice_get, get_or, Option, Some, refl, sym, ap, ◌∙◌, subst, arith}
use Rattle.std.specs.Prelude.{if◌then◌else◌}
use Rattle.std.specs.List.{cons_option}
use Rattle.std.proofs.lemmas.List.Elements.{All-nil, All-cons, All-head, All-tail}
use Rattle.std.proofs.lemmas.Option.{slice_get-get_or}
use Rattle.ucq_terms.specs.Syntax.{Atom}
use Rattle.ucq_facts.specs.Facts.{places_from}
use Rattle.ucq_facts.specs.Index.{atoms_at}

-- The facts at a place and at further ones.
pub atoms_at-cons : (facts : List Atom) (place : ℕ) (places : List ℕ) (a : Atom) → slice_get facts place ≡ Some a →
    atoms_at facts (place ∷ places) ≡ a ∷ atoms_at facts places
atoms_at-cons facts place places a e = ap (λ (o : Option Atom). cons_option o (atoms_at facts places)) e

pub atoms_at-first : (facts : List Atom) (place : ℕ) (places : List ℕ) (d : Atom) → place < length facts →
    atoms_at facts (place ∷ places) ≡ get_or facts place d ∷ atoms_at facts places
atoms_at-first facts place places d l = atoms_at-cons facts place places (get_or facts place d) (slice_get-get_or facts place d l)

-- a fact at each place, where all are there
length-atoms_at : (facts : List Atom) (places : List ℕ) → All (λ place. place < length facts) places → length places ≡ length (atoms_at facts places)
length-atoms_at facts [] h = refl
length-atoms_at facts (place ∷ places) h =
    let e = atoms_at-first facts place places (record { name = 0; terms = [] }) (All-head (λ p. p < length facts) place places h) in
    let r = length-atoms_at facts places (All-tail (λ p. p < length facts) place places h) in
    ap suc r ∙ ap (λ (xs : List Atom). length xs) (sym e)

pub length-left : (facts : List Atom) (places : List ℕ) (left : List Atom) → All (λ place. place < length facts) places → atoms_at facts places ≡ left →
    length places ≡ length left
length-left facts places left h e = length-atoms_at facts places h ∙ ap (λ (xs : List Atom). length xs) e

-- Places that are counted from a number are below the end.
pub places_from-below : (test : Atom → Bool) (n : ℕ) (facts : List Atom) → All (λ place. place < n + length facts) (places_from test n facts)
places_from-below test n [] = All-nil (λ place. place < n + 0)
places_from-below test n (a ∷ facts) =
    let r : All (λ place. place < n + length (a ∷ facts)) (places_from test (n + 1) facts) =
    λ k d l. let s = places_from-below test (n + 1) facts k d l in omega (arith, s) in
    go (test a) r
  where
    go : (b : Bool) → All (λ place. place < n + length (a ∷ facts)) (places_from test (n + 1) facts) →
        All (λ place. place < n + length (a ∷ facts)) (cond b (n ∷ places_from test (n + 1) facts) (places_from test (n + 1) facts))
    go true r = All-cons (λ place. place < n + length (a ∷ facts)) n (places_from test (n + 1) facts) (omega arith) r
    go false r = r

-- The facts at the places of those that pass a test are those that pass.
atoms_at-places_after : (test : Atom → Bool) (all : List Atom) (n : ℕ) (facts : List Atom) →
    ((i : ℕ) → slice_get all (n + i) ≡ slice_get facts i) → atoms_at all (places_from test n facts) ≡ filter test facts
atoms_at-places_after test all n [] h = refl
atoms_at-places_after test all n (a ∷ facts) h =
    let start : n ≡ n + 0 = omega arith in
    let here : slice_get all n ≡ Some a = ap (slice_get all) start ∙ h 0 in
    let rest : (i : ℕ) → slice_get all (n + 1 + i) ≡ slice_get facts i =
    λ i. let e : n + 1 + i ≡ n + suc i = omega arith in ap (slice_get all) e ∙ h (suc i) in
    let r = atoms_at-places_after test all (n + 1) facts rest in
    go (test a) here r
  where
    go : (b : Bool) → slice_get all n ≡ Some a → atoms_at all (places_from test (n + 1) facts) ≡ filter test facts →
        atoms_at all (cond b (n ∷ places_from test (n + 1) facts) (places_from test (n + 1) facts)) ≡ cond b (a ∷ filter test facts) (filter test facts)
    go true here r = atoms_at-cons all n (places_from test (n + 1) facts) a here ∙ ap (λ (xs : List Atom). a ∷ xs) r
    go false here r = r

pub atoms_at-places : (test : Atom → Bool) (facts : List Atom) → atoms_at facts (places_from test 0 facts) ≡ filter test facts
atoms_at-places test facts = atoms_at-places_after test facts 0 facts (λ i. let e : 0 + i ≡ i = omega arith in ap (slice_get facts) e)

-- One more fact has the last place.
pub places_from-push : (test : Atom → Bool) (n : ℕ) (facts : List Atom) (a : Atom) →
    places_from test n (facts ++ a ∷ []) ≡ (if test a then places_from test n facts ++ (n + length facts) ∷ [] else places_from test n facts)
places_from-push test n [] a = go (test a)
  where
    go : (b : Bool) → cond b (n ∷ []) [] ≡ cond b ((n + 0) ∷ []) []
    go true = let e : n ≡ n + 0 = omega arith in ap (λ (k : ℕ). k ∷ []) e
    go false = refl
places_from-push test n (x ∷ facts) a =
    let r = places_from-push test (n + 1) facts a in
    let e : n + 1 + length facts ≡ n + length (x ∷ facts) = omega arith in
    let s = subst (λ (k : ℕ). places_from test (n + 1) (facts ++ a ∷ []) ≡
    cond (test a) (places_from test (n + 1) facts ++ k ∷ []) (places_from test (n + 1) facts)) e r in
    go (test x) (test a) s
  where
    go : (b c : Bool) → places_from test (n + 1) (facts ++ a ∷ []) ≡
        cond c (places_from test (n + 1) facts ++ (n + length (x ∷ facts)) ∷ []) (places_from test (n + 1) facts) →
        cond b (n ∷ places_from test (n + 1) (facts ++ a ∷ [])) (places_from test (n + 1) (facts ++ a ∷ [])) ≡
        cond c (cond b (n ∷ places_from test (n + 1) facts) (places_from test (n + 1) facts) ++ (n + length (x ∷ facts)) ∷ [])
        (cond b (n ∷ places_from test (n + 1) facts) (places_from test (n + 1) facts))
    go true true s = ap (λ (xs : List ℕ). n ∷ xs) s
    go true false s = ap (λ (xs : List ℕ). n ∷ xs) s
    go false true s = s
    go false false s = s

-- The first of the facts that are left is at the first of the places that are left.
pub left-first : (facts : List Atom) (places : List ℕ) (left : List Atom) (place : ℕ) (others : List ℕ) (d : Atom) →
    All (λ p. p < length facts) places → atoms_at facts places ≡ left → places ≡ place ∷ others → left ≡ get_or facts place d ∷ atoms_at facts others
left-first facts places left place others d h e is =
    let inside = All-head (λ p. p < length facts) place others (subst (λ (ps : List ℕ). All (λ p. p < length facts) ps) is h) in
    sym e ∙ (ap (atoms_at facts) is ∙ atoms_at-first facts place others d inside)
