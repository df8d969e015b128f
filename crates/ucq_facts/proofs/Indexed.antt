-- An index of facts, and what it gives.
use Rattle.std.proofs.Common.{◌≡◌, ℕ, ◌+◌, ◌<◌, Bool, true, false, cond, List, [], ◌∷◌, ◌++◌, length, filter, All, Some, None, refl, sym, ap, ◌∙◌, subst, true≢false, arith}
use Rattle.std.proofs.lemmas.Option.{slice_get_within}
use Rattle.ucq_terms.specs.Syntax.{Atom}
use Rattle.ucq_facts.specs.declared.postings.Postings.{Postings}
use Rattle.ucq_facts.specs.declared.keys.Predicate.{Predicate}
use Rattle.ucq_facts.specs.declared.keys.Position.{Position}
use Rattle.ucq_facts.specs.Facts.{IsMatch, places_from}
use Rattle.ucq_facts.specs.Postings.{list_at, KeepsLists, IsPushed}
use Rattle.ucq_facts.specs.Index.{predicate_eq, position_eq, atoms_at, is_of, is_at, IsAt, IsIndexed, IsPushedBefore}
use Rattle.ucq_facts.proofs.Matching.{IsMatch-from_test, is_match-true}
use Rattle.ucq_facts.proofs.Places.{places_from-push, places_from-below, atoms_at-places}
use Rattle.ucq_facts.proofs.Pushed.{Decides-predicate_eq, list-pushed, list-other}

-- Room makes no difference to an index.
pub IsIndexed-keeps : (facts : List Atom) (p q : Postings Predicate) (s t : Postings Position) → KeepsLists predicate_eq p q → KeepsLists position_eq s t →
    IsIndexed facts p s → IsIndexed facts q t
IsIndexed-keeps facts p q s t f g i = record { predicates = λ key. f.lists key ∙ i.predicates key; terms = λ key. g.lists key ∙ i.terms key }

-- The facts at the places of a list are those that pass its test, and the places are below the number of facts.
pub places-give : (facts : List Atom) (test : Atom → Bool) (places : List ℕ) → places ≡ places_from test 0 facts → atoms_at facts places ≡ filter test facts
places-give facts test places e = ap (atoms_at facts) e ∙ atoms_at-places test facts

pub places-below : (facts : List Atom) (test : Atom → Bool) (places : List ℕ) → places ≡ places_from test 0 facts → All (λ place. place < length facts) places
places-below facts test places e =
    let below : All (λ place. place < length facts) (places_from test 0 facts) = λ k d l. let s = places_from-below test 0 facts k d l in omega (arith, s) in
    subst (λ (ps : List ℕ). All (λ place. place < length facts) ps) (sym e) below

-- One more fact.
module _ (facts : List Atom) (a : Atom) (number : ℕ) (p q : Postings Predicate) (s t : Postings Position) (indexed : IsIndexed facts p s)
    (last : number ≡ length facts) (pushed : IsPushed predicate_eq p (record { name = a.name; arity = length a.terms }) number q)
    (terms : IsPushedBefore s a (length a.terms) number t) where
  list_with : (test : Atom → Bool) (before after : List ℕ) → before ≡ places_from test 0 facts → (test a ≡ true → after ≡ before ++ number ∷ []) →
      (test a ≡ false → after ≡ before) → after ≡ places_from test 0 (facts ++ a ∷ [])
  list_with test before after e f g = go (test a) refl
    where
      go : (b : Bool) → test a ≡ b → after ≡ places_from test 0 (facts ++ a ∷ [])
      go true h =
          let n : number ≡ 0 + length facts = omega (arith, last) in
          let k = ap (λ (b : Bool). cond b (places_from test 0 facts ++ (0 + length facts) ∷ []) (places_from test 0 facts)) (sym h) in
          f h ∙ (ap (λ (xs : List ℕ). xs ++ number ∷ []) e ∙ (ap (λ (m : ℕ). places_from test 0 facts ++ m ∷ []) n ∙ (k ∙ sym (places_from-push test 0 facts a))))
      go false h =
          let k = ap (λ (b : Bool). cond b (places_from test 0 facts ++ (0 + length facts) ∷ []) (places_from test 0 facts)) (sym h) in
          g h ∙ (e ∙ (k ∙ sym (places_from-push test 0 facts a)))

  of_predicate : (key : Predicate) → is_of key a ≡ true → record { name = a.name; arity = length a.terms } ≡ key
  of_predicate key e =
      let m : IsMatch key.name key.arity None a = IsMatch-from_test key.name key.arity None a e in λ i. record { name = m.name_is i; arity = m.arity_is i }

  pub IsIndexed-push : IsIndexed (facts ++ a ∷ []) q t
  IsIndexed-push = record {
    predicates =
        λ key. list_with (is_of key) (list_at predicate_eq p key) (list_at predicate_eq q key) (indexed.predicates key)
        (λ e. subst (λ (k : Predicate). list_at predicate_eq q k ≡ list_at predicate_eq p k ++ number ∷ []) (of_predicate key e)
        (list-pushed predicate_eq Decides-predicate_eq p q (record { name = a.name; arity = length a.terms }) number pushed))
        (λ e. list-other predicate_eq Decides-predicate_eq p q (record { name = a.name; arity = length a.terms }) number pushed key
        (λ same. let r : is_of key a ≡ true = subst (λ (k : Predicate). is_of k a ≡ true) same
        (is_match-true a.name (length a.terms) None a (record { name_is = refl; arity_is = refl; bound_is = tt })) in
        true≢false (sym r ∙ e)));
    terms =
        λ key. list_with (is_at key) (list_at position_eq s key) (list_at position_eq t key) (indexed.terms key)
        (λ e. let m : IsAt key a = IsMatch-from_test key.name key.arity (Some (key.place, key.term)) a e in
        terms.done key m (slice_get_within a.terms key.place key.term m.bound_is))
        (λ e. terms.kept key (λ m. absurd (true≢false (sym (is_match-true key.name key.arity (Some (key.place, key.term)) a m) ∙ e))));
  }
