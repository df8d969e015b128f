-- The facts that match, by what a match is.
use Rattle.std.proofs.Common.{◌≡◌, ℕ, Bool, true, false, ◌&&◌, List, Contains, slice_get, Option, Some, None, refl, sym, ap, ◌∙◌, true≢false}
use Rattle.std.specs.Prelude.{nat_eq, length, IfSome}
use Rattle.std.specs.Cmp.{first_so, second_so, unsigned_Decides}
use Rattle.std.specs.Option.{option_map_or}
use Rattle.ucq_terms.specs.declared.Term.{Term}
use Rattle.ucq_terms.specs.Syntax.{Atom}
use Rattle.ucq_terms.specs.Numbering.{term_eq}
use Rattle.ucq_terms.specs.Equality.{Decides-term_eq}
use Rattle.ucq_terms.proofs.Lists.{Contains-filter, Contains-from_filter}
use Rattle.ucq_facts.specs.Facts.{IsMatch, is_bound, is_match, matching}

both : (s t : Bool) → s ≡ true → t ≡ true → (s && t) ≡ true
both s t p q = λ i. p i && q i

-- The test of a term at a place is true exactly where it stands there.
found_at : (t : Term) (o : Option Term) → option_map_or (term_eq t) o false ≡ true → o ≡ Some t
found_at t None e = absurd (true≢false (sym e))
found_at t (Some s) e = ap Some (sym ((Decides-term_eq t s).0 e))

is_found : (t : Term) (o : Option Term) → o ≡ Some t → option_map_or (term_eq t) o false ≡ true
is_found t o e = ap (λ (x : Option Term). option_map_or (term_eq t) x false) e ∙ (Decides-term_eq t t).1 refl

-- The test of a match is true exactly at matches.
pub IsMatch-from_test : (name arity : ℕ) (bound : Option (ℕ × Term)) (a : Atom) → is_match name arity bound a ≡ true → IsMatch name arity bound a
IsMatch-from_test name arity bound a e =
    let s = nat_eq a.name name in
    let t = nat_eq (length a.terms) arity in
    let u = is_bound bound a.terms in
    let r : (t && u) ≡ true = second_so s (t && u) e in
    record {
      name_is = (unsigned_Decides a.name name).0 (first_so s (t && u) e);
      arity_is = (unsigned_Decides (length a.terms) arity).0 (first_so t u r);
      bound_is = go bound (second_so t u r);
    }
  where
    go : (b : Option (ℕ × Term)) → is_bound b a.terms ≡ true → IfSome b (λ p. slice_get a.terms p.0 ≡ Some p.1)
    go None h = tt
    go (Some p) h = found_at p.1 (slice_get a.terms p.0) h

pub is_match-true : (name arity : ℕ) (bound : Option (ℕ × Term)) (a : Atom) → IsMatch name arity bound a → is_match name arity bound a ≡ true
is_match-true name arity bound a m =
    let s = nat_eq a.name name in
    let t = nat_eq (length a.terms) arity in
    let u = is_bound bound a.terms in
    both s (t && u) ((unsigned_Decides a.name name).1 m.name_is) (both t u ((unsigned_Decides (length a.terms) arity).1 m.arity_is) (go bound m.bound_is))
  where
    go : (b : Option (ℕ × Term)) → IfSome b (λ p. slice_get a.terms p.0 ≡ Some p.1) → is_bound b a.terms ≡ true
    go None h = refl
    go (Some p) h = is_found p.1 (slice_get a.terms p.0) h

-- A fact that is held and matches is one of the facts that match, and no other is.
pub Contains-matching : (facts : List Atom) (name arity : ℕ) (bound : Option (ℕ × Term)) (a : Atom) →
    Contains facts a → IsMatch name arity bound a → Contains (matching facts name arity bound) a
Contains-matching facts name arity bound a i m = Contains-filter (is_match name arity bound) facts a i (is_match-true name arity bound a m)

pub Contains-from_matching : (facts : List Atom) (name arity : ℕ) (bound : Option (ℕ × Term)) (a : Atom) →
    Contains (matching facts name arity bound) a → Contains facts a × IsMatch name arity bound a
Contains-from_matching facts name arity bound a i =
    let r = Contains-from_filter (is_match name arity bound) facts a i in (r.0, IsMatch-from_test name arity bound a r.1)
