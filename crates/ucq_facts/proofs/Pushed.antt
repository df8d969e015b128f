-- Keys of facts, and the lists of keys after a push.
use Rattle.std.proofs.Common.{◌≡◌, ℕ, ◌+◌, ◌-◌, ◌<◌, ◌≤◌, Bool, true, false, cond, ◌&&◌, List, [], ◌∷◌, ◌++◌, length, take, length-append, slice_get, Some, refl, sym, ap, ◌∙◌, subst, ⊎_elim, true≢false, arith}
use Rattle.std.specs.Bool.{Decides}
use Rattle.std.specs.Prelude.{nat_eq}
use Rattle.std.specs.Cmp.{first_so, second_so, unsigned_Decides}
use Rattle.std.proofs.lemmas.Bool.{cases_order}
use Rattle.std.proofs.lemmas.List.{take_at}
use Rattle.ucq_terms.specs.declared.Term.{Term}
use Rattle.ucq_terms.specs.declared.Term.TheVariants.{Constant, Variable}
use Rattle.ucq_terms.specs.contracts.TermPartialEq.TheImpl as term_block
use Rattle.ucq_terms.specs.Numbering.{term_eq}
use Rattle.ucq_terms.specs.Equality.{Decides-term_eq}
use Rattle.ucq_terms.specs.Syntax.{Atom}
use Rattle.ucq_facts.specs.declared.postings.Postings.{Postings}
use Rattle.ucq_facts.specs.declared.keys.Predicate.{Predicate}
use Rattle.ucq_facts.specs.declared.keys.Position.{Position}
use Rattle.ucq_facts.specs.Postings.{list_at, KeepsLists, IsPushed, IsPopped}
use Rattle.ucq_facts.specs.Index.{predicate_eq, position_eq, IsAt, IsPushedBefore}

predicate_path : (j k : Predicate) → j.name ≡ k.name → j.arity ≡ k.arity → j ≡ k
predicate_path j k e f = λ i. record { name = e i; arity = f i }

position_path : (j k : Position) → j.name ≡ k.name → j.arity ≡ k.arity → j.place ≡ k.place → j.term ≡ k.term → j ≡ k
position_path j k e f g h = λ i. record { name = e i; arity = f i; place = g i; term = h i }

-- the test of terms
test_of_terms : Term → Term → Bool
test_of_terms = (term_block.ghosts).eq

same_tests : (s t : Term) → test_of_terms s t ≡ term_eq s t
unfolding test_of_terms
same_tests (Constant a) (Constant b) = refl
same_tests (Constant a) (Variable b) = refl
same_tests (Variable a) (Constant b) = refl
same_tests (Variable a) (Variable b) = refl

both : (s t : Bool) → s ≡ true → t ≡ true → (s && t) ≡ true
both s t p q = λ i. p i && q i

-- Equality of keys is decided by the test.
pub Decides-predicate_eq : (j k : Predicate) → Decides (predicate_eq j k) (j ≡ k)
Decides-predicate_eq j k =
    let name = nat_eq j.name k.name in
    let arity = nat_eq j.arity k.arity in (
      λ e. predicate_path j k ((unsigned_Decides j.name k.name).0 (first_so name arity e)) ((unsigned_Decides j.arity k.arity).0 (second_so name arity e)),
      λ e. both name arity ((unsigned_Decides j.name k.name).1 (ap (λ (x : Predicate). x.name) e))
          ((unsigned_Decides j.arity k.arity).1 (ap (λ (x : Predicate). x.arity) e)),
    )

pub Decides-position_eq : (j k : Position) → Decides (position_eq j k) (j ≡ k)
unfolding test_of_terms
Decides-position_eq j k =
    let name = nat_eq j.name k.name in
    let arity = nat_eq j.arity k.arity in
    let place = nat_eq j.place k.place in
    let term = test_of_terms j.term k.term in (
      λ e. let f = second_so name (arity && (place && term)) e in
          let g = second_so arity (place && term) f in
          position_path j k ((unsigned_Decides j.name k.name).0 (first_so name (arity && (place && term)) e))
          ((unsigned_Decides j.arity k.arity).0 (first_so arity (place && term) f)) ((unsigned_Decides j.place k.place).0 (first_so place term g))
          ((Decides-term_eq j.term k.term).0 (sym (same_tests j.term k.term) ∙ second_so place term g)),
      λ e. both name (arity && (place && term)) ((unsigned_Decides j.name k.name).1 (ap (λ (x : Position). x.name) e))
          (both arity (place && term) ((unsigned_Decides j.arity k.arity).1 (ap (λ (x : Position). x.arity) e))
          (both place term ((unsigned_Decides j.place k.place).1 (ap (λ (x : Position). x.place) e))
          (same_tests j.term k.term ∙ (Decides-term_eq j.term k.term).1 (ap (λ (x : Position). x.term) e)))),
    )

-- a fact has one key at a place
pub same_key : (j k : Position) (a : Atom) → IsAt j a → IsAt k a → j.place ≡ k.place → j ≡ k
same_key j k a m n e =
    let t : Some j.term ≡ Some k.term = sym m.bound_is ∙ (ap (slice_get a.terms) e ∙ n.bound_is) in
    position_path j k (sym m.name_is ∙ n.name_is) (sym m.arity_is ∙ n.arity_is) e cc

not_true : (b : Bool) → (b ≡ true → ⊥) → b ≡ false
not_true true h = absurd (h refl)
not_true false h = refl

-- After a push the key has one more place, and each other key has its list.
module _ {K : Type 0} (eq : K → K → Bool) (decides : (j k : K) → Decides (eq j k) (j ≡ k)) (before after : Postings K) (key : K) (number : ℕ)
    (pushed : IsPushed eq before key number after) where
  pub list-pushed : list_at eq after key ≡ list_at eq before key ++ number ∷ []
  list-pushed =
      let e : eq key key ≡ true = (decides key key).1 refl in
      pushed.lists key ∙ ap (λ (b : Bool). cond b (list_at eq before key ++ number ∷ []) (list_at eq before key)) e

  pub list-other : (other : K) → ¬ (key ≡ other) → list_at eq after other ≡ list_at eq before other
  list-other other n =
      let e : eq key other ≡ false = not_true (eq key other) (λ t. n ((decides key other).0 t)) in
      pushed.lists other ∙ ap (λ (b : Bool). cond b (list_at eq before other ++ number ∷ []) (list_at eq before other)) e

-- One more key of the fact takes the number.
module _ (first p q : Postings Position) (a : Atom) (place number : ℕ) (key : Position) (at : IsAt key a) (is : key.place ≡ place)
    (before : IsPushedBefore first a place number p) (pushed : IsPushed position_eq p key number q) where
  pub IsPushedBefore-next : IsPushedBefore first a (place + 1) number q
  IsPushedBefore-next = record {
    done =
        λ other m l. ⊎_elim
        (λ (e : other.place ≡ place). let same : key ≡ other = same_key key other a at m (is ∙ sym e) in
        let old : list_at position_eq p key ≡ list_at position_eq first key = before.kept key (λ _. omega (arith, is)) in
        subst (λ (k : Position). list_at position_eq q k ≡ list_at position_eq first k ++ number ∷ []) same
        (list-pushed position_eq Decides-position_eq p q key number pushed ∙ ap (λ (xs : List ℕ). xs ++ number ∷ []) old))
        (λ n. let apart : ¬ (key ≡ other) = λ e. ⊎_elim (λ (k : other.place < place). let s = ap (λ (x : Position). x.place) e in omega (arith, s, is))
        (λ (k : place < other.place). omega arith) n in
        list-other position_eq Decides-position_eq p q key number pushed other apart ∙ before.done other m
        (⊎_elim (λ k. k) (λ k. absurd (omega arith)) n)) (cases_order other.place place);
    kept =
        λ other m. let apart : ¬ (key ≡ other) = λ e. let far = m (subst (λ (k : Position). IsAt k a) e at) in
        let s = ap (λ (x : Position). x.place) e in omega (arith, far, s, is) in
        list-other position_eq Decides-position_eq p q key number pushed other apart ∙ before.kept other (λ n. let far = m n in omega (arith, far));
  }

pub IsPushedBefore-none : (p : Postings Position) (a : Atom) (number : ℕ) → IsPushedBefore p a 0 number p
IsPushedBefore-none p a number = record { done = λ key m l. absurd (omega (arith, l)); kept = λ key m. refl }

pub IsPushedBefore-keeps : (first p q : Postings Position) (a : Atom) (place number : ℕ) → IsPushedBefore first a place number p → KeepsLists position_eq p q → IsPushedBefore first a place number q
IsPushedBefore-keeps first p q a place number before keeps = record {
  done = λ key m l. keeps.lists key ∙ before.done key m l;
  kept = λ key m. keeps.lists key ∙ before.kept key m;
}

-- where no key of the fact took the number, all lists are kept
pub IsPushedBefore-kept : (p q : Postings Position) (a : Atom) (number : ℕ) → IsPushedBefore p a 0 number q → KeepsLists position_eq p q
IsPushedBefore-kept p q a number before = record { lists = λ key. before.kept key (λ _. omega arith) }

front : (xs : List ℕ) (n : ℕ) → take (length (xs ++ n ∷ []) - 1) (xs ++ n ∷ []) ≡ xs
front xs n = let size : length (xs ++ n ∷ []) - 1 ≡ length xs = omega (arith, length-append xs (n ∷ [])) in take_at xs (n ∷ []) (length (xs ++ n ∷ []) - 1) (sym size)

-- The key that took the number last gives it back.
module _ (first p q : Postings Position) (a : Atom) (place number : ℕ) (key : Position) (at : IsAt key a) (is : key.place ≡ place)
    (before : IsPushedBefore first a (place + 1) number p) (popped : IsPopped position_eq p key q) where
  list-popped : list_at position_eq q key ≡ list_at position_eq first key
  list-popped =
      let e : position_eq key key ≡ true = (Decides-position_eq key key).1 refl in
      let old : list_at position_eq p key ≡ list_at position_eq first key ++ number ∷ [] = before.done key at (omega (arith, is)) in
      popped.lists key ∙ (ap (λ (b : Bool). cond b (take (length (list_at position_eq p key) - 1) (list_at position_eq p key)) (list_at position_eq p key)) e
      ∙ (ap (λ (xs : List ℕ). take (length xs - 1) xs) old ∙ front (list_at position_eq first key) number))

  list-left : (other : Position) → ¬ (key ≡ other) → list_at position_eq q other ≡ list_at position_eq p other
  list-left other n =
      let e : position_eq key other ≡ false = not_true (position_eq key other) (λ t. n ((Decides-position_eq key other).0 t)) in
      popped.lists other ∙ ap (λ (b : Bool). cond b (take (length (list_at position_eq p other) - 1) (list_at position_eq p other)) (list_at position_eq p other)) e

  pub IsPushedBefore-back : IsPushedBefore first a place number q
  IsPushedBefore-back = record {
    done =
        λ other m l. let apart : ¬ (key ≡ other) = λ e. let s = ap (λ (x : Position). x.place) e in omega (arith, l, s, is) in
        list-left other apart ∙ before.done other m (omega (arith, l));
    kept = λ other m. go other m (position_eq key other) refl;
  }
    where
      go : (other : Position) → (IsAt other a → place ≤ other.place) → (b : Bool) → position_eq key other ≡ b → list_at position_eq q other ≡ list_at position_eq first other
      go other m true e = subst (λ (k : Position). list_at position_eq q k ≡ list_at position_eq first k) ((Decides-position_eq key other).0 e) list-popped
      go other m false e =
          let apart : ¬ (key ≡ other) = λ s. true≢false (sym ((Decides-position_eq key other).1 s) ∙ e) in
          list-left other apart ∙ before.kept other (λ i. let far = m i in
          ⊎_elim (λ (s : other.place ≡ place). absurd (apart (same_key key other a at i (is ∙ sym s))))
          (λ n. ⊎_elim (λ (k : other.place < place). absurd (omega (arith, far))) (λ (k : place < other.place). omega arith) n) (cases_order other.place place))
