-- Terms matched onto targets, one after another.
use Rattle.std.proofs.Common.{◌≡◌, ℕ, zero, suc, ◌+◌, ◌<◌, List, [], ◌∷◌, ◌++◌, length, map, take, set, get_or, Option, Some, None, Contains, refl, sym, ap, ap₂, ◌∙◌, subst, inl, inr, arith}
use Rattle.std.specs.Option.{IsSome}
use Rattle.std.proofs.lemmas.Bool.{cases_eq}
use Rattle.std.proofs.lemmas.List.{take_more, get_or-set_same, length-map}
use Rattle.std.proofs.lemmas.List.Elements.{Contains-append_left, Contains-append_right, Contains-append_cases}
use Rattle.ucq_terms.specs.declared.Term.{Term}
use Rattle.ucq_terms.specs.declared.Term.TheVariants.{Variable}
use Rattle.ucq_terms.specs.Syntax.{Atom, term_image}
use Rattle.ucq_terms.proofs.Lists.{Contains-first, Contains-cons_cases, Contains-empty}
use Rattle.ucq_hom.specs.Space.{image}
use Rattle.ucq_hom.specs.Bindings.{Bound, Extends, Grown, with_binding, IsMatched, IsClash}
use Rattle.ucq_hom.specs.Search.{IsAtomClash}
use Rattle.ucq_hom.proofs.Trail.{Grown-refl, Grown-bind, Grown-kept, Grown-trans, image_other}

-- A map that agrees with more agrees with less.
pub Extends-less : (a b : Bound) (h : ℕ → Term) → Grown a b → Extends h b → Extends h a
Extends-less a b h g e = record { agrees = λ v t i. e.agrees v t (Grown-kept a b v t g i) }

pub the_value : {X : Type 0} {o : Option X} → IsSome o → (x : X) × (o ≡ Some x)
the_value {X} {o} s = go o s
  where
    go : (o : Option X) → IsSome o → (x : X) × (o ≡ Some x)
    go None s = cc
    go (Some x) s = (x, refl)

pub no_value : {X : Type 0} (o : Option X) → ¬ IsSome o → o ≡ None
no_value None n = refl
no_value (Some x) n = absurd (n refl)

pub IsSome-grown : (a b : Bound) (v : ℕ) → Grown a b → IsSome (image a.images v) → IsSome (image b.images v)
IsSome-grown a b v g s = let (t, e) = the_value s in subst (λ (x : Option Term). IsSome x) (sym (Grown-kept a b v t g e)) refl

-- nothing to match
pub IsMatched-nothing : (b : Bound) → IsMatched b b [] []
IsMatched-nothing b = record {
  grown = Grown-refl b;
  carried = λ h e. refl;
  forced = λ h e q. e;
  bound = λ v i. absurd (Contains-empty (Variable v) i);
  no_more = λ v s. inl s;
}

-- a free variable takes the target
pub IsMatched-bind : (b : Bound) (v : ℕ) (t : Term) → v < length b.images → image b.images v ≡ None → IsMatched b (with_binding b v t) (Variable v ∷ []) (t ∷ [])
IsMatched-bind b v t l n =
    let here : image (set b.images v (Some t)) v ≡ Some t = get_or-set_same b.images v (Some t) None l in
    record {
      grown = Grown-bind b v t n;
      carried = λ h e. ap (λ x. x ∷ []) (e.agrees v t here);
      forced = λ h e q. record {
        agrees = λ w s i. elim (cases_eq w v) [
          | inl p ↦
              let j : image (set b.images v (Some t)) v ≡ Some s = ap (image (set b.images v (Some t))) (sym p) ∙ i in
              let k : t ≡ s = cc in
              let m : h v ≡ t = cc in
              ap h p ∙ (m ∙ k)
          | inr p ↦ e.agrees w s (sym (image_other b.images v w (Some t) p) ∙ i)
        ];
      };
      bound = λ w i. elim (Contains-cons_cases (Variable v) [] (Variable w) i) [
        | inl p ↦ let q : v ≡ w = cc in subst (λ (x : ℕ). IsSome (image (set b.images v (Some t)) x)) q (subst (λ (x : Option Term). IsSome x) (sym here) refl)
        | inr c ↦ absurd (Contains-empty (Variable w) c)
      ];
      no_more = λ w s. elim (cases_eq w v) [
        | inl p ↦ inr (subst (λ (x : ℕ). Contains (Variable v ∷ []) (Variable x)) (sym p) (Contains-first (Variable v) []))
        | inr p ↦ inl (subst (λ (x : Option Term). IsSome x) (image_other b.images v w (Some t) p) s)
      ];
    }

-- what a list of terms is carried to, by its parts
map-append : {X Y : Type 0} (f : X → Y) (xs ys : List X) → map f (xs ++ ys) ≡ map f xs ++ map f ys
map-append f [] ys = refl
map-append f (x ∷ xs) ys = ap (λ l. f x ∷ l) (map-append f xs ys)

map-push_apart : {X Y : Type 0} (f : X → Y) (xs : List X) (ys : List Y) (x : X) (y : Y) → length xs ≡ length ys → map f (xs ++ x ∷ []) ≡ ys ++ y ∷ [] →
    (map f xs ≡ ys) × (f x ∷ [] ≡ y ∷ [])
map-push_apart f [] [] x y l e = (refl, e)
map-push_apart f [] (w ∷ ys) x y l e = absurd (omega arith)
map-push_apart f (z ∷ xs) [] x y l e = absurd (omega arith)
map-push_apart f (z ∷ xs) (w ∷ ys) x y l e =
    let a : f z ≡ w = cc in
    let b : map f (xs ++ x ∷ []) ≡ ys ++ y ∷ [] = cc in
    let (p, q) = map-push_apart f xs ys x y (omega arith) b in
    (ap₂ (λ u us. u ∷ us) a p, q)

-- one term more
pub IsMatched-push : (a b c : Bound) (ts us : List Term) (t u : Term) → length ts ≡ length us → IsMatched a b ts us → IsMatched b c (t ∷ []) (u ∷ []) →
    IsMatched a c (ts ++ t ∷ []) (us ++ u ∷ [])
IsMatched-push a b c ts us t u l m n = record {
  grown = Grown-trans a b c m.grown n.grown;
  carried =
      λ h e. map-append (term_image h) ts (t ∷ []) ∙
      ap₂ (λ (xs ys : List Term). xs ++ ys) (m.carried h (Extends-less b c h n.grown e)) (n.carried h e);
  forced = λ h e q. let (p, r) = map-push_apart (term_image h) ts us t u l q in n.forced h (m.forced h e p) r;
  bound = λ v i. elim (Contains-append_cases ts (t ∷ []) (Variable v) i) [
    | inl j ↦ IsSome-grown b c v n.grown (m.bound v j)
    | inr j ↦ n.bound v j
  ];
  no_more = λ v s. elim (n.no_more v s) [
    | inl r ↦ elim (m.no_more v r) [ inl x ↦ inl x | inr j ↦ inr (Contains-append_left ts (t ∷ []) (Variable v) j) ]
    | inr j ↦ inr (Contains-append_right ts (t ∷ []) (Variable v) j)
  ];
}

pub IsMatched-more : (a b c : Bound) (ts us : List Term) (i : ℕ) (d e : Term) → length ts ≡ length us → i < length ts → IsMatched a b (take i ts) (take i us) →
    IsMatched b c (get_or ts i d ∷ []) (get_or us i e ∷ []) → IsMatched a c (take (i + 1) ts) (take (i + 1) us)
IsMatched-more a b c ts us i d e l m p q =
    let n : i < length us = omega arith in
    let k : length (take i ts) ≡ length (take i us) = length-take_same i ts us l in
    subst (λ (x : List Term). IsMatched a c x (take (i + 1) us)) (sym (take_more ts i d m))
    (subst (λ (x : List Term). IsMatched a c (take i ts ++ get_or ts i d ∷ []) x) (sym (take_more us i e n))
    (IsMatched-push a b c (take i ts) (take i us) (get_or ts i d) (get_or us i e) k p q))
  where
    length-take_same : (i : ℕ) (ts us : List Term) → length ts ≡ length us → length (take i ts) ≡ length (take i us)
    length-take_same zero ts us l = refl
    length-take_same (suc i) [] [] l = refl
    length-take_same (suc i) [] (u ∷ us) l = absurd (omega arith)
    length-take_same (suc i) (t ∷ ts) [] l = absurd (omega arith)
    length-take_same (suc i) (t ∷ ts) (u ∷ us) l = ap suc (length-take_same i ts us (omega arith))

map-take_at : {X Y : Type 0} (f : X → Y) (xs : List X) (ys : List Y) (i : ℕ) (d : X) (e : Y) → i < length xs → map f xs ≡ ys →
    (map f (take i xs) ≡ take i ys) × (f (get_or xs i d) ∷ [] ≡ get_or ys i e ∷ [])
map-take_at f [] ys i d e l q = absurd (omega arith)
map-take_at f (x ∷ xs) [] i d e l q = cc
map-take_at f (x ∷ xs) (y ∷ ys) zero d e l q = (refl, let a : f x ≡ y = cc in ap (λ z. z ∷ []) a)
map-take_at f (x ∷ xs) (y ∷ ys) (suc i) d e l q =
    let a : f x ≡ y = cc in
    let b : map f xs ≡ ys = cc in
    let (p, r) = map-take_at f xs ys i d e (omega arith) b in
    (ap₂ (λ u us. u ∷ us) a p, r)

-- one term that clashes refuses the whole
pub IsClash-at : (a b : Bound) (ts us : List Term) (i : ℕ) (d e : Term) → i < length ts → IsMatched a b (take i ts) (take i us) →
    IsClash b (get_or ts i d ∷ []) (get_or us i e ∷ []) → IsClash a ts us
IsClash-at a b ts us i d e l m k = record {
  none = λ h x q. let (p, r) = map-take_at (term_image h) ts us i d e l q in k.none h (m.forced h x p) r;
}

pub IsClash-length : (a : Bound) (ts us : List Term) → ¬ (length ts ≡ length us) → IsClash a ts us
IsClash-length a ts us n = record { none = λ h x q. n (sym (length-map ts (term_image h)) ∙ ap length q) }

-- atoms
pub IsAtomClash-name : (b : Bound) (x y : Atom) → ¬ (x.name ≡ y.name) → IsAtomClash b x y
IsAtomClash-name b x y n = record { none = λ h e q. n (ap (λ (a : Atom). a.name) q) }

pub IsAtomClash-terms : (b : Bound) (x y : Atom) → IsClash b x.terms y.terms → IsAtomClash b x y
IsAtomClash-terms b x y k = record { none = λ h e q. k.none h e (ap (λ (a : Atom). a.terms) q) }
