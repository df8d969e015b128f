-- Tuples that maps give which agree with what is bound.
use Rattle.std.proofs.Common.{◌≡◌, ℕ, ◌<◌, List, [], ◌∷◌, ◌++◌, length, map, Option, Some, None, Contains, ◌⊎◌, refl, sym, ap, ap₂, ◌∙◌, subst, inl, inr, arith}
use Rattle.std.proofs.lemmas.List.{length-map}
use Rattle.std.proofs.lemmas.List.Elements.{Contains-append_cases, Contains-append_left, Contains-append_right}
use Rattle.std.specs.Option.{option_map}
use Rattle.std.proofs.lemmas.Option.{slice_get-map}
use Rattle.ucq_terms.specs.declared.Term.{Term}
use Rattle.ucq_terms.specs.declared.Term.TheVariants.{Constant, Variable}
use Rattle.ucq_terms.specs.Syntax.{Atom, Query, term_image, terms_image, atom_image}
use Rattle.ucq_terms.specs.Homomorphism.{MapsInto}
use Rattle.ucq_terms.specs.Unifier.{atom_at}
use Rattle.ucq_terms.proofs.Decide.{atom_path}
use Rattle.ucq_terms.proofs.Images.{IsSubset-from_image}
use Rattle.ucq_terms.proofs.Lists.{Contains-first, Contains-rest, Contains-cons_cases, Contains-empty, Contains-map, Contains-from_map, length-positive}
use Rattle.ucq_terms.proofs.Places.{place_of}
use Rattle.ucq_terms.proofs.Subsets.{OccursIn-atom}
use Rattle.ucq_terms.specs.Query.{IsStored}
use Rattle.ucq_hom.specs.Space.{image, mapping, IsClear}
use Rattle.ucq_hom.specs.Bindings.{Bound, Extends, IsMatched, IsClash}
use Rattle.ucq_hom.specs.Search.{Sends, IsOrder}
use Rattle.ucq_hom.proofs.Homs.{Extends-clear, Extends-mapping, Sends-homomorphism}
use Rattle.ucq_hom.proofs.Matched.{Extends-less, IsSome-grown, the_value}
use Rattle.ucq_facts.specs.Facts.{IsMatch, matching}
use Rattle.ucq_facts.proofs.Matching.{Contains-matching, Contains-from_matching}
use Rattle.ucq_eval.specs.inner.Join.{SendsToTuple, GivesBy, value, HasUnknown, TellsTuple, TellsNone, AreReached, HasSamePlaces, IsKey}

-- a map that agrees with what is bound carries a term to what is bound to it
pub value-image : (h : ℕ → Term) (b : Bound) (t s : Term) → Extends h b → value b t ≡ Some s → term_image h t ≡ s
value-image h b (Constant c) s e q = cc
value-image h b (Variable v) s e q = e.agrees v s q

-- tuples of constants
constants_apart : (xs ys : List ℕ) → map Constant xs ≡ map Constant ys → xs ≡ ys
constants_apart [] [] e = refl
constants_apart [] (y ∷ ys) e = cc
constants_apart (x ∷ xs) [] e = cc
constants_apart (x ∷ xs) (y ∷ ys) e =
    let a : x ≡ y = cc in
    let b : map Constant xs ≡ map Constant ys = cc in
    ap₂ (λ z zs. z ∷ zs) a (constants_apart xs ys b)

constants_of : (h : ℕ → Term) (b : Bound) (terms : List Term) (tuple : List ℕ) → Extends h b → map (value b) terms ≡ map (λ (c : ℕ). Some (Constant c)) tuple →
    terms_image h terms ≡ map Constant tuple
constants_of h b [] [] e q = refl
constants_of h b [] (c ∷ cs) e q = cc
constants_of h b (t ∷ ts) [] e q = cc
constants_of h b (t ∷ ts) (c ∷ cs) e q =
    let first : value b t ≡ Some (Constant c) = cc in
    let rest : map (value b) ts ≡ map (λ (c : ℕ). Some (Constant c)) cs = cc in
    ap₂ (λ (z : Term) zs. z ∷ zs) (value-image h b t (Constant c) e first) (constants_of h b ts cs e rest)

-- an unknown value among the answers rules all tuples out
pub none_by_unknown : (b : Bound) (q : Query) (places : List ℕ) (facts : List Atom) (tuple : List ℕ) → HasUnknown b q.answers → SendsToTuple b q places facts tuple → ⊥
none_by_unknown b q places facts tuple u g =
    let stands : Contains (map Constant tuple) (term_image g.mapping u.term) =
    subst (λ (ts : List Term). Contains ts (term_image g.mapping u.term)) g.answers (Contains-map (term_image g.mapping) q.answers u.term u.among) in
    let (c, i, e) = Contains-from_map Constant tuple (term_image g.mapping u.term) stands in
    let bad : Constant c ≡ Variable u.unknown = e ∙ value-image g.mapping b u.term (Variable u.unknown) g.extends u.bound in
    cc

-- where the answers are read, no other tuple is given, and it is where there is no place
pub read_alone : (b : Bound) (q : Query) (places : List ℕ) (facts : List Atom) (tuple other : List ℕ) → TellsTuple b q.answers tuple → SendsToTuple b q places facts other →
    other ≡ tuple
read_alone b q places facts tuple other r g = constants_apart other tuple (sym g.answers ∙ constants_of g.mapping b q.answers tuple g.extends r.each)

pub SendsToTuple-read : (b : Bound) (q : Query) (places : List ℕ) (facts : List Atom) (tuple : List ℕ) → TellsTuple b q.answers tuple → length places ≡ 0 →
    SendsToTuple b q places facts tuple
SendsToTuple-read b q places facts tuple r z = record {
  mapping = mapping b.images;
  extends = Extends-mapping b;
  sent = record { each = λ p i. absurd (let l = length-positive places p i in omega arith) };
  answers = constants_of (mapping b.images) b q.answers tuple (Extends-mapping b) r.each;
}

-- where an answer isn't bound yet, there is a place
pub place_by_unread : (b : Bound) (q : Query) (places : List ℕ) → TellsNone b q.answers → (HasUnknown b q.answers → ⊥) → AreReached b q places → 0 < length places
place_by_unread b q places u n r = go u.term u.among u.other
  where
    bound : (v : ℕ) (s : Term) → Contains q.answers (Variable v) → image b.images v ≡ Some s → ((c : ℕ) → value b (Variable v) ≡ Some (Constant c) → ⊥) → 0 < length places
    bound v (Constant c) i e o = absurd (o c e)
    bound v (Variable w) i e o = absurd (n (record { term = Variable v; among = i; unknown = w; bound = e }))

    go : (t : Term) → Contains q.answers t → ((c : ℕ) → value b t ≡ Some (Constant c) → ⊥) → 0 < length places
    go (Constant c) i o = absurd (o c refl)
    go (Variable v) i o = elim (r.each v i) [
      | inl s ↦ let (t, e) = the_value s in bound v t i e o
      | inr p ↦ length-positive places p.0 p.1
    ]

-- the places in another order
Sends-same : (h : ℕ → Term) (atoms : List Atom) (xs ys : List ℕ) (facts : List Atom) → HasSamePlaces xs ys → Sends h atoms xs facts → Sends h atoms ys facts
Sends-same h atoms xs ys facts s g = record { each = λ p i. g.each p ((s.each p).0 i) }

flipped : (xs ys : List ℕ) → HasSamePlaces xs ys → HasSamePlaces ys xs
flipped xs ys s = record { size = sym s.size; each = λ p. ((s.each p).1, (s.each p).0) }

pub SendsToTuple-same : (b : Bound) (q : Query) (xs ys : List ℕ) (facts : List Atom) (tuple : List ℕ) → HasSamePlaces xs ys → SendsToTuple b q xs facts tuple →
    SendsToTuple b q ys facts tuple
SendsToTuple-same b q xs ys facts tuple s g = record {
  mapping = g.mapping;
  extends = g.extends;
  sent = Sends-same g.mapping q.atoms xs ys facts s g.sent;
  answers = g.answers;
}

pub SendsToTuple-from_same : (b : Bound) (q : Query) (xs ys : List ℕ) (facts : List Atom) (tuple : List ℕ) → HasSamePlaces xs ys → SendsToTuple b q ys facts tuple →
    SendsToTuple b q xs facts tuple
SendsToTuple-from_same b q xs ys facts tuple s g = SendsToTuple-same b q ys xs facts tuple (flipped xs ys s) g

pub GivesBy-same : (b : Bound) (q : Query) (place : ℕ) (targets : List Atom) (xs ys : List ℕ) (facts : List Atom) (tuple : List ℕ) → HasSamePlaces xs ys →
    GivesBy b q place targets xs facts tuple → GivesBy b q place targets ys facts tuple
GivesBy-same b q place targets xs ys facts tuple s g = record {
  mapping = g.mapping;
  extends = g.extends;
  first = g.first;
  sent = Sends-same g.mapping q.atoms xs ys facts s g.sent;
  answers = g.answers;
}

pub GivesBy-from_same : (b : Bound) (q : Query) (place : ℕ) (targets : List Atom) (xs ys : List ℕ) (facts : List Atom) (tuple : List ℕ) → HasSamePlaces xs ys →
    GivesBy b q place targets ys facts tuple → GivesBy b q place targets xs facts tuple
GivesBy-from_same b q place targets xs ys facts tuple s g = GivesBy-same b q place targets ys xs facts tuple (flipped xs ys s) g

pub AreReached-same : (b : Bound) (q : Query) (xs ys : List ℕ) → HasSamePlaces xs ys → AreReached b q xs → AreReached b q ys
AreReached-same b q xs ys s r = record {
  each = λ v i. elim (r.each v i) [ inl x ↦ inl x | inr p ↦ inr (p.0, (s.each p.0).1 p.1, p.2) ];
}

-- at the places of all atoms each answer is reached
pub AreReached-order : (b : Bound) (q : Query) (order : List ℕ) → IsStored q → IsOrder q.atoms order → AreReached b q order
AreReached-order b q order s o = record {
  each = λ v i.
      let (x, k, n) = OccursIn-atom q.atoms (Variable v) (s.safe.answers v i) in
      let (place, l, p) = place_of q.atoms x k in
      inr (place, o.all place l, subst (λ (a : Atom). Contains a.terms (Variable v)) (sym p) n);
}

-- no target, and one more
pub none_by_no_target : (b : Bound) (q : Query) (place : ℕ) (rest : List ℕ) (facts : List Atom) (tuple : List ℕ) → GivesBy b q place [] rest facts tuple → ⊥
none_by_no_target b q place rest facts tuple g = Contains-empty (atom_image g.mapping (atom_at q.atoms place)) g.first

pub GivesBy-cases : (b : Bound) (q : Query) (place : ℕ) (xs ys : List Atom) (rest : List ℕ) (facts : List Atom) (tuple : List ℕ) →
    GivesBy b q place (xs ++ ys) rest facts tuple → GivesBy b q place xs rest facts tuple ⊎ GivesBy b q place ys rest facts tuple
GivesBy-cases b q place xs ys rest facts tuple g = elim (Contains-append_cases xs ys (atom_image g.mapping (atom_at q.atoms place)) g.first) [
  | inl i ↦ inl (record { mapping = g.mapping; extends = g.extends; first = i; sent = g.sent; answers = g.answers })
  | inr i ↦ inr (record { mapping = g.mapping; extends = g.extends; first = i; sent = g.sent; answers = g.answers })
]

pub GivesBy-left : (b : Bound) (q : Query) (place : ℕ) (xs ys : List Atom) (rest : List ℕ) (facts : List Atom) (tuple : List ℕ) →
    GivesBy b q place xs rest facts tuple → GivesBy b q place (xs ++ ys) rest facts tuple
GivesBy-left b q place xs ys rest facts tuple g = record {
  mapping = g.mapping;
  extends = g.extends;
  first = Contains-append_left xs ys (atom_image g.mapping (atom_at q.atoms place)) g.first;
  sent = g.sent;
  answers = g.answers;
}

pub GivesBy-right : (b : Bound) (q : Query) (place : ℕ) (xs ys : List Atom) (rest : List ℕ) (facts : List Atom) (tuple : List ℕ) →
    GivesBy b q place ys rest facts tuple → GivesBy b q place (xs ++ ys) rest facts tuple
GivesBy-right b q place xs ys rest facts tuple g = record {
  mapping = g.mapping;
  extends = g.extends;
  first = Contains-append_right xs ys (atom_image g.mapping (atom_at q.atoms place)) g.first;
  sent = g.sent;
  answers = g.answers;
}

-- the target is one of them
only : (x y : Atom) → Contains (x ∷ []) y → y ≡ x
only x y i = elim (Contains-cons_cases x [] y i) [ inl e ↦ sym e | inr j ↦ absurd (Contains-empty y j) ]

-- the atom matched onto the target
pub GivesBy-matched : (a b : Bound) (q : Query) (place : ℕ) (target : Atom) (rest : List ℕ) (facts : List Atom) (tuple : List ℕ) →
    (atom_at q.atoms place).name ≡ target.name → IsMatched a b (atom_at q.atoms place).terms target.terms → SendsToTuple b q rest facts tuple →
    GivesBy a q place (target ∷ []) rest facts tuple
GivesBy-matched a b q place target rest facts tuple n m g =
    let here : atom_image g.mapping (atom_at q.atoms place) ≡ target = atom_path _ _ n (m.carried g.mapping g.extends) in
    record {
      mapping = g.mapping;
      extends = Extends-less a b g.mapping m.grown g.extends;
      first = subst (λ (x : Atom). Contains (target ∷ []) x) (sym here) (Contains-first target []);
      sent = g.sent;
      answers = g.answers;
    }

pub SendsToTuple-matched : (a b : Bound) (q : Query) (place : ℕ) (target : Atom) (rest : List ℕ) (facts : List Atom) (tuple : List ℕ) →
    IsMatched a b (atom_at q.atoms place).terms target.terms → GivesBy a q place (target ∷ []) rest facts tuple → SendsToTuple b q rest facts tuple
SendsToTuple-matched a b q place target rest facts tuple m g = record {
  mapping = g.mapping;
  extends = m.forced g.mapping g.extends (ap (λ (x : Atom). x.terms) (only target (atom_image g.mapping (atom_at q.atoms place)) g.first));
  sent = g.sent;
  answers = g.answers;
}

-- and one that clashes with it
pub none_by_clash : (a : Bound) (q : Query) (place : ℕ) (target : Atom) (rest : List ℕ) (facts : List Atom) (tuple : List ℕ) →
    IsClash a (atom_at q.atoms place).terms target.terms → GivesBy a q place (target ∷ []) rest facts tuple → ⊥
none_by_clash a q place target rest facts tuple k g =
    k.none g.mapping g.extends (ap (λ (x : Atom). x.terms) (only target (atom_image g.mapping (atom_at q.atoms place)) g.first))

-- the variables of the matched atom are bound
pub AreReached-matched : (a b : Bound) (q : Query) (place : ℕ) (rest : List ℕ) (targets : List Term) → IsMatched a b (atom_at q.atoms place).terms targets →
    AreReached a q (place ∷ rest) → AreReached b q rest
AreReached-matched a b q place rest targets m r = record {
  each = λ v i. elim (r.each v i) [
    | inl s ↦ inl (IsSome-grown a b v m.grown s)
    | inr p ↦ elim (Contains-cons_cases place rest p.0 p.1) [
      | inl e ↦ inl (m.bound v (subst (λ (x : ℕ). Contains (atom_at q.atoms x).terms (Variable v)) (sym e) p.2))
      | inr j ↦ inr (p.0, j, p.2)
    ]
  ];
}

-- the facts that match are all to which the atom may be sent
IsMatch-image : (h : ℕ → Term) (b : Bound) (a : Atom) (key : Option (ℕ × Term)) → Extends h b → IsKey b a.terms key →
    IsMatch a.name (length a.terms) key (atom_image h a)
IsMatch-image h b a None e k = record { name_is = refl; arity_is = length-map a.terms (term_image h); bound_is = tt }
IsMatch-image h b a (Some key) e k = record {
  name_is = refl;
  arity_is = length-map a.terms (term_image h);
  bound_is = slice_get-map (term_image h) a.terms key.0 ∙ (ap (option_map (term_image h)) k.1 ∙ ap Some (value-image h b k.0 key.1 e k.2));
}

pub SendsToTuple-by_matching : (b : Bound) (q : Query) (place : ℕ) (rest : List ℕ) (facts : List Atom) (key : Option (ℕ × Term)) (tuple : List ℕ) →
    GivesBy b q place (matching facts (atom_at q.atoms place).name (length (atom_at q.atoms place).terms) key) rest facts tuple → SendsToTuple b q (place ∷ rest) facts tuple
SendsToTuple-by_matching b q place rest facts key tuple g = record {
  mapping = g.mapping;
  extends = g.extends;
  sent = record {
    each = λ p i. elim (Contains-cons_cases place rest p i) [
      | inl e ↦
          subst (λ (x : ℕ). Contains facts (atom_image g.mapping (atom_at q.atoms x))) e
          (Contains-from_matching facts _ _ key (atom_image g.mapping (atom_at q.atoms place)) g.first).0
      | inr j ↦ g.sent.each p j
    ];
  };
  answers = g.answers;
}

pub matching-given : (b : Bound) (q : Query) (place : ℕ) (rest : List ℕ) (facts : List Atom) (key : Option (ℕ × Term)) (tuple : List ℕ) →
    IsKey b (atom_at q.atoms place).terms key → SendsToTuple b q (place ∷ rest) facts tuple →
    GivesBy b q place (matching facts (atom_at q.atoms place).name (length (atom_at q.atoms place).terms) key) rest facts tuple
matching-given b q place rest facts key tuple k g = record {
  mapping = g.mapping;
  extends = g.extends;
  first = Contains-matching facts _ _ key (atom_image g.mapping (atom_at q.atoms place)) (g.sent.each place (Contains-first place rest))
      (IsMatch-image g.mapping b (atom_at q.atoms place) key g.extends k);
  sent = record { each = λ p i. g.sent.each p (Contains-rest place rest p i) };
  answers = g.answers;
}

-- where nothing is bound and the places are those of all atoms, the maps are the homomorphisms
pub SendsToTuple-maps : (b : Bound) (q : Query) (order : List ℕ) (facts : List Atom) (tuple : List ℕ) → IsClear b.images → IsOrder q.atoms order →
    MapsInto q facts (map Constant tuple) → SendsToTuple b q order facts tuple
SendsToTuple-maps b q order facts tuple c o m = record {
  mapping = m.mapping;
  extends = Extends-clear m.mapping b c;
  sent = Sends-homomorphism m.mapping q order facts (map Constant tuple) o.places m.homomorphism;
  answers = m.homomorphism.answers;
}

pub MapsInto-given : (b : Bound) (q : Query) (order : List ℕ) (facts : List Atom) (tuple : List ℕ) → IsOrder q.atoms order → SendsToTuple b q order facts tuple →
    MapsInto q facts (map Constant tuple)
MapsInto-given b q order facts tuple o g = record {
  mapping = g.mapping;
  homomorphism = record {
    atoms = IsSubset-from_image g.mapping q.atoms facts (λ x k.
        let (place, l, p) = place_of q.atoms x k in
        subst (λ (y : Atom). Contains facts (atom_image g.mapping y)) p (g.sent.each place (o.all place l)));
    answers = g.answers;
  };
}
