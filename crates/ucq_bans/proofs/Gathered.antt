-- The sets of places that a search adds, one target after another.
use Rattle.std.proofs.Common.{◌≡◌, ℕ, ◌+◌, ◌<◌, List, [], ◌∷◌, ◌++◌, length, take, get_or, Contains, ◌⊎◌, slice_get, Some, sym, ap, ◌∙◌, subst, inl, inr}
use Rattle.std.proofs.lemmas.List.{take_more}
use Rattle.std.proofs.lemmas.List.Elements.{Contains-push, Contains-push_cases, Contains-append_left, Contains-get_or}
use Rattle.ucq_terms.specs.declared.Term.{Term}
use Rattle.ucq_terms.specs.Syntax.{Atom, HasEachOnce, atom_image}
use Rattle.ucq_terms.specs.Unifier.{atom_at}
use Rattle.ucq_terms.proofs.Images.{IsSubset-from_image, IsSubset-image}
use Rattle.ucq_terms.proofs.Lists.{Contains-first, Contains-rest, Contains-cons_cases, Contains-empty}
use Rattle.ucq_terms.proofs.Places.{place_of}
use Rattle.ucq_hom.specs.Space.{mapping, IsClear}
use Rattle.ucq_hom.specs.Bindings.{Bound, IsMatched, IsClash}
use Rattle.ucq_hom.specs.Search.{IsOrder}
use Rattle.ucq_hom.proofs.Homs.{Extends-clear, Extends-mapping}
use Rattle.ucq_bans.specs.inner.Images.{IsImageAt, IsImageOf}
use Rattle.ucq_bans.specs.inner.Search.{IsGrownBy, AreTargets, IsSetOf, IsTarget, SomeSends, GivesSet, GivesSetBy}
use Rattle.ucq_bans.proofs.Grown.{IsGrownBy-nothing, IsGrownBy-same, IsGrownBy-both}
use Rattle.ucq_bans.proofs.Targets.{one_place}
use Rattle.ucq_bans.proofs.Sent.{Sends-nothing, SendsBy-first, SomeSends-by, SendsBy-matched, SomeSends-matched, none_by_clash}

-- no place is left
pub GivesSet-nothing : (b : Bound) (atoms facts : List Atom) (chosen set : List ℕ) → IsSetOf chosen set → GivesSet b atoms [] facts chosen set
GivesSet-nothing b atoms facts chosen set s = record {
  mapping = mapping b.images;
  extends = Extends-mapping b;
  sent = Sends-nothing (mapping b.images) atoms facts;
  rising = s.rising;
  each = λ place. (
    λ i. inl ((s.each place).0 i),
    λ i. elim i [ inl j ↦ (s.each place).1 j | inr t ↦ absurd (Contains-empty t.place t.among) ],
  );
}

pub IsSetOf-nothing : (b : Bound) (atoms facts : List Atom) (chosen set : List ℕ) → GivesSet b atoms [] facts chosen set → IsSetOf chosen set
IsSetOf-nothing b atoms facts chosen set g = record {
  rising = g.rising;
  each = λ place. (
    λ i. elim ((g.each place).0 i) [ inl j ↦ j | inr t ↦ absurd (Contains-empty t.place t.among) ],
    λ j. (g.each place).1 (inl j),
  );
}

-- one more place
module _ (h : ℕ → Term) (atoms : List Atom) (place : ℕ) (rest : List ℕ) (facts : List Atom) (target : ℕ) (first : slice_get facts target ≡ Some (atom_image h (atom_at atoms place))) where
  target_more : (other : ℕ) → (target ≡ other) ⊎ IsTarget h atoms rest facts other → IsTarget h atoms (place ∷ rest) facts other
  target_more other (inl e) = record { place = place; among = Contains-first place rest; fact = subst (λ (k : ℕ). slice_get facts k ≡ Some (atom_image h (atom_at atoms place))) e first }
  target_more other (inr t) = record { place = t.place; among = Contains-rest place rest t.place t.among; fact = t.fact }

  target_cases : (other : ℕ) → HasEachOnce facts → IsTarget h atoms (place ∷ rest) facts other → (target ≡ other) ⊎ IsTarget h atoms rest facts other
  target_cases other once t = elim (Contains-cons_cases place rest t.place t.among) [
    | inl e ↦ inl (one_place facts target other (atom_image h (atom_at atoms place)) once first
        (subst (λ (p : ℕ). slice_get facts other ≡ Some (atom_image h (atom_at atoms p))) (sym e) t.fact))
    | inr j ↦ inr (record { place = t.place; among = j; fact = t.fact })
  ]

pub GivesSetBy-first : (b : Bound) (atoms : List Atom) (place : ℕ) (rest : List ℕ) (facts : List Atom) (targets chosen set : List ℕ) → HasEachOnce facts →
    AreTargets b facts (atom_at atoms place) targets → GivesSet b atoms (place ∷ rest) facts chosen set →
    GivesSetBy b (atom_at atoms place) targets atoms rest facts chosen set
unfolding SendsBy-first
GivesSetBy-first b atoms place rest facts targets chosen set once t g =
    let s : SomeSends b atoms (place ∷ rest) facts = record { mapping = g.mapping; extends = g.extends; sent = g.sent } in
    let by = SendsBy-first b atoms place rest facts targets t s in
    record {
      by = by;
      rising = g.rising;
      each = λ other. (
        λ i. elim ((g.each other).0 i) [
          | inl j ↦ inl j
          | inr k ↦ inr (target_cases g.mapping atoms place rest facts by.target by.first other once k)
        ],
        λ i. elim i [
          | inl j ↦ (g.each other).1 (inl j)
          | inr k ↦ (g.each other).1 (inr (target_more g.mapping atoms place rest facts by.target by.first other k))
        ],
      );
    }

pub GivesSet-by : (b : Bound) (atoms : List Atom) (place : ℕ) (rest : List ℕ) (facts : List Atom) (targets chosen set : List ℕ) → HasEachOnce facts →
    GivesSetBy b (atom_at atoms place) targets atoms rest facts chosen set → GivesSet b atoms (place ∷ rest) facts chosen set
unfolding SomeSends-by
GivesSet-by b atoms place rest facts targets chosen set once g =
    let s = SomeSends-by b atoms place rest facts targets g.by in
    record {
      mapping = g.by.mapping;
      extends = g.by.extends;
      sent = s.sent;
      rising = g.rising;
      each = λ other. (
        λ i. elim ((g.each other).0 i) [
          | inl j ↦ inl j
          | inr k ↦ inr (target_more g.by.mapping atoms place rest facts g.by.target g.by.first other k)
        ],
        λ i. elim i [
          | inl j ↦ (g.each other).1 (inl j)
          | inr k ↦ (g.each other).1 (inr (target_cases g.by.mapping atoms place rest facts g.by.target g.by.first other once k))
        ],
      );
    }

-- the atom matched onto a fact, whose place is chosen
module _ (a b : Bound) (atom fact : Atom) (target : ℕ) (atoms : List Atom) (rest : List ℕ) (facts : List Atom) (chosen set : List ℕ)
    (at : slice_get facts target ≡ Some fact) (named : fact.name ≡ atom.name) (m : IsMatched a b atom.terms fact.terms) where
  GivesSetBy-matched : GivesSet b atoms rest facts (chosen ++ target ∷ []) set → GivesSetBy a atom (target ∷ []) atoms rest facts chosen set
  unfolding SendsBy-matched
  GivesSetBy-matched g = record {
    by = SendsBy-matched a b atom fact target (target ∷ []) atoms rest facts (Contains-first target []) at named m
        (record { mapping = g.mapping; extends = g.extends; sent = g.sent });
    rising = g.rising;
    each = λ other. (
      λ i. elim ((g.each other).0 i) [
        | inl j ↦ elim (Contains-push_cases chosen target other j) [ inl k ↦ inl k | inr e ↦ inr (inl e) ]
        | inr t ↦ inr (inr t)
      ],
      λ i. elim i [
        | inl j ↦ (g.each other).1 (inl (Contains-append_left chosen (target ∷ []) other j))
        | inr k ↦ elim k [
          | inl e ↦ (g.each other).1 (inl (subst (λ (x : ℕ). Contains (chosen ++ target ∷ []) x) e (Contains-push chosen target)))
          | inr t ↦ (g.each other).1 (inr t)
        ]
      ],
    );
  }

  only : (x y : ℕ) → Contains (x ∷ []) y → y ≡ x
  only x y i = elim (Contains-cons_cases x [] y i) [ inl e ↦ sym e | inr j ↦ absurd (Contains-empty y j) ]

  GivesSet-matched : GivesSetBy a atom (target ∷ []) atoms rest facts chosen set → GivesSet b atoms rest facts (chosen ++ target ∷ []) set
  unfolding SomeSends-matched
  GivesSet-matched g =
      let here : g.by.target ≡ target = only target g.by.target g.by.among in
      let s = SomeSends-matched a b atom fact target (target ∷ []) atoms rest facts at m g.by here in
      record {
        mapping = g.by.mapping;
        extends = s.extends;
        sent = g.by.sent;
        rising = g.rising;
        each = λ other. (
          λ i. elim ((g.each other).0 i) [
            | inl j ↦ inl (Contains-append_left chosen (target ∷ []) other j)
            | inr k ↦ elim k [
              | inl e ↦ inl (subst (λ (x : ℕ). Contains (chosen ++ target ∷ []) x) (sym here ∙ e) (Contains-push chosen target))
              | inr t ↦ inr t
            ]
          ],
          λ i. elim i [
            | inl j ↦ elim (Contains-push_cases chosen target other j) [
              | inl k ↦ (g.each other).1 (inl k)
              | inr e ↦ (g.each other).1 (inr (inl (here ∙ e)))
            ]
            | inr t ↦ (g.each other).1 (inr (inr t))
          ],
        );
      }

pub found_matched : (a b : Bound) (atom fact : Atom) (target : ℕ) (atoms : List Atom) (rest : List ℕ) (facts : List Atom) (chosen more : List ℕ) (us vs : List (List ℕ)) →
    slice_get facts target ≡ Some fact → fact.name ≡ atom.name → IsMatched a b atom.terms fact.terms → more ≡ chosen ++ target ∷ [] →
    IsGrownBy (GivesSet b atoms rest facts more) us vs → IsGrownBy (GivesSetBy a atom (target ∷ []) atoms rest facts chosen) us vs
found_matched a b atom fact target atoms rest facts chosen more us vs at named m e f =
    IsGrownBy-same _ _ us vs (λ set g. GivesSetBy-matched a b atom fact target atoms rest facts chosen set at named m g)
    (λ set g. GivesSet-matched a b atom fact target atoms rest facts chosen set at named m g)
    (subst (λ (xs : List ℕ). IsGrownBy (GivesSet b atoms rest facts xs) us vs) e f)

-- and one that clashes with it
pub found_clash : (a : Bound) (atom fact : Atom) (target : ℕ) (atoms : List Atom) (rest : List ℕ) (facts : List Atom) (chosen : List ℕ) (us : List (List ℕ)) →
    slice_get facts target ≡ Some fact → IsClash a atom.terms fact.terms → IsGrownBy (GivesSetBy a atom (target ∷ []) atoms rest facts chosen) us us
found_clash a atom fact target atoms rest facts chosen us at k =
    IsGrownBy-nothing _ us (λ set g. absurd (none_by_clash a atom fact target (target ∷ []) atoms rest facts at k g.by
    (elim (Contains-cons_cases target [] g.by.target g.by.among) [ inl e ↦ sym e | inr j ↦ absurd (Contains-empty g.by.target j) ])))

-- no target yet, and one more
pub found_none : (b : Bound) (a : Atom) (atoms : List Atom) (rest : List ℕ) (facts : List Atom) (chosen : List ℕ) (us : List (List ℕ)) →
    IsGrownBy (GivesSetBy b a [] atoms rest facts chosen) us us
found_none b a atoms rest facts chosen us = IsGrownBy-nothing _ us (λ set g. absurd (Contains-empty g.by.target g.by.among))

-- with other targets, of which the target is one
retargeted : (b : Bound) (a : Atom) (xs ys : List ℕ) (atoms : List Atom) (rest : List ℕ) (facts : List Atom) (chosen set : List ℕ) →
    (g : GivesSetBy b a xs atoms rest facts chosen set) → Contains ys g.by.target → GivesSetBy b a ys atoms rest facts chosen set
retargeted b a xs ys atoms rest facts chosen set g i = record {
  by = record { target = g.by.target; among = i; mapping = g.by.mapping; extends = g.by.extends; first = g.by.first; sent = g.by.sent };
  rising = g.rising;
  each = g.each;
}

pub found_more : (b : Bound) (a : Atom) (items : List ℕ) (i d : ℕ) (atoms : List Atom) (rest : List ℕ) (facts : List Atom) (chosen : List ℕ) (us vs ws : List (List ℕ)) →
    i < length items → IsGrownBy (GivesSetBy b a (take i items) atoms rest facts chosen) us vs →
    IsGrownBy (GivesSetBy b a (get_or items i d ∷ []) atoms rest facts chosen) vs ws → IsGrownBy (GivesSetBy b a (take (i + 1) items) atoms rest facts chosen) us ws
found_more b a items i d atoms rest facts chosen us vs ws l f g =
    let x = get_or items i d in
    subst (λ (xs : List ℕ). IsGrownBy (GivesSetBy b a xs atoms rest facts chosen) us ws) (sym (take_more items i d l))
    (IsGrownBy-both _ _ _ us vs ws
    (λ set k. elim (Contains-push_cases (take i items) x k.by.target k.by.among) [
      | inl j ↦ inl (retargeted b a (take i items ++ x ∷ []) (take i items) atoms rest facts chosen set k j)
      | inr e ↦ inr (retargeted b a (take i items ++ x ∷ []) (x ∷ []) atoms rest facts chosen set k (subst (λ (y : ℕ). Contains (x ∷ []) y) e (Contains-first x [])))
    ])
    (λ set k. retargeted b a (take i items) (take i items ++ x ∷ []) atoms rest facts chosen set k (Contains-append_left (take i items) (x ∷ []) k.by.target k.by.among))
    (λ set k. retargeted b a (x ∷ []) (take i items ++ x ∷ []) atoms rest facts chosen set k
    (elim (Contains-cons_cases x [] k.by.target k.by.among) [
      | inl e ↦ subst (λ (y : ℕ). Contains (take i items ++ x ∷ []) y) e (Contains-push (take i items) x)
      | inr j ↦ absurd (Contains-empty k.by.target j)
    ])) f g)

-- all targets
pub found_all : (b : Bound) (atoms : List Atom) (order : List ℕ) (place : ℕ) (rest : List ℕ) (facts : List Atom) (a : Atom) (targets taken chosen : List ℕ)
    (us vs : List (List ℕ)) → HasEachOnce facts → order ≡ place ∷ rest → a ≡ atom_at atoms place → taken ≡ targets → AreTargets b facts a targets →
    IsGrownBy (GivesSetBy b a taken atoms rest facts chosen) us vs → IsGrownBy (GivesSet b atoms order facts chosen) us vs
found_all b atoms order place rest facts a targets taken chosen us vs once is atom whole t f =
    let here : AreTargets b facts (atom_at atoms place) targets = subst (λ (x : Atom). AreTargets b facts x targets) atom t in
    let all : IsGrownBy (GivesSetBy b (atom_at atoms place) targets atoms rest facts chosen) us vs =
    subst (λ (x : Atom). IsGrownBy (GivesSetBy b x targets atoms rest facts chosen) us vs) atom
    (subst (λ (xs : List ℕ). IsGrownBy (GivesSetBy b a xs atoms rest facts chosen) us vs) whole f) in
    subst (λ (places : List ℕ). IsGrownBy (GivesSet b atoms places facts chosen) us vs) (sym is)
    (IsGrownBy-same _ _ us vs (λ set g. GivesSet-by b atoms place rest facts targets chosen set once g)
    (λ set g. GivesSetBy-first b atoms place rest facts targets chosen set once here g) all)

-- where nothing is bound or chosen and the places are those of all atoms
pub found_images : (b : Bound) (atoms : List Atom) (order : List ℕ) (facts : List Atom) (us vs : List (List ℕ)) → IsClear b.images → IsOrder atoms order →
    IsGrownBy (GivesSet b atoms order facts []) us vs → IsGrownBy (IsImageOf atoms facts) us vs
found_images b atoms order facts us vs clear o f = IsGrownBy-same _ _ us vs forth back f
  where
    at_image : (h : ℕ → Term) (target : ℕ) → IsTarget h atoms order facts target → IsImageAt h atoms facts target
    at_image h target t = record { atom = atom_at atoms t.place; among = Contains-get_or atoms t.place _ (o.places.within t.place t.among); fact = t.fact }

    at_target : (h : ℕ → Term) (target : ℕ) → IsImageAt h atoms facts target → IsTarget h atoms order facts target
    at_target h target t =
        let (place, l, e) = place_of atoms t.atom t.among in
        record { place = place; among = o.all place l; fact = t.fact ∙ ap (λ (x : Atom). Some (atom_image h x)) (sym e) }

    forth : (set : List ℕ) → GivesSet b atoms order facts [] set → IsImageOf atoms facts set
    forth set g = record {
      mapping = g.mapping;
      sent = IsSubset-from_image g.mapping atoms facts (λ a i.
          let (place, l, e) = place_of atoms a i in
          subst (λ (x : Atom). Contains facts (atom_image g.mapping x)) e (g.sent.each place (o.all place l)));
      rising = g.rising;
      each = λ target. (
        λ i. elim ((g.each target).0 i) [ inl j ↦ absurd (Contains-empty target j) | inr t ↦ at_image g.mapping target t ],
        λ t. (g.each target).1 (inr (at_target g.mapping target t)),
      );
    }

    back : (set : List ℕ) → IsImageOf atoms facts set → GivesSet b atoms order facts [] set
    back set g = record {
      mapping = g.mapping;
      extends = Extends-clear g.mapping b clear;
      sent = record {
        each = λ place i. IsSubset-image g.mapping atoms facts g.sent (atom_at atoms place) (Contains-get_or atoms place _ (o.places.within place i));
      };
      rising = g.rising;
      each = λ target. (
        λ i. inr (at_target g.mapping target ((g.each target).0 i)),
        λ i. elim i [ inl j ↦ absurd (Contains-empty target j) | inr t ↦ (g.each target).1 (at_image g.mapping target t) ],
      );
    }

-- the same, as the search reads
pub found_images_as : (b : Bound) (atoms all : List Atom) (order : List ℕ) (facts : List Atom) (chosen : List ℕ) (us vs : List (List ℕ)) → IsClear b.images → IsOrder atoms order →
    atoms ≡ all → chosen ≡ [] → IsGrownBy (GivesSet b atoms order facts chosen) us vs → IsGrownBy (IsImageOf all facts) us vs
found_images_as b atoms all order facts chosen us vs clear o e none f =
    subst (λ (xs : List Atom). IsGrownBy (IsImageOf xs facts) us vs) e
    (found_images b atoms order facts us vs clear o (subst (λ (xs : List ℕ). IsGrownBy (GivesSet b atoms order facts xs) us vs) none f))
