-- Atoms that some map sends to facts, one atom after another.
use Rattle.std.proofs.Common.{◌≡◌, ℕ, ◌+◌, ◌-◌, ◌<◌, List, [], ◌∷◌, ◌++◌, length, take, get_or, Contains, slice_get, Some, refl, sym, ap, ◌∙◌, subst, inl, inr, arith, ◌≤◌, length-append}
use Rattle.std.proofs.lemmas.List.{take_more}
use Rattle.std.proofs.lemmas.List.Elements.{Contains-push_cases, Contains-get_or}
use Rattle.std.proofs.lemmas.Option.{same_Some}
use Rattle.std.proofs.Math.Seq.{take-length, take-append_seam}
use Rattle.ucq_terms.specs.declared.Term.{Term}
use Rattle.ucq_terms.specs.declared.Term.TheVariants.{Variable}
use Rattle.ucq_terms.proofs.Images.{atom_image-agree}
use Rattle.ucq_hom.proofs.Trail.{Grown-kept}
use Rattle.std.specs.Prelude.{Option, None, IsSome}
use Rattle.ucq_terms.specs.Syntax.{Atom, atom_image}
use Rattle.ucq_terms.specs.Unifier.{atom_at}
use Rattle.ucq_terms.proofs.Decide.{atom_path}
use Rattle.ucq_terms.proofs.Images.{IsSubset-from_image, IsSubset-image}
use Rattle.ucq_terms.proofs.Lists.{Contains-first, Contains-rest, Contains-cons_cases, Contains-empty}
use Rattle.ucq_terms.proofs.Places.{place_of}
use Rattle.ucq_hom.specs.Space.{image, mapping, IsClear}
use Rattle.ucq_hom.specs.Bindings.{Extends, Bound, IsMatched, IsClash, Grown}
use Rattle.ucq_hom.specs.Search.{Sends, IsOrder}
use Rattle.ucq_hom.proofs.Homs.{Extends-clear, Extends-mapping}
use Rattle.ucq_hom.proofs.Matched.{Extends-less, the_value}
use Rattle.ucq_bans.specs.inner.Images.{MapsAtoms}
use Rattle.ucq_bans.specs.inner.Search.{AreApart, AreTargets, SomeSends, SendsBy}
use Rattle.ucq_bans.proofs.Targets.{Contains-at, at_place, is_target}

-- no place is left
pub Sends-nothing : (h : ℕ → Term) (atoms facts : List Atom) → Sends h atoms [] facts
Sends-nothing h atoms facts = record { each = λ place i. absurd (Contains-empty place i) }

pub SomeSends-nothing : (b : Bound) (atoms facts : List Atom) → SomeSends b atoms [] facts
SomeSends-nothing b atoms facts = record { mapping = mapping b.images; extends = Extends-mapping b; sent = Sends-nothing (mapping b.images) atoms facts }

-- one more place
pub Sends-rest : (h : ℕ → Term) (atoms : List Atom) (place : ℕ) (rest : List ℕ) (facts : List Atom) → Sends h atoms (place ∷ rest) facts → Sends h atoms rest facts
Sends-rest h atoms place rest facts s = record { each = λ p i. s.each p (Contains-rest place rest p i) }

pub Sends-more : (h : ℕ → Term) (atoms : List Atom) (place : ℕ) (rest : List ℕ) (facts : List Atom) → Contains facts (atom_image h (atom_at atoms place)) → Sends h atoms rest facts →
    Sends h atoms (place ∷ rest) facts
Sends-more h atoms place rest facts here s = record {
  each = λ p i. elim (Contains-cons_cases place rest p i) [
    | inl e ↦ subst (λ (x : ℕ). Contains facts (atom_image h (atom_at atoms x))) e here
    | inr j ↦ s.each p j
  ];
}

-- the first atom is sent to one of its targets
unfoldable pub SendsBy-first : (b : Bound) (atoms : List Atom) (place : ℕ) (rest : List ℕ) (facts : List Atom) (targets : List ℕ) → AreTargets b facts (atom_at atoms place) targets →
    SomeSends b atoms (place ∷ rest) facts → SendsBy b (atom_at atoms place) targets atoms rest facts
SendsBy-first b atoms place rest facts targets t s =
    let (i, at) = at_place facts (atom_image s.mapping (atom_at atoms place)) (s.sent.each place (Contains-first place rest)) in
    record {
      target = i;
      among = is_target b facts (atom_at atoms place) targets s.mapping i t s.extends at;
      mapping = s.mapping;
      extends = s.extends;
      first = at;
      sent = Sends-rest s.mapping atoms place rest facts s.sent;
    }

unfoldable pub SomeSends-by : (b : Bound) (atoms : List Atom) (place : ℕ) (rest : List ℕ) (facts : List Atom) (targets : List ℕ) →
    SendsBy b (atom_at atoms place) targets atoms rest facts → SomeSends b atoms (place ∷ rest) facts
SomeSends-by b atoms place rest facts targets s = record {
  mapping = s.mapping;
  extends = s.extends;
  sent = Sends-more s.mapping atoms place rest facts (Contains-at facts s.target (atom_image s.mapping (atom_at atoms place)) s.first) s.sent;
}

-- the atom matched onto a fact
unfoldable pub SendsBy-matched : (a b : Bound) (atom fact : Atom) (target : ℕ) (targets : List ℕ) (atoms : List Atom) (rest : List ℕ) (facts : List Atom) → Contains targets target →
    slice_get facts target ≡ Some fact → fact.name ≡ atom.name → IsMatched a b atom.terms fact.terms → SomeSends b atoms rest facts →
    SendsBy a atom targets atoms rest facts
SendsBy-matched a b atom fact target targets atoms rest facts among at named m s = record {
  target = target;
  among = among;
  mapping = s.mapping;
  extends = Extends-less a b s.mapping m.grown s.extends;
  first = at ∙ ap Some (sym (atom_path (atom_image s.mapping atom) fact (sym named) (m.carried s.mapping s.extends)));
  sent = s.sent;
}

-- what a map that sends the atom to the fact carries its terms to
pub terms_carried : (h : ℕ → Term) (atom fact : Atom) (facts : List Atom) (target other : ℕ) → slice_get facts target ≡ Some fact → other ≡ target →
    slice_get facts other ≡ Some (atom_image h atom) → (atom_image h atom).terms ≡ fact.terms
terms_carried h atom fact facts target other at e first =
    let same : atom_image h atom ≡ fact = same_Some (atom_image h atom) fact (sym first ∙ (ap (slice_get facts) e ∙ at)) in
    ap (λ (x : Atom). x.terms) same

unfoldable pub SomeSends-matched : (a b : Bound) (atom fact : Atom) (target : ℕ) (targets : List ℕ) (atoms : List Atom) (rest : List ℕ) (facts : List Atom) →
    slice_get facts target ≡ Some fact → IsMatched a b atom.terms fact.terms → (s : SendsBy a atom targets atoms rest facts) → s.target ≡ target →
    SomeSends b atoms rest facts
SomeSends-matched a b atom fact target targets atoms rest facts at m s e = record {
  mapping = s.mapping;
  extends = m.forced s.mapping s.extends (terms_carried s.mapping atom fact facts target s.target at e s.first);
  sent = s.sent;
}

-- and one that clashes with it
pub none_by_clash : (a : Bound) (atom fact : Atom) (target : ℕ) (targets : List ℕ) (atoms : List Atom) (rest : List ℕ) (facts : List Atom) →
    slice_get facts target ≡ Some fact → IsClash a atom.terms fact.terms → (s : SendsBy a atom targets atoms rest facts) → s.target ≡ target → ⊥
none_by_clash a atom fact target targets atoms rest facts at k s e =
    k.none s.mapping s.extends (terms_carried s.mapping atom fact facts target s.target at e s.first)

-- no target yet, and one more
pub none_by_no_target : (b : Bound) (a : Atom) (atoms : List Atom) (rest : List ℕ) (facts : List Atom) → ¬ SendsBy b a [] atoms rest facts
none_by_no_target b a atoms rest facts s = Contains-empty s.target s.among

pub none_by_more : (b : Bound) (a : Atom) (items : List ℕ) (i d : ℕ) (atoms : List Atom) (rest : List ℕ) (facts : List Atom) → i < length items →
    ¬ SendsBy b a (take i items) atoms rest facts → ((s : SendsBy b a (take (i + 1) items) atoms rest facts) → s.target ≡ get_or items i d → ⊥) →
    ¬ SendsBy b a (take (i + 1) items) atoms rest facts
none_by_more b a items i d atoms rest facts l none not_here s =
    elim (Contains-push_cases (take i items) (get_or items i d) s.target (subst (λ (xs : List ℕ). Contains xs s.target) (take_more items i d l) s.among)) [
      | inl j ↦ none (record { target = s.target; among = j; mapping = s.mapping; extends = s.extends; first = s.first; sent = s.sent })
      | inr e ↦ not_here s (sym e)
    ]

-- where nothing is bound and the places are those of all atoms
pub MapsAtoms-sent : (b : Bound) (atoms : List Atom) (order : List ℕ) (facts : List Atom) → IsOrder atoms order → SomeSends b atoms order facts → MapsAtoms atoms facts
MapsAtoms-sent b atoms order facts o s = record {
  mapping = s.mapping;
  sent = IsSubset-from_image s.mapping atoms facts (λ a i.
      let (place, l, e) = place_of atoms a i in
      subst (λ (x : Atom). Contains facts (atom_image s.mapping x)) e (s.sent.each place (o.all place l)));
}

pub SomeSends-maps : (b : Bound) (atoms : List Atom) (order : List ℕ) (facts : List Atom) → IsClear b.images → IsOrder atoms order → MapsAtoms atoms facts → SomeSends b atoms order facts
SomeSends-maps b atoms order facts clear o m = record {
  mapping = m.mapping;
  extends = Extends-clear m.mapping b clear;
  sent = record {
    each = λ place i. IsSubset-image m.mapping atoms facts m.sent (atom_at atoms place) (Contains-get_or atoms place _ (o.places.within place i));
  };
}

-- ---- as the search reads

pub IsMatched-as : (a a2 b : Bound) (ts ts2 us us2 : List Term) → a ≡ a2 → ts ≡ ts2 → us ≡ us2 → IsMatched a b ts us → IsMatched a2 b ts2 us2
IsMatched-as a a2 b ts ts2 us us2 e f g m =
    subst (λ (x : Bound). IsMatched x b ts2 us2) e (subst (λ (xs : List Term). IsMatched a b xs us2) f (subst (λ (xs : List Term). IsMatched a b ts xs) g m))

pub IsClash-as : (a a2 : Bound) (ts ts2 us us2 : List Term) → a ≡ a2 → ts ≡ ts2 → us ≡ us2 → IsClash a ts us → IsClash a2 ts2 us2
IsClash-as a a2 ts ts2 us us2 e f g k =
    subst (λ (x : Bound). IsClash x ts2 us2) e (subst (λ (xs : List Term). IsClash a xs us2) f (subst (λ (xs : List Term). IsClash a ts xs) g k))

-- all that was bound since is freed
pub undone_to : (a b c d e : Bound) (mark : ℕ) (ts us : List Term) → a ≡ e → IsMatched a b ts us → c ≡ b → mark ≡ length a.trail →
    ((before : Bound) → Grown before c → mark ≡ length before.trail → d ≡ before) → d ≡ e
undone_to a b c d e mark ts us same m after is undone = undone a (subst (λ (x : Bound). Grown a x) (sym after) m.grown) is ∙ same

pub none_left : (xs : List ℕ) → length xs ≡ 0 → xs ≡ []
none_left [] e = refl
none_left (x ∷ xs) e = absurd (omega (arith, e))

pub all_taken : (xs : List ℕ) (i : ℕ) → i ≤ length xs → length xs ≤ i → take i xs ≡ xs
all_taken xs i l m = let e : i ≡ length xs = omega (arith, l, m) in ap (λ (k : ℕ). take k xs) e ∙ take-length xs

-- the last element is taken off again
pub popped : (xs ys zs : List ℕ) (x n : ℕ) → ys ≡ xs ++ x ∷ [] → n ≡ length ys → zs ≡ take (n - 1) ys → zs ≡ xs
popped xs ys zs x n e m f =
    let size : n - 1 ≡ length xs = let s = ap (λ (us : List ℕ). length us) e in let r = length-append xs (x ∷ []) in omega (arith, s, r, m) in
    f ∙ (ap (λ (k : ℕ). take k ys) size ∙ (ap (λ (us : List ℕ). take (length xs) us) e ∙ take-append_seam xs (x ∷ [])))

-- ---- atoms that don't meet

or_else : Option Term → Term → Term
or_else None t = t
or_else (Some s) t = s

-- what is bound, and the map elsewhere
module _ (b c : Bound) (h : ℕ → Term) where
  abbrev beside : ℕ → Term
  beside v = or_else (image c.images v) (h v)

  beside_extends : Extends beside c
  unfolding or_else
  beside_extends = record { agrees = λ v t e. ap (λ (o : Option Term). or_else o (h v)) e }

  beside_same : (terms targets : List Term) → Extends h b → IsMatched b c terms targets → (v : ℕ) → ¬ Contains terms (Variable v) → beside v ≡ h v
  unfolding or_else
  beside_same terms targets e m v out = go (image c.images v) refl
    where
      go : (o : Option Term) → image c.images v ≡ o → or_else o (h v) ≡ h v
      go None f = refl
      go (Some t) f = elim (m.no_more v (subst (λ (o : Option Term). IsSome o) (sym f) refl)) [
        | inl old ↦
            let (u, g) = the_value old in
            let same : Some t ≡ Some u = sym f ∙ Grown-kept b c v u m.grown g in
            same_Some t u same ∙ sym (e.agrees v u g)
        | inr i ↦ absurd (out i)
      ]

-- where the other atoms don't meet the matched one, they are sent to facts with any of its targets
pub SomeSends-apart : (b c : Bound) (atoms : List Atom) (place : ℕ) (rest : List ℕ) (facts : List Atom) (terms targets : List Term) → IsMatched b c terms targets →
    AreApart atoms rest terms → SomeSends b atoms (place ∷ rest) facts → SomeSends c atoms rest facts
SomeSends-apart b c atoms place rest facts terms targets m apart s = record {
  mapping = beside b c s.mapping;
  extends = beside_extends b c s.mapping;
  sent = record {
    each = λ p i.
        let a = atom_at atoms p in
        let same : atom_image (beside b c s.mapping) a ≡ atom_image s.mapping a =
        atom_image-agree (beside b c s.mapping) s.mapping a (λ v j. beside_same b c s.mapping terms targets s.extends m v (λ k. apart.none (Variable v) p k i j)) in
        subst (λ (x : Atom). Contains facts x) (sym same) (s.sent.each p (Contains-rest place rest p i));
  };
}

-- no place yet, and one more whose atom has none of the terms
pub AreApart-nothing : (atoms : List Atom) (terms : List Term) → AreApart atoms [] terms
AreApart-nothing atoms terms = record { none = λ t place i j. absurd (Contains-empty place j) }

pub AreApart-more : (atoms : List Atom) (places : List ℕ) (i d : ℕ) (terms others : List Term) → i < length places → others ≡ (atom_at atoms (get_or places i d)).terms →
    ((t : Term) → Contains terms t → ¬ Contains others t) → AreApart atoms (take i places) terms → AreApart atoms (take (i + 1) places) terms
AreApart-more atoms places i d terms others l e out a = record {
  none = λ t place j k here.
      elim (Contains-push_cases (take i places) (get_or places i d) place (subst (λ (xs : List ℕ). Contains xs place) (take_more places i d l) k)) [
        | inl m ↦ a.none t place j m here
        | inr same ↦ out t j (subst (λ (ts : List Term). Contains ts t) (sym (e ∙ ap (λ (p : ℕ). (atom_at atoms p).terms) same)) here)
      ];
}
