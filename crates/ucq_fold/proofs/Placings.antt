-- Atoms placed on atoms one after another: what more of them tell, and what a renaming tells of them.
use Rattle.std.proofs.Common.{◌≡◌, ℕ, ◌+◌, ◌<◌, Bool, true, false, List, ◌++◌, length, flat_map, zip, Contains, ◌⊎◌, refl, sym, ap, ap₂, ◌∙◌, subst, inl, inr, arith, get_or, set, ◌&&◌, nat_eq, slice_index}
use Rattle.std.specs.List.{list_all, range_with_len}
use Rattle.std.specs.Cmp.{unsigned_Decides}
use Rattle.std.proofs.lemmas.Bool.{cases_eq}
use Rattle.std.proofs.lemmas.List.{map-id, length-map, get_or_default, get_or-set_same, get_or-set_other}
use Rattle.std.proofs.lemmas.List.FromFn.{length-range_with_len, get_or-range_with_len}
use Rattle.std.proofs.lemmas.List.Elements.{Contains-get_or, Contains-append_left, Contains-append_right, Contains-append_cases}
use Rattle.ucq_terms.specs.declared.Term.{Term}
use Rattle.ucq_terms.specs.declared.Term.TheVariants.{Variable}
use Rattle.ucq_terms.specs.Syntax.{Atom, Query, IsVariableOf, HasEachOnce, term_image, terms_image, atom_image}
use Rattle.ucq_terms.specs.Homomorphism.{IsIsomorphism, AreIsomorphic}
use Rattle.ucq_terms.specs.Unifier.{atom_at}
use Rattle.ucq_terms.proofs.Decide.{atom_path}
use Rattle.ucq_terms.proofs.Images.{IsSubset-from_image, IsSubset-image}
use Rattle.ucq_terms.proofs.Lists.{Contains-flat_map, Contains-from_flat_map}
use Rattle.ucq_terms.proofs.Places.{place_of}
use Rattle.ucq_terms.proofs.Subsets.{OccursIn-atom}
use Rattle.ucq_terms.proofs.Zips.{Contains-zip, Contains-zip_left, same_at_zip}
use Rattle.ucq_hom.specs.Search.{ArePlaces, IsOrder}
use Rattle.ucq_hom.proofs.Found.{read_at}
use Rattle.ucq_hom.proofs.Ordered.{ArePlaces-at}
use Rattle.ucq_fold.specs.inner.Agreement.{alike, pair_alike, agree, all_agree, renamed, goes_with}
use Rattle.ucq_fold.specs.inner.Placing.{visited, IsBeside, IsPlaced, Leads}
use Rattle.ucq_fold.proofs.Renamings.{agree-back, agree-from, agree-sym, list_all-from, list_all-at, all_agree-from, all_agree-at, beside, IsOneToOne, alike-variable, term_image-beside, terms_image-zip, IsTermOf, IsTermOf-atom, IsTermOf-answer, Renames, term_image-apart, alike-image, AreIsomorphic-renamed}

-- Tests that hold together.
pub and-first : (a b : Bool) → (a && b) ≡ true → a ≡ true
and-first true b e = refl
and-first false b e = cc

pub and-second : (a b : Bool) → (a && b) ≡ true → b ≡ true
and-second true b e = e
and-second false b e = cc

and-both : (a b : Bool) → a ≡ true → b ≡ true → (a && b) ≡ true
and-both a b e d = ap₂ (λ (x y : Bool). x && y) e d

-- what `renamed` tells
pub record IsRenamed (xs ys : List Term) : Type 0 where
  pub length : length xs ≡ length ys
  pub alike : (p : Term × Term) → Contains (zip xs ys) p → pair_alike p ≡ true
  pub agree : (p q : Term × Term) → Contains (zip xs ys) p → Contains (zip xs ys) q → agree p q ≡ true

pub IsRenamed-true : (xs ys : List Term) → renamed xs ys ≡ true → IsRenamed xs ys
IsRenamed-true xs ys e =
    let ps = zip xs ys in
    let first : (nat_eq (length xs) (length ys) && list_all pair_alike ps) ≡ true = and-first (nat_eq (length xs) (length ys) && list_all pair_alike ps) (all_agree ps ps) e in
    record {
      length = (unsigned_Decides (length xs) (length ys)).0 (and-first (nat_eq (length xs) (length ys)) (list_all pair_alike ps) first);
      alike = λ p i. list_all-at pair_alike ps p (and-second (nat_eq (length xs) (length ys)) (list_all pair_alike ps) first) i;
      agree = λ p q i j. all_agree-at ps ps p q (and-second (nat_eq (length xs) (length ys) && list_all pair_alike ps) (all_agree ps ps) e) i j;
    }

-- what `goes_with` tells
pub record GoesWith (x y : Atom) (answers images : List Term) : Type 0 where
  pub name : x.name ≡ y.name
  pub terms : IsRenamed x.terms y.terms
  pub beside_answers : (p q : Term × Term) → Contains (zip x.terms y.terms) p → Contains (zip answers images) q → agree p q ≡ true

pub GoesWith-true : (x y : Atom) (answers images : List Term) → goes_with x y answers images ≡ true → GoesWith x y answers images
GoesWith-true x y answers images e =
    let here = zip x.terms y.terms in
    let there = zip answers images in
    let first : (nat_eq x.name y.name && renamed x.terms y.terms) ≡ true = and-first (nat_eq x.name y.name && renamed x.terms y.terms) (all_agree here there) e in
    record {
      name = (unsigned_Decides x.name y.name).0 (and-first (nat_eq x.name y.name) (renamed x.terms y.terms) first);
      terms = IsRenamed-true x.terms y.terms (and-second (nat_eq x.name y.name) (renamed x.terms y.terms) first);
      beside_answers = λ p q i j. all_agree-at here there p q (and-second (nat_eq x.name y.name && renamed x.terms y.terms) (all_agree here there) e) i j;
    }

-- nothing is placed yet
pub IsPlaced-none : (a b : Query) (order images : List ℕ) → renamed a.answers b.answers ≡ true → IsPlaced a b order images 0
IsPlaced-none a b order images e =
    let r = IsRenamed-true a.answers b.answers e in
    let there : (p : Term × Term) → IsBeside a b order images 0 p → Contains (zip a.answers b.answers) p = λ p i. elim i [ inl c ↦ c | inr (k, l, c) ↦ absurd (omega arith) ] in
    record {
      answers = r.length;
      within = λ i l. absurd (omega arith);
      names = λ i l. absurd (omega arith);
      arities = λ i l. absurd (omega arith);
      alike = λ p i. r.alike p (there p i);
      agree = λ p q i j. r.agree p q (there p i) (there q j);
    }

-- One atom more.
IsBeside-cases : (a b : Query) (order images : List ℕ) (n : ℕ) (p : Term × Term) → IsBeside a b order images (n + 1) p →
    IsBeside a b order images n p ⊎ Contains (zip (visited a order n).terms (visited b images n).terms) p
IsBeside-cases a b order images n p (inl c) = inl (inl c)
IsBeside-cases a b order images n p (inr (i, l, c)) = elim (cases_eq i n) [
  | inl e ↦ inr (subst (λ (k : ℕ). Contains (zip (visited a order k).terms (visited b images k).terms) p) e c)
  | inr ne ↦ inl (inr (i, omega arith, c))
]

below_or_last : (P : ℕ → Type 0) (n : ℕ) → ((i : ℕ) → i < n → P i) → P n → (i : ℕ) → i < n + 1 → P i
below_or_last P n f x i l = elim (cases_eq i n) [ inl e ↦ subst P (sym e) x | inr ne ↦ f i (omega arith) ]

pub IsPlaced-more : (a b : Query) (order images : List ℕ) (n : ℕ) → IsPlaced a b order images n → slice_index images n < length b.atoms →
    goes_with (visited a order n) (visited b images n) a.answers b.answers ≡ true →
    ((i : ℕ) → i < n → all_agree (zip (visited a order n).terms (visited b images n).terms) (zip (visited a order i).terms (visited b images i).terms) ≡ true) →
    IsPlaced a b order images (n + 1)
IsPlaced-more a b order images n s l e f =
    let x = visited a order n in
    let y = visited b images n in
    let here = zip x.terms y.terms in
    let g = GoesWith-true x y a.answers b.answers e in
    let with_earlier : (p q : Term × Term) → Contains here p → IsBeside a b order images n q → agree p q ≡ true =
    λ p q i j. elim j [
      | inl c ↦ g.beside_answers p q i c
      | inr (k, m, c) ↦ all_agree-at here (zip (visited a order k).terms (visited b images k).terms) p q (f k m) i c
    ] in
    record {
      answers = s.answers;
      within = below_or_last (λ i. slice_index images i < length b.atoms) n s.within l;
      names = below_or_last (λ i. (visited a order i).name ≡ (visited b images i).name) n s.names g.name;
      arities = below_or_last (λ i. length (visited a order i).terms ≡ length (visited b images i).terms) n s.arities g.terms.length;
      alike = λ p i. elim (IsBeside-cases a b order images n p i) [ inl j ↦ s.alike p j | inr j ↦ g.terms.alike p j ];
      agree = λ p q i j. elim (IsBeside-cases a b order images n p i) [
        | inl k ↦ elim (IsBeside-cases a b order images n q j) [ inl m ↦ s.agree p q k m | inr m ↦ agree-sym q p (with_earlier q p m k) ]
        | inr k ↦ elim (IsBeside-cases a b order images n q j) [ inl m ↦ with_earlier p q k m | inr m ↦ g.terms.agree p q k m ]
      ];
    }

-- Only the images of the first atoms matter.
pub record AreSameTo (count : ℕ) (new old : List ℕ) : Type 0 where
  pub each : (i : ℕ) → i < count → slice_index new i ≡ slice_index old i

pub AreSameTo-sym : (n : ℕ) (new old : List ℕ) → AreSameTo n new old → AreSameTo n old new
AreSameTo-sym n new old s = record { each = λ i l. sym (s.each i l) }

pub IsPlaced-same : (a b : Query) (order old new : List ℕ) (n : ℕ) → AreSameTo n new old → IsPlaced a b order old n → IsPlaced a b order new n
IsPlaced-same a b order old new n e s =
    let there : (p : Term × Term) → IsBeside a b order new n p → IsBeside a b order old n p =
    λ p i. elim i [
      | inl c ↦ inl c
      | inr (k, l, c) ↦ inr (k, l, subst (λ (j : ℕ). Contains (zip (visited a order k).terms (atom_at b.atoms j).terms) p) (e.each k l) c)
    ] in
    record {
      answers = s.answers;
      within = λ i l. subst (λ (j : ℕ). j < length b.atoms) (sym (e.each i l)) (s.within i l);
      names = λ i l. subst (λ (j : ℕ). (visited a order i).name ≡ (atom_at b.atoms j).name) (sym (e.each i l)) (s.names i l);
      arities = λ i l. subst (λ (j : ℕ). length (visited a order i).terms ≡ length (atom_at b.atoms j).terms) (sym (e.each i l)) (s.arities i l);
      alike = λ p i. s.alike p (there p i);
      agree = λ p q i j. s.agree p q (there p i) (there q j);
    }

pub Leads-same : (h : ℕ → Term) (a b : Query) (order old new : List ℕ) (n : ℕ) → AreSameTo n new old → Leads h a b order old n → Leads h a b order new n
Leads-same h a b order old new n e s = record {
  each = λ i l. subst (λ (j : ℕ). atom_image h (visited a order i) ≡ atom_at b.atoms j) (sym (e.each i l)) (s.each i l);
}

pub Leads-more : (h : ℕ → Term) (a b : Query) (order images : List ℕ) (n : ℕ) → Leads h a b order images n → atom_image h (visited a order n) ≡ visited b images n →
    Leads h a b order images (n + 1)
Leads-more h a b order images n s e = record { each = below_or_last (λ i. atom_image h (visited a order i) ≡ visited b images i) n s.each e }

-- Terms that a renaming carries to others agree.
beside_images : (h : ℕ → Term) (xs ys : List Term) (p : Term × Term) → terms_image h xs ≡ ys → Contains (zip xs ys) p → term_image h p.0 ≡ p.1
beside_images h xs ys p e i = same_at_zip (term_image h) (λ t. t) xs ys p (e ∙ sym (map-id ys)) i

pub all_agree-renamed : (h : ℕ → Term) (q : Query) (xs ys us vs : List Term) → Renames h q → ((t : Term) → Contains xs t → IsTermOf q t) →
    ((t : Term) → Contains us t → IsTermOf q t) → terms_image h xs ≡ ys → terms_image h us ≡ vs → all_agree (zip xs ys) (zip us vs) ≡ true
all_agree-renamed h q xs ys us vs r f g e d = all_agree-from (zip xs ys) (zip us vs) (λ s t i j.
    let left : term_image h s.0 ≡ s.1 = beside_images h xs ys s e i in
    let right : term_image h t.0 ≡ t.1 = beside_images h us vs t d j in
    agree-from s t (λ p. sym left ∙ (ap (term_image h) p ∙ right))
    (λ p. term_image-apart h q s.0 t.0 r (f s.0 (Contains-zip_left xs ys s i)) (g t.0 (Contains-zip_left us vs t j)) (left ∙ (p ∙ sym right))))

pub renamed-renamed : (h : ℕ → Term) (q : Query) (xs ys : List Term) → Renames h q → ((t : Term) → Contains xs t → IsTermOf q t) → terms_image h xs ≡ ys →
    renamed xs ys ≡ true
renamed-renamed h q xs ys r f e =
    let size : length xs ≡ length ys = sym (length-map xs (term_image h)) ∙ ap length e in
    and-both (nat_eq (length xs) (length ys) && list_all pair_alike (zip xs ys)) (all_agree (zip xs ys) (zip xs ys))
    (and-both (nat_eq (length xs) (length ys)) (list_all pair_alike (zip xs ys)) ((unsigned_Decides (length xs) (length ys)).1 size)
    (list_all-from pair_alike (zip xs ys) (λ p i.
    subst (λ (t : Term). alike p.0 t ≡ true) (beside_images h xs ys p e i) (alike-image h q p.0 r (f p.0 (Contains-zip_left xs ys p i))))))
    (all_agree-renamed h q xs ys xs ys r f f e e)

pub Renames-isomorphism : (h : ℕ → Term) (a b : Query) → IsIsomorphism h a b → Renames h a
Renames-isomorphism h a b s = record { renames = s.renames; apart = s.apart }

visited_terms : (a : Query) (order : List ℕ) (i : ℕ) → ArePlaces a.atoms order → i < length order → (t : Term) → Contains (visited a order i).terms t → IsTermOf a t
visited_terms a order i p l t c = IsTermOf-atom a (visited a order i) t (Contains-get_or a.atoms (slice_index order i) _ (ArePlaces-at a.atoms order i l p)) c

pub goes_with-renamed : (h : ℕ → Term) (a b : Query) (order images : List ℕ) (n : ℕ) → ArePlaces a.atoms order → n < length order → IsIsomorphism h a b →
    Leads h a b order images (n + 1) → goes_with (visited a order n) (visited b images n) a.answers b.answers ≡ true
goes_with-renamed h a b order images n p l s g =
    let x = visited a order n in
    let y = visited b images n in
    let r = Renames-isomorphism h a b s in
    let e : atom_image h x ≡ y = g.each n (omega arith) in
    let terms : terms_image h x.terms ≡ y.terms = ap (λ (z : Atom). z.terms) e in
    and-both (nat_eq x.name y.name && renamed x.terms y.terms) (all_agree (zip x.terms y.terms) (zip a.answers b.answers))
    (and-both (nat_eq x.name y.name) (renamed x.terms y.terms) ((unsigned_Decides x.name y.name).1 (ap (λ (z : Atom). z.name) e))
    (renamed-renamed h a x.terms y.terms r (visited_terms a order n p l) terms))
    (all_agree-renamed h a x.terms y.terms a.answers b.answers r (visited_terms a order n p l) (IsTermOf-answer a) terms s.answers)

pub agrees_with-renamed : (h : ℕ → Term) (a b : Query) (order images : List ℕ) (n i : ℕ) → ArePlaces a.atoms order → n < length order → IsIsomorphism h a b →
    Leads h a b order images (n + 1) → i < n →
    all_agree (zip (visited a order n).terms (visited b images n).terms) (zip (visited a order i).terms (visited b images i).terms) ≡ true
agrees_with-renamed h a b order images n i p l s g m =
    all_agree-renamed h a _ _ _ _ (Renames-isomorphism h a b s) (visited_terms a order n p l) (visited_terms a order i p (omega arith))
    (ap (λ (z : Atom). z.terms) (g.each n (omega arith))) (ap (λ (z : Atom). z.terms) (g.each i (omega arith)))

-- All atoms placed: the renaming is read off from the terms beside terms.
range_has : (n i : ℕ) → i < n → Contains (range_with_len 0 n) i
range_has n i l = (i, omega (arith, length-range_with_len 0 n), get_or-range_with_len 0 n i i l ∙ (let z : 0 + i ≡ i = omega arith in z))

below_range : (n i : ℕ) → Contains (range_with_len 0 n) i → i < n
below_range n i (k, l, e) =
    let m : k < n = omega (arith, length-range_with_len 0 n) in
    let same : 0 + k ≡ i = sym (get_or-range_with_len 0 n k i m) ∙ e in
    omega arith

abbrev beside_at : Query → Query → List ℕ → List ℕ → ℕ → List (Term × Term)
beside_at a b order images i = zip (visited a order i).terms (visited b images i).terms

abbrev all_beside : Query → Query → List ℕ → List ℕ → ℕ → List (Term × Term)
all_beside a b order images n = zip a.answers b.answers ++ flat_map (beside_at a b order images) (range_with_len 0 n)

all_beside-has : (a b : Query) (order images : List ℕ) (n : ℕ) (p : Term × Term) → IsBeside a b order images n p → Contains (all_beside a b order images n) p
all_beside-has a b order images n p (inl c) = Contains-append_left {X = Term × Term} (zip a.answers b.answers) (flat_map (beside_at a b order images) (range_with_len 0 n)) p c
all_beside-has a b order images n p (inr (i, l, c)) =
    Contains-append_right {X = Term × Term} (zip a.answers b.answers) (flat_map (beside_at a b order images) (range_with_len 0 n)) p
    (Contains-flat_map {Y = Term × Term} (beside_at a b order images) (range_with_len 0 n) i p (range_has n i l) c)

IsBeside-contains : (a b : Query) (order images : List ℕ) (n : ℕ) (p : Term × Term) → Contains (all_beside a b order images n) p → IsBeside a b order images n p
IsBeside-contains a b order images n p c =
    elim (Contains-append_cases {X = Term × Term} (zip a.answers b.answers) (flat_map (beside_at a b order images) (range_with_len 0 n)) p c) [
      | inl i ↦ inl i
      | inr i ↦ let (k, j, d) = Contains-from_flat_map {Y = Term × Term} (beside_at a b order images) (range_with_len 0 n) p i in inr (k, below_range n k j, d)
    ]

-- each atom is visited
visits : (a : Query) (order : List ℕ) (x : Atom) → IsOrder a.atoms order → Contains a.atoms x → (i : ℕ) × (i < length order) × (visited a order i ≡ x)
visits a order x o c =
    let (place, l, e) = place_of a.atoms x c in
    let (i, m, d) = o.all place l in
    (i, m, ap (atom_at a.atoms) (get_or_default order i 0 place m ∙ d) ∙ e)

pub AreIsomorphic-placed : (a b : Query) (order images : List ℕ) → IsPlaced a b order images (length order) → IsOrder a.atoms order → HasEachOnce a.atoms →
    length a.atoms ≡ length b.atoms → AreIsomorphic a b
AreIsomorphic-placed a b order images s o once size =
    let n = length order in
    let ps = all_beside a b order images n in
    let h = beside ps in
    let one : IsOneToOne ps = record {
      alike = λ p i. s.alike p (IsBeside-contains a b order images n p i);
      agree = λ p q i j. s.agree p q (IsBeside-contains a b order images n p i) (IsBeside-contains a b order images n q j);
    } in
    let beside_variable : (v : ℕ) → IsVariableOf a v → (t : Term) × Contains {X = Term × Term} ps (Variable v, t) =
    λ v i. elim i [
      | inl j ↦
          let (x, k, c) = OccursIn-atom a.atoms (Variable v) j in
          let (m, l, e) = visits a order x o k in
          let (t, d) = Contains-zip (visited a order m).terms (visited b images m).terms (Variable v) (s.arities m l) (subst (λ (y : Atom). Contains y.terms (Variable v)) (sym e) c) in
          (t, all_beside-has a b order images n (Variable v, t) (inr (m, l, d)))
      | inr j ↦ let (t, d) = Contains-zip a.answers b.answers (Variable v) s.answers j in (t, all_beside-has a b order images n (Variable v, t) (inl d))
    ] in
    AreIsomorphic-renamed h a b (record {
      renames =
          λ v i.
          let (t, c) = beside_variable v i in
          let (w, e) = alike-variable v t (one.alike (Variable v, t) c) in
          (w, term_image-beside ps (Variable v) t one c ∙ e);
      apart =
          λ v w i j e.
          let (t, c) = beside_variable v i in
          let (u, d) = beside_variable w j in
          let same : t ≡ u = sym (term_image-beside ps (Variable v) t one c) ∙ (e ∙ term_image-beside ps (Variable w) u one d) in
          let back : Variable v ≡ Variable w = agree-back (Variable v, t) (Variable w, u) (one.agree (Variable v, t) (Variable w, u) c d) same in
          cc;
    }) (record {
      atoms = IsSubset-from_image h a.atoms b.atoms (λ x i.
          let (m, l, e) = visits a order x o i in
          let image : atom_image h (visited a order m) ≡ visited b images m =
          atom_path _ _ (s.names m l) (terms_image-zip h (visited a order m).terms (visited b images m).terms (s.arities m l)
          (λ t u c. term_image-beside ps t u one (all_beside-has a b order images n (t, u) (inr (m, l, c))))) in
          subst (λ (y : Atom). Contains b.atoms y) (sym image ∙ ap (atom_image h) e) (Contains-get_or b.atoms (slice_index images m) _ (s.within m l)));
      answers = terms_image-zip h a.answers b.answers s.answers (λ t u c. term_image-beside ps t u one (all_beside-has a b order images n (t, u) (inl c)));
    }) once size

-- an atom that was read from a list, and its terms
pub read_atom : (atoms read : List Atom) (place : ℕ) (x : Atom) → read ≡ atoms → place < length atoms → x ≡ get_or read place x → x ≡ atom_at atoms place
read_atom atoms read place x e l d = read_at atoms place x l (d ∙ ap (λ (ys : List Atom). get_or ys place x) e)

pub read_terms : (atoms read : List Atom) (place : ℕ) (x : Atom) → read ≡ atoms → place < length atoms → x ≡ get_or read place x → x.terms ≡ (atom_at atoms place).terms
read_terms atoms read place x e l d = ap (λ (y : Atom). y.terms) (read_atom atoms read place x e l d)

-- The next atom is placed anew: the images of those before it stay.
pub set_next : (images : List ℕ) (n place : ℕ) → AreSameTo n (set images n place) images
set_next images n place = record { each = λ i l. get_or-set_other images n i place 0 (λ e. omega arith) }

pub AreSameTo-trans : (n : ℕ) (new mid old : List ℕ) → AreSameTo n new mid → AreSameTo n mid old → AreSameTo n new old
AreSameTo-trans n new mid old s t = record { each = λ i l. s.each i l ∙ t.each i l }

pub none_next : (h : ℕ → Term) (a b : Query) (order first images : List ℕ) (n place : ℕ) → AreSameTo n images first → n < length images →
    (Leads h a b order (set images n place) (n + 1) → ⊥) → Leads h a b order first n → atom_image h (visited a order n) ≡ atom_at b.atoms place → ⊥
none_next h a b order first images n place s l none g e =
    let here : slice_index (set images n place) n ≡ place = get_or-set_same images n place 0 l in
    none (Leads-more h a b order (set images n place) n
    (Leads-same h a b order first (set images n place) n (AreSameTo-trans n (set images n place) images first (set_next images n place) s) g)
    (e ∙ ap (atom_at b.atoms) (sym here)))

-- no image is left for the next atom
pub none_left : (h : ℕ → Term) (a b : Query) (order : List ℕ) (n : ℕ) → ArePlaces a.atoms order → n < length order → IsIsomorphism h a b →
    ((k : ℕ) → k < length b.atoms → atom_image h (visited a order n) ≡ atom_at b.atoms k → ⊥) → ⊥
none_left h a b order n p l s none =
    let i = IsSubset-image h a.atoms b.atoms s.atoms.0 (visited a order n) (Contains-get_or a.atoms (slice_index order n) _ (ArePlaces-at a.atoms order n l p)) in
    let (k, m, e) = place_of b.atoms (atom_image h (visited a order n)) i in
    none k m (sym e)
