-- A renaming of variables, one to one, read off from terms that stand beside terms; and what a renaming keeps apart.
use Rattle.std.proofs.Common.{◌≡◌, ℕ, ◌≤◌, Bool, true, false, List, [], ◌∷◌, ◌++◌, length, map, zip, Contains, refl, sym, ap, ap₂, ◌∙◌, subst, inl, inr, arith, ◌≢◌, if◌then◌else◌, not, ◌&&◌}
use Rattle.std.specs.List.{list_all}
use Rattle.std.proofs.lemmas.List.{length-map}
use Rattle.std.proofs.lemmas.List.Elements.{Contains-get_or, Contains-append_left, Contains-append_right, Contains-append_cases}
use Rattle.ucq_terms.specs.declared.Term.{Term}
use Rattle.ucq_terms.specs.declared.Term.TheVariants.{Constant, Variable}
use Rattle.ucq_terms.specs.Syntax.{Atom, Query, IsVariableOf, HasEachOnce, term_image, terms_image, atom_image, atoms_image}
use Rattle.ucq_terms.specs.Homomorphism.{IsHomomorphism, Covers, IsIsomorphism, AreIsomorphic}
use Rattle.ucq_terms.specs.Equality.{Decides-term_eq}
use Rattle.ucq_terms.specs.Numbering.{term_eq}
use Rattle.ucq_terms.proofs.Decide.{term_discrete, atom_discrete, dec_contains, chosen, chosen-yes, chosen-no, atom_path}
use Rattle.ucq_terms.proofs.Distinct.{IsDistinct, length-distinct_le}
use Rattle.ucq_terms.proofs.Images.{composite, terms_image-same, atom_image-same, terms_image-composite, atom_image-composite, terms_image-agree, atom_image-agree, Contains-from_image, IsSubset-from_image}
use Rattle.ucq_terms.proofs.Lists.{Contains-first, Contains-rest, Contains-cons_cases, Contains-empty, Contains-map, Contains-from_map}
use Rattle.ucq_terms.proofs.Occurrences.{variables, variables_of, Contains-variables, Contains-variables_of, Contains-from_variables, Contains-from_variables_of}
use Rattle.ucq_terms.proofs.Pairwise.{AllPairs-cons, AllPairs-map}
use Rattle.ucq_terms.proofs.Subsets.{IsSubset-contains, IsSubset-from_contains, OccursIn-from_atom}
use Rattle.ucq_fold.specs.inner.Agreement.{alike, pair_alike, agree, all_agree}

-- Tests of pairs, and of all pairs of lists.
pub agree-forth : (p q : Term × Term) → agree p q ≡ true → p.0 ≡ q.0 → p.1 ≡ q.1
agree-forth p q e d = (Decides-term_eq p.1 q.1).0 (go (term_eq p.0 q.0) (term_eq p.1 q.1) ((Decides-term_eq p.0 q.0).1 d) e)
  where
    go : (x y : Bool) → x ≡ true → (if x then y else not y) ≡ true → y ≡ true
    go true y r s = s
    go false y r s = cc

pub agree-back : (p q : Term × Term) → agree p q ≡ true → p.1 ≡ q.1 → p.0 ≡ q.0
agree-back p q e d = (Decides-term_eq p.0 q.0).0 (go (term_eq p.0 q.0) (term_eq p.1 q.1) ((Decides-term_eq p.1 q.1).1 d) e)
  where
    go : (x y : Bool) → y ≡ true → (if x then y else not y) ≡ true → x ≡ true
    go true y r s = refl
    go false true r s = cc
    go false false r s = cc

pub agree-from : (p q : Term × Term) → (p.0 ≡ q.0 → p.1 ≡ q.1) → (p.1 ≡ q.1 → p.0 ≡ q.0) → agree p q ≡ true
agree-from p q f g =
    go (term_eq p.0 q.0) (term_eq p.1 q.1) (λ e. (Decides-term_eq p.1 q.1).1 (f ((Decides-term_eq p.0 q.0).0 e)))
    (λ e. (Decides-term_eq p.0 q.0).1 (g ((Decides-term_eq p.1 q.1).0 e)))
  where
    go : (x y : Bool) → (x ≡ true → y ≡ true) → (y ≡ true → x ≡ true) → (if x then y else not y) ≡ true
    go true y f g = f refl
    go false true f g = let bad : false ≡ true = g refl in cc
    go false false f g = refl

pub list_all-from : {X : Type 0} (p : X → Bool) (xs : List X) → ((x : X) → Contains xs x → p x ≡ true) → list_all p xs ≡ true
list_all-from p [] f = refl
list_all-from p (x ∷ xs) f = ap₂ (λ (a b : Bool). a && b) (f x (Contains-first x xs)) (list_all-from p xs (λ y i. f y (Contains-rest x xs y i)))

pub list_all-at : {X : Type 0} (p : X → Bool) (xs : List X) (x : X) → list_all p xs ≡ true → Contains xs x → p x ≡ true
list_all-at p [] x e i = absurd (Contains-empty x i)
list_all-at {X} p (y ∷ xs) x e i = elim (Contains-cons_cases y xs x i) [
  | inl d ↦ subst (λ (z : X). p z ≡ true) d (first (p y) (list_all p xs) e)
  | inr j ↦ list_all-at p xs x (second (p y) (list_all p xs) e) j
]
  where
    first : (a b : Bool) → (a && b) ≡ true → a ≡ true
    first true b e = refl
    first false b e = cc

    second : (a b : Bool) → (a && b) ≡ true → b ≡ true
    second true b e = e
    second false b e = cc

pub all_agree-from : (ps qs : List (Term × Term)) → ((p q : Term × Term) → Contains ps p → Contains qs q → agree p q ≡ true) → all_agree ps qs ≡ true
all_agree-from ps qs f = list_all-from (λ p. list_all (agree p) qs) ps (λ p i. list_all-from (agree p) qs (λ q j. f p q i j))

pub all_agree-at : (ps qs : List (Term × Term)) (p q : Term × Term) → all_agree ps qs ≡ true → Contains ps p → Contains qs q → agree p q ≡ true
all_agree-at ps qs p q e i j = list_all-at (agree p) qs q (list_all-at (λ p. list_all (agree p) qs) ps p e i) j

pub agree-sym : (p q : Term × Term) → agree p q ≡ true → agree q p ≡ true
agree-sym p q e = agree-from q p (λ d. sym (agree-forth p q e (sym d))) (λ d. sym (agree-back p q e (sym d)))

-- the term beside the first pair of the variable
abbrev pub beside : List (Term × Term) → ℕ → Term
beside [] v = Variable v
beside (p ∷ ps) v = chosen (term_discrete p.0 (Variable v)) p.1 (beside ps v)

-- equal first terms have equal second terms
pub record IsFunctional (ps : List (Term × Term)) : Type 0 where
  pub same : (p q : Term × Term) → Contains ps p → Contains ps q → p.0 ≡ q.0 → p.1 ≡ q.1

pub beside-at : (ps : List (Term × Term)) (v : ℕ) (t : Term) → IsFunctional ps → Contains ps (Variable v, t) → beside ps v ≡ t
beside-at [] v t f i = absurd (Contains-empty {X = Term × Term} (Variable v, t) i)
beside-at (p ∷ ps) v t f i = elim (term_discrete p.0 (Variable v)) [
  | yes e ↦ chosen-yes (term_discrete p.0 (Variable v)) p.1 (beside ps v) e ∙ f.same p (Variable v, t) (Contains-first {X = Term × Term} p ps) i e
  | no n ↦
      chosen-no (term_discrete p.0 (Variable v)) p.1 (beside ps v) n ∙
      elim (Contains-cons_cases {X = Term × Term} p ps (Variable v, t) i) [
        | inl d ↦ absurd (n (ap (λ (q : Term × Term). q.0) d))
        | inr j ↦
            beside-at ps v t
            (record { same = λ q r k l. f.same q r (Contains-rest {X = Term × Term} p ps q k) (Contains-rest {X = Term × Term} p ps r l) }) j
      ]
]

-- pairs that are alike, of which each agrees with each
pub record IsOneToOne (ps : List (Term × Term)) : Type 0 where
  pub alike : (p : Term × Term) → Contains ps p → pair_alike p ≡ true
  pub agree : (p q : Term × Term) → Contains ps p → Contains ps q → agree p q ≡ true

IsFunctional-one_to_one : (ps : List (Term × Term)) → IsOneToOne ps → IsFunctional ps
IsFunctional-one_to_one ps o = record { same = λ p q i j. agree-forth p q (o.agree p q i j) }

pub alike-variable : (v : ℕ) (t : Term) → alike (Variable v) t ≡ true → (w : ℕ) × (t ≡ Variable w)
alike-variable v (Constant c) e = cc
alike-variable v (Variable w) e = (w, refl)

alike-constant : (c : ℕ) (t : Term) → alike (Constant c) t ≡ true → Constant c ≡ t
alike-constant c (Constant d) e = (Decides-term_eq (Constant c) (Constant d)).0 e
alike-constant c (Variable w) e = cc

pub term_image-beside : (ps : List (Term × Term)) (s t : Term) → IsOneToOne ps → Contains ps (s, t) → term_image (beside ps) s ≡ t
term_image-beside ps (Constant c) t o i = alike-constant c t (o.alike (Constant c, t) i)
term_image-beside ps (Variable v) t o i = beside-at ps v t (IsFunctional-one_to_one ps o) i

pub terms_image-zip : (h : ℕ → Term) (xs ys : List Term) → length xs ≡ length ys → ((s t : Term) → Contains (zip xs ys) (s, t) → term_image h s ≡ t) →
    terms_image h xs ≡ ys
terms_image-zip h [] [] l f = refl
terms_image-zip h [] (y ∷ ys) l f = absurd (omega arith)
terms_image-zip h (x ∷ xs) [] l f = absurd (omega arith)
terms_image-zip h (x ∷ xs) (y ∷ ys) l f =
    ap₂ (λ (t : Term) (ts : List Term). t ∷ ts) (f x y (Contains-first {X = Term × Term} (x, y) (zip xs ys)))
    (terms_image-zip h xs ys (omega arith) (λ s t i. f s t (Contains-rest {X = Term × Term} (x, y) (zip xs ys) (s, t) i)))

-- A renaming keeps terms and atoms of the query apart.
abbrev pub IsTermOf : Query → Term → Type 0
IsTermOf q (Constant c) = Unit {0}
IsTermOf q (Variable v) = IsVariableOf q v

-- the map sends variables of the query to variables, different ones to different ones
pub record Renames (h : ℕ → Term) (q : Query) : Type 0 where
  pub renames : (v : ℕ) → IsVariableOf q v → (w : ℕ) × (h v ≡ Variable w)
  pub apart : (v w : ℕ) → IsVariableOf q v → IsVariableOf q w → h v ≡ h w → v ≡ w

pub term_image-apart : (h : ℕ → Term) (q : Query) (s t : Term) → Renames h q → IsTermOf q s → IsTermOf q t → term_image h s ≡ term_image h t → s ≡ t
term_image-apart h q (Constant c) (Constant d) r i j e = e
term_image-apart h q (Constant c) (Variable w) r i j e = let (x, p) = r.renames w j in let bad : Constant c ≡ Variable x = e ∙ p in cc
term_image-apart h q (Variable v) (Constant d) r i j e = let (x, p) = r.renames v i in let bad : Constant d ≡ Variable x = sym e ∙ p in cc
term_image-apart h q (Variable v) (Variable w) r i j e = ap Variable (r.apart v w i j e)

pub alike-image : (h : ℕ → Term) (q : Query) (s : Term) → Renames h q → IsTermOf q s → alike s (term_image h s) ≡ true
alike-image h q (Constant c) r i = (Decides-term_eq (Constant c) (Constant c)).1 refl
alike-image h q (Variable v) r i = let (w, e) = r.renames v i in ap (alike (Variable v)) e

pub IsTermOf-atom : (q : Query) (a : Atom) (t : Term) → Contains q.atoms a → Contains a.terms t → IsTermOf q t
IsTermOf-atom q a (Constant c) i j = tt
IsTermOf-atom q a (Variable v) i j = inl (OccursIn-from_atom q.atoms (Variable v) a i j)

pub IsTermOf-answer : (q : Query) (t : Term) → Contains q.answers t → IsTermOf q t
IsTermOf-answer q (Constant c) i = tt
IsTermOf-answer q (Variable v) i = inr i

terms_image-apart : (h : ℕ → Term) (q : Query) (xs ys : List Term) → Renames h q → ((t : Term) → Contains xs t → IsTermOf q t) →
    ((t : Term) → Contains ys t → IsTermOf q t) → terms_image h xs ≡ terms_image h ys → xs ≡ ys
terms_image-apart h q [] [] r f g e = refl
terms_image-apart h q [] (y ∷ ys) r f g e = cc
terms_image-apart h q (x ∷ xs) [] r f g e = cc
terms_image-apart h q (x ∷ xs) (y ∷ ys) r f g e =
    let a : term_image h x ≡ term_image h y = cc in
    let b : terms_image h xs ≡ terms_image h ys = cc in
    ap₂ (λ (t : Term) (ts : List Term). t ∷ ts) (term_image-apart h q x y r (f x (Contains-first x xs)) (g y (Contains-first y ys)) a)
    (terms_image-apart h q xs ys r (λ t i. f t (Contains-rest x xs t i)) (λ t i. g t (Contains-rest y ys t i)) b)

pub atom_image-apart : (h : ℕ → Term) (q : Query) (a b : Atom) → Renames h q → Contains q.atoms a → Contains q.atoms b → atom_image h a ≡ atom_image h b → a ≡ b
atom_image-apart h q a b r i j e =
    atom_path a b (ap (λ (x : Atom). x.name) e)
    (terms_image-apart h q a.terms b.terms r (λ t k. IsTermOf-atom q a t i k) (λ t k. IsTermOf-atom q b t j k) (ap (λ (x : Atom). x.terms) e))

-- a list without repetition has all the elements of one that isn't longer, where that has all of its own
all_by_count : (xs ys : List Atom) → IsDistinct xs → ((x : Atom) → Contains xs x → Contains ys x) → length ys ≤ length xs → (y : Atom) → Contains ys y → Contains xs y
all_by_count xs ys d f l y i = elim (dec_contains atom_discrete xs y) [
  | yes j ↦ j
  | no n ↦
      let m : length (y ∷ xs) ≤ length ys =
      length-distinct_le (y ∷ xs) ys (AllPairs-cons (λ (a b : Atom). a ≢ b) y xs (λ z j e. n (subst (λ (w : Atom). Contains xs w) (sym e) j)) d)
      (λ z j. elim (Contains-cons_cases y xs z j) [ inl e ↦ subst (λ (w : Atom). Contains ys w) e i | inr k ↦ f z k ]) in
      absurd (omega arith)
]

-- the images of pairwise different atoms are pairwise different
distinct_images : (h : ℕ → Term) (q : Query) → Renames h q → HasEachOnce q.atoms → IsDistinct (atoms_image h q.atoms)
distinct_images h q r once = AllPairs-map (λ (x y : Atom). x ≢ y) (atom_image h) q.atoms (λ i j d l m e.
    once i j d l m (atom_image-apart h q _ _ r (Contains-get_or q.atoms i d (omega arith)) (Contains-get_or q.atoms j d m) e))

-- A homomorphism that renames is an isomorphism where the second query has as many atoms as the first.
pub AreIsomorphic-renamed : (h : ℕ → Term) (a b : Query) → Renames h a → IsHomomorphism h a b.atoms b.answers → HasEachOnce a.atoms → length a.atoms ≡ length b.atoms →
    AreIsomorphic a b
AreIsomorphic-renamed h a b r s once size =
    let long : length (atoms_image h a.atoms) ≡ length a.atoms = length-map a.atoms (atom_image h) in
    let distinct : IsDistinct (atoms_image h a.atoms) = distinct_images h a r once in
    record {
      renaming = h;
      isomorphism = record {
        renames = r.renames;
        apart = r.apart;
        answers = s.answers;
        atoms = (
          s.atoms,
          IsSubset-from_contains b.atoms (atoms_image h a.atoms)
              (all_by_count (atoms_image h a.atoms) b.atoms distinct (λ x i. IsSubset-contains (atoms_image h a.atoms) b.atoms x s.atoms i) (omega arith)),
        );
      };
    }

-- Isomorphic queries cover one another.
pub Covers-forth : (a b : Query) → AreIsomorphic a b → Covers a b
Covers-forth a b i = record { mapping = i.renaming; homomorphism = record { atoms = i.isomorphism.atoms.0; answers = i.isomorphism.answers } }

abbrev query_variables : Query → List ℕ
query_variables q = variables q.atoms ++ variables_of q.answers

Contains-query_variables : (q : Query) (v : ℕ) → IsVariableOf q v → Contains (query_variables q) v
Contains-query_variables q v (inl o) = Contains-append_left (variables q.atoms) (variables_of q.answers) v (Contains-variables q.atoms v o)
Contains-query_variables q v (inr c) = Contains-append_right (variables q.atoms) (variables_of q.answers) v (Contains-variables_of q.answers v c)

IsVariableOf-contains : (q : Query) (v : ℕ) → Contains (query_variables q) v → IsVariableOf q v
IsVariableOf-contains q v i = elim (Contains-append_cases (variables q.atoms) (variables_of q.answers) v i) [
  | inl j ↦ inl (Contains-from_variables q.atoms v j)
  | inr j ↦ inr (Contains-from_variables_of q.answers v j)
]

-- each image of a variable beside the variable
abbrev images_beside : (ℕ → Term) → Query → List (Term × Term)
images_beside h q = map (λ v. (h v, Variable v)) (query_variables q)

IsFunctional-images : (h : ℕ → Term) (q : Query) → Renames h q → IsFunctional (images_beside h q)
IsFunctional-images h q r = record {
  same = λ x y i j e.
      let (v, k, p) = Contains-from_map {Y = Term × Term} (λ v. (h v, Variable v)) (query_variables q) x i in
      let (w, l, s) = Contains-from_map {Y = Term × Term} (λ v. (h v, Variable v)) (query_variables q) y j in
      let same : h v ≡ h w = ap (λ (z : Term × Term). z.0) p ∙ (e ∙ sym (ap (λ (z : Term × Term). z.0) s)) in
      sym (ap (λ (z : Term × Term). z.1) p) ∙ (ap Variable (r.apart v w (IsVariableOf-contains q v k) (IsVariableOf-contains q w l) same) ∙ ap (λ (z : Term × Term). z.1) s);
}

-- the map back
returns : (h : ℕ → Term) (q : Query) → Renames h q → (v : ℕ) → IsVariableOf q v → composite (beside (images_beside h q)) h v ≡ Variable v
returns h q r v i =
    let (w, e) = r.renames v i in
    let there : Contains (images_beside h q) (h v, Variable v) = Contains-map {Y = Term × Term} (λ v. (h v, Variable v)) (query_variables q) v (Contains-query_variables q v i) in
    ap (term_image (beside (images_beside h q))) e ∙
    beside-at (images_beside h q) w (Variable v) (IsFunctional-images h q r) (subst (λ (t : Term). Contains (images_beside h q) (t, Variable v)) e there)

pub Covers-back : (a b : Query) → AreIsomorphic a b → Covers b a
Covers-back a b i =
    let h = i.renaming in
    let s : IsIsomorphism h a b = i.isomorphism in
    let r : Renames h a = record { renames = s.renames; apart = s.apart } in
    let g = beside (images_beside h a) in
    record {
      mapping = g;
      homomorphism = record {
        atoms = IsSubset-from_image g b.atoms a.atoms (λ y k.
            let (x, l, e) = Contains-from_image h a.atoms y (IsSubset-contains b.atoms (atoms_image h a.atoms) y s.atoms.1 k) in
            let back : atom_image g y ≡ x =
            ap (atom_image g) (sym e) ∙
            (atom_image-composite g h x ∙
            (atom_image-agree (composite g h) Variable x (λ v j. returns h a r v (inl (OccursIn-from_atom a.atoms (Variable v) x l j))) ∙ atom_image-same x)) in
            subst (λ (z : Atom). Contains a.atoms z) (sym back) l);
        answers =
            ap (terms_image g) (sym s.answers) ∙
            (terms_image-composite g h a.answers ∙
            (terms_image-agree (composite g h) Variable a.answers (λ v j. returns h a r v (inr j)) ∙ terms_image-same a.answers));
      };
    }

-- isomorphic queries have equally many atoms
pub length-isomorphic : (a b : Query) → HasEachOnce a.atoms → HasEachOnce b.atoms → AreIsomorphic a b → length a.atoms ≡ length b.atoms
length-isomorphic a b once once_too i =
    let h = i.renaming in
    let s : IsIsomorphism h a b = i.isomorphism in
    let long : length (atoms_image h a.atoms) ≡ length a.atoms = length-map a.atoms (atom_image h) in
    let forth : length (atoms_image h a.atoms) ≤ length b.atoms =
    length-distinct_le (atoms_image h a.atoms) b.atoms (distinct_images h a (record { renames = s.renames; apart = s.apart }) once)
    (λ x j. IsSubset-contains (atoms_image h a.atoms) b.atoms x s.atoms.0 j) in
    let back : length b.atoms ≤ length (atoms_image h a.atoms) =
    length-distinct_le b.atoms (atoms_image h a.atoms) once_too (λ x j. IsSubset-contains b.atoms (atoms_image h a.atoms) x s.atoms.1 j) in
    omega arith
