-- A query that covers another has no mark that the other has not.
use Rattle.std.proofs.Common.{◌≡◌, ℕ, Bool, true, false, cond, inl, inr, refl, sym, ap, ◌∙◌, List, [], ◌∷◌, length, fold, Contains, get_or, ◌<◌, arith, subst}
use Rattle.std.specs.Prelude.{bit_and, bit_or}
use Rattle.std.specs.List.{enumerate_from}
use Rattle.std.proofs.lemmas.Nat.Bits.{bit_at_and, bit_at_or, bit_at-zero, same_from_bits}
use Rattle.ucq_terms.specs.declared.Term.{Term}
use Rattle.ucq_terms.specs.declared.Term.TheVariants.{Constant, Variable}
use Rattle.ucq_terms.specs.Syntax.{Atom, Query, term_image, terms_image, atom_image, atoms_image}
use Rattle.ucq_terms.specs.Homomorphism.{Covers}
use Rattle.ucq_terms.proofs.Lists.{Contains-first, Contains-rest, Contains-cons_cases, Contains-empty, Contains-map}
use Rattle.ucq_terms.proofs.Zips.{Contains-enumerate, Contains-from_enumerate}
use Rattle.std.proofs.lemmas.List.{get_or-map, length-map}
use Rattle.std.proofs.lemmas.List.Elements.{All-contains}
use Rattle.ucq_terms.specs.Numbering.{term_eq}
use Rattle.ucq_terms.specs.Equality.{Decides-term_eq}
use Rattle.ucq_hom.specs.Signature.{mark, constant_mark, equal_mark, answer_number, equal_number, answer_marks, term_marks, atom_marks, query_marks, signature_of, IsPartOf}

part_of_itself : (x : ℕ) → IsPartOf x x
part_of_itself x = record { each = λ i. omega arith }

part_through : (x y z : ℕ) → IsPartOf x y → IsPartOf y z → IsPartOf x z
part_through x y z a b = record { each = λ i. let l = a.each i in let m = b.each i in omega arith }

none_part : (y : ℕ) → IsPartOf 0 y
none_part y = record { each = λ i. let z = bit_at-zero i in omega arith }

left_part : (x y : ℕ) → IsPartOf x (bit_or x y)
left_part x y = record { each = λ i. let e = bit_at_or x y i in omega arith }

right_part : (x y : ℕ) → IsPartOf y (bit_or x y)
right_part x y = record { each = λ i. let e = bit_at_or x y i in omega arith }

both_part : (x y z : ℕ) → IsPartOf x z → IsPartOf y z → IsPartOf (bit_or x y) z
both_part x y z a b = record { each = λ i. let e = bit_at_or x y i in let l = a.each i in let m = b.each i in omega arith }

-- what the code asks
pub and_part : (x y : ℕ) → IsPartOf x y → bit_and x y ≡ x
and_part x y w = same_from_bits (bit_and x y) x (λ i. let e = bit_at_and x y i in let l = w.each i in omega arith)

module _ {X : Type 0} (f : X → ℕ) where
  abbrev all : ℕ → List X → ℕ
  all start xs = fold (λ (marks : ℕ) (x : X). bit_or marks (f x)) start xs

  start_part : (start : ℕ) (xs : List X) → IsPartOf start (all start xs)
  start_part start [] = part_of_itself start
  start_part start (x ∷ xs) = part_through start (bit_or start (f x)) (all (bit_or start (f x)) xs) (left_part start (f x)) (start_part (bit_or start (f x)) xs)

  one_part : (start : ℕ) (xs : List X) (x : X) → Contains xs x → IsPartOf (f x) (all start xs)
  one_part start [] x i = absurd (Contains-empty x i)
  one_part start (y ∷ xs) x i = elim (Contains-cons_cases y xs x i) [
    | inl s ↦ subst (λ (w : X). IsPartOf (f w) (all (bit_or start (f y)) xs)) s
        (part_through (f y) (bit_or start (f y)) (all (bit_or start (f y)) xs) (right_part start (f y)) (start_part (bit_or start (f y)) xs))
    | inr h ↦ one_part (bit_or start (f y)) xs x h
  ]

  all_part : (start : ℕ) (xs : List X) (z : ℕ) → IsPartOf start z → ((x : X) → Contains xs x → IsPartOf (f x) z) → IsPartOf (all start xs) z
  all_part start [] z s each = s
  all_part start (y ∷ xs) z s each =
      all_part (bit_or start (f y)) xs z (both_part start (f y) z s (each y (Contains-first y xs))) (λ x i. each x (Contains-rest y xs x i))

-- a term's image stands at its place
image_stays : (h : ℕ → Term) (ts : List Term) (place : ℕ) (t : Term) → Contains {X = ℕ × Term} (enumerate_from 0 ts) (place, t) →
    Contains {X = ℕ × Term} (enumerate_from 0 (terms_image h ts)) (place, term_image h t)
image_stays h ts place t i =
    let (l, e) = Contains-from_enumerate ts (place, t) i in
    let at : get_or (terms_image h ts) place (term_image h t) ≡ term_image h t =
    get_or-map (term_image h) ts place t (term_image h t) l ∙ ap (term_image h) e in
    let size : length (terms_image h ts) ≡ length ts = length-map ts (term_image h) in
    subst (λ (s : Term). Contains {X = ℕ × Term} (enumerate_from 0 (terms_image h ts)) (place, s)) at
    (Contains-enumerate (terms_image h ts) place (term_image h t) (subst (λ (n : ℕ). place < n) (sym size) l))

-- equal terms have equal images
equal_part : (size n : ℕ) (h : ℕ → Term) (t s : Term) → IsPartOf (equal_mark size n t s) (equal_mark size n (term_image h t) (term_image h s))
equal_part size n h t s = go (term_eq t s) refl
  where
    go : (b : Bool) → term_eq t s ≡ b → IsPartOf (equal_mark size n t s) (equal_mark size n (term_image h t) (term_image h s))
    go true e =
        let same : t ≡ s = (Decides-term_eq t s).0 e in
        let also : term_eq (term_image h t) (term_image h s) ≡ true = (Decides-term_eq (term_image h t) (term_image h s)).1 (ap (term_image h) same) in
        let mine : equal_mark size n t s ≡ mark size n = ap (λ (b : Bool). cond b (mark size n) 0) e in
        let theirs : equal_mark size n (term_image h t) (term_image h s) ≡ mark size n = ap (λ (b : Bool). cond b (mark size n) 0) also in
        subst (IsPartOf (equal_mark size n t s)) (mine ∙ sym theirs) (part_of_itself (equal_mark size n t s))
    go false e =
        subst (λ (w : ℕ). IsPartOf w (equal_mark size n (term_image h t) (term_image h s))) (sym (ap (λ (b : Bool). cond b (mark size n) 0) e))
        (none_part (equal_mark size n (term_image h t) (term_image h s)))

-- the marks of equal terms in a list are among those of the images
equals_part : (size : ℕ) (number : ℕ → ℕ) (h : ℕ → Term) (t : Term) (ts : List Term) (start other : ℕ) → IsPartOf start other →
    IsPartOf (all (λ (p : ℕ × Term). equal_mark size (number p.0) t p.1) start (enumerate_from 0 ts))
    (all (λ (p : ℕ × Term). equal_mark size (number p.0) (term_image h t) p.1) other (enumerate_from 0 (terms_image h ts)))
equals_part size number h t ts start other s =
    all_part mine start (enumerate_from 0 ts) marks (part_through start other marks s (start_part theirs other image)) (λ (k, u) i.
    part_through (mine (k, u)) (theirs (k, term_image h u)) marks (equal_part size (number k) h t u)
    (one_part theirs other image (k, term_image h u) (image_stays h ts k u i)))
  where
    mine : ℕ × Term → ℕ
    mine p = equal_mark size (number p.0) t p.1

    theirs : ℕ × Term → ℕ
    theirs p = equal_mark size (number p.0) (term_image h t) p.1

    image : List (ℕ × Term)
    image = enumerate_from 0 (terms_image h ts)

    marks : ℕ
    marks = all theirs other image

constant_part : (size name place : ℕ) (h : ℕ → Term) (t : Term) → IsPartOf (constant_mark size name place t) (constant_mark size name place (term_image h t))
constant_part size name place h (Constant c) = part_of_itself (constant_mark size name place (Constant c))
constant_part size name place h (Variable v) = none_part (constant_mark size name place (term_image h (Variable v)))

-- the marks of a term are among those of its image
term_part : (size : ℕ) (h : ℕ → Term) (answers : List Term) (a : Atom) (place : ℕ) (t : Term) →
    IsPartOf (term_marks size answers a (place, t)) (term_marks size (terms_image h answers) (atom_image h a) (place, term_image h t))
term_part size h answers a place t =
    equals_part size (equal_number a.name place) h t a.terms (answer_marks size answers a.name (place, t)) (answer_marks size (terms_image h answers) a.name (place, term_image h t))
    (equals_part size (answer_number a.name place) h t answers (constant_mark size a.name place t) (constant_mark size a.name place (term_image h t)) (constant_part size a.name place h t))

atom_part : (size : ℕ) (h : ℕ → Term) (answers : List Term) (a : Atom) → IsPartOf (atom_marks size answers a) (atom_marks size (terms_image h answers) (atom_image h a))
atom_part size h answers a =
    all_part (term_marks size answers a) (mark size a.name) (enumerate_from 0 a.terms) marks (start_part theirs (mark size a.name) image) (λ (place, t) i.
    part_through (term_marks size answers a (place, t)) (theirs (place, term_image h t)) marks (term_part size h answers a place t)
    (one_part theirs (mark size a.name) image (place, term_image h t) (image_stays h a.terms place t i)))
  where
    theirs : ℕ × Term → ℕ
    theirs p = term_marks size (terms_image h answers) (atom_image h a) p

    image : List (ℕ × Term)
    image = enumerate_from 0 (terms_image h a.terms)

    marks : ℕ
    marks = atom_marks size (terms_image h answers) (atom_image h a)

-- so the marks of a query are among those of what it covers
image_part : (size : ℕ) (h : ℕ → Term) (a b : Query) → ((x : Atom) → Contains a.atoms x → Contains b.atoms (atom_image h x)) → terms_image h a.answers ≡ b.answers →
    IsPartOf (query_marks size a) (query_marks size b)
image_part size h a b sent answers =
    all_part (atom_marks size a.answers) 0 a.atoms (query_marks size b) (none_part (query_marks size b)) (λ x i.
    part_through (atom_marks size a.answers x) (atom_marks size b.answers (atom_image h x)) (query_marks size b)
    (subst (λ (ts : List Term). IsPartOf (atom_marks size a.answers x) (atom_marks size ts (atom_image h x))) answers (atom_part size h a.answers x))
    (one_part (atom_marks size b.answers) 0 b.atoms (atom_image h x) (sent x i)))

pub covers_part : (size : ℕ) (a b : Query) → Covers a b → IsPartOf (query_marks size a) (query_marks size b)
covers_part size a b c =
    let h : ℕ → Term = c.mapping in
    image_part size h a b (λ x i. All-contains (Contains b.atoms) (atoms_image h a.atoms) (atom_image h x) c.homomorphism.atoms (Contains-map (atom_image h) a.atoms x i)) c.homomorphism.answers

-- and so are those of the first set
pub first_part : (a b : Query) → Covers a b → IsPartOf (signature_of a).first (signature_of b).first
first_part a b c = covers_part 128 a b c

-- so a mark that the other has not tells that a query doesn't cover it
pub apart_by : (size : ℕ) (a b : Query) (x y : ℕ) → x ≡ query_marks size a → y ≡ query_marks size b → ¬ IsPartOf x y → ¬ Covers a b
apart_by size a b x y e f apart c =
    apart (subst (λ (m : ℕ). IsPartOf m y) (sym e) (subst (IsPartOf (query_marks size a)) (sym f) (covers_part size a b c)))
