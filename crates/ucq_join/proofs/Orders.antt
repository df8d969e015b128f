-- The order of the sets that a walk gives.
use Rattle.std.proofs.Common.{◌≡◌, ◌<◌, ◌≤◌, ◌+◌, ℕ, List, [], ◌∷◌, ◌++◌, AllPairs, ◌⊎◌, refl, sym, ap, ap₂, ◌∙◌, subst, inl, inr, arith}
use Rattle.std.proofs.lemmas.Bool.{cases_lt, cases_eq}
use Rattle.std.proofs.lemmas.List.{append-nil, append_assoc}
use Rattle.ucq_terms.proofs.Lists.{Contains-first}
use Rattle.ucq_terms.proofs.Pairwise.{AllPairs-first, AllPairs-rest}
use Rattle.ucq_join.specs.Walk.{ComesAfter}

pub ComesAfter-trans : (xs ys zs : List ℕ) → ComesAfter xs ys → ComesAfter ys zs → ComesAfter xs zs
ComesAfter-trans [] [] zs h k = absurd h
ComesAfter-trans [] (y ∷ ys) [] h k = absurd k
ComesAfter-trans [] (y ∷ ys) (z ∷ zs) h k = tt
ComesAfter-trans (x ∷ xs) [] zs h k = absurd h
ComesAfter-trans (x ∷ xs) (y ∷ ys) [] h k = absurd k
ComesAfter-trans (x ∷ xs) (y ∷ ys) (z ∷ zs) (inl l) (inl m) = inl (omega arith)
ComesAfter-trans (x ∷ xs) (y ∷ ys) (z ∷ zs) (inl l) (inr (e, k)) = inl (omega arith)
ComesAfter-trans (x ∷ xs) (y ∷ ys) (z ∷ zs) (inr (e, h)) (inl m) = inl (omega arith)
ComesAfter-trans (x ∷ xs) (y ∷ ys) (z ∷ zs) (inr (e, h)) (inr (d, k)) = inr (e ∙ d, ComesAfter-trans xs ys zs h k)

pub ComesAfter-irrefl : (xs : List ℕ) → ComesAfter xs xs → ⊥
ComesAfter-irrefl [] h = h
ComesAfter-irrefl (x ∷ xs) (inl l) = absurd (omega arith)
ComesAfter-irrefl (x ∷ xs) (inr (e, h)) = ComesAfter-irrefl xs h

-- The list goes on from the first one at a place from the start on, or has a later place where it first differs from it.
abbrev pub GoesBeyond : List ℕ → ℕ → List ℕ → Type 0
GoesBeyond [] start [] = ⊥
GoesBeyond [] start (y ∷ ys) = start ≤ y
GoesBeyond (x ∷ xs) start [] = ⊥
GoesBeyond (x ∷ xs) start (y ∷ ys) = (x < y) ⊎ ((x ≡ y) × GoesBeyond xs start ys)

-- what comes after a list goes beyond it
pub beyond_after : (xs ys : List ℕ) → ComesAfter xs ys → GoesBeyond xs 0 ys
beyond_after [] [] h = h
beyond_after [] (y ∷ ys) h = omega arith
beyond_after (x ∷ xs) [] h = h
beyond_after (x ∷ xs) (y ∷ ys) (inl l) = inl l
beyond_after (x ∷ xs) (y ∷ ys) (inr (e, h)) = inr (e, beyond_after xs ys h)

-- a rising list that goes beyond another one goes on past its last place
pub beyond_rising : (xs ys : List ℕ) (last : ℕ) → AllPairs (λ (a b : ℕ). a < b) ys → GoesBeyond (xs ++ last ∷ []) 0 ys → GoesBeyond (xs ++ last ∷ []) (last + 1) ys
beyond_rising [] [] last r h = absurd h
beyond_rising [] (y ∷ ys) last r (inl l) = inl l
beyond_rising [] (y ∷ []) last r (inr (e, h)) = absurd h
beyond_rising [] (y ∷ z ∷ zs) last r (inr (e, h)) =
    let l : y < z = AllPairs-first (λ (a b : ℕ). a < b) y (z ∷ zs) z r (Contains-first z zs) in inr (e, omega arith)
beyond_rising (x ∷ xs) [] last r h = absurd h
beyond_rising (x ∷ xs) (y ∷ ys) last r (inl l) = inl l
beyond_rising (x ∷ xs) (y ∷ ys) last r (inr (e, h)) = inr (e, beyond_rising xs ys last (AllPairs-rest (λ (a b : ℕ). a < b) y ys r) h)

-- the list does not go on from the first one at any place from the start on and below the end
pub record IsGap (xs : List ℕ) (start end : ℕ) (ys : List ℕ) : Type 0 where
  pub none : (place : ℕ) (rest : List ℕ) → start ≤ place → place < end → ys ≡ xs ++ place ∷ rest → ⊥

IsGap-rest : (x y : ℕ) (xs : List ℕ) (start end : ℕ) (ys : List ℕ) → x ≡ y → IsGap (x ∷ xs) start end (y ∷ ys) → IsGap xs start end ys
IsGap-rest x y xs start end ys e g = record { none = λ place rest l m d. g.none place rest l m (ap₂ (λ (z : ℕ) (zs : List ℕ). z ∷ zs) (sym e) d) }

-- then it goes beyond from the end on
pub beyond_gap : (xs ys : List ℕ) (start end : ℕ) → GoesBeyond xs start ys → IsGap xs start end ys → GoesBeyond xs end ys
beyond_gap [] [] start end h g = absurd h
beyond_gap [] (y ∷ ys) start end h g = elim (cases_lt y end) [ inl l ↦ absurd (g.none y ys h l refl) | inr l ↦ l ]
beyond_gap (x ∷ xs) [] start end h g = absurd h
beyond_gap (x ∷ xs) (y ∷ ys) start end (inl l) g = inl l
beyond_gap (x ∷ xs) (y ∷ ys) start end (inr (e, h)) g = inr (e, beyond_gap xs ys start end h (IsGap-rest x y xs start end ys e g))

-- all that goes beyond is the list with the start, or comes after it
pub after_beyond : (xs ys : List ℕ) (start : ℕ) → GoesBeyond xs start ys → (xs ++ start ∷ [] ≡ ys) ⊎ ComesAfter (xs ++ start ∷ []) ys
after_beyond [] [] start h = absurd h
after_beyond [] (y ∷ ys) start h = elim (cases_eq start y) [
  | inl e ↦ only e ys
  | inr ne ↦ inr (inl (omega arith))
]
  where
    only : start ≡ y → (zs : List ℕ) → (start ∷ [] ≡ y ∷ zs) ⊎ ComesAfter (start ∷ []) (y ∷ zs)
    only e [] = inl (ap (λ (z : ℕ). z ∷ []) e)
    only e (z ∷ zs) = inr (inr (e, tt))
after_beyond (x ∷ xs) [] start h = absurd h
after_beyond (x ∷ xs) (y ∷ ys) start (inl l) = inr (inl l)
after_beyond (x ∷ xs) (y ∷ ys) start (inr (e, h)) = elim (after_beyond xs ys start h) [
  | inl d ↦ inl (ap₂ (λ (z : ℕ) (zs : List ℕ). z ∷ zs) e d)
  | inr k ↦ inr (inr (e, k))
]

-- a list that does not go on from the start is left, and goes beyond the places before the last
pub beyond_dropped : (xs ys : List ℕ) (last start : ℕ) → GoesBeyond (xs ++ last ∷ []) start ys →
    ((place : ℕ) (rest : List ℕ) → start ≤ place → ys ≡ (xs ++ last ∷ []) ++ place ∷ rest → ⊥) → GoesBeyond xs (last + 1) ys
beyond_dropped [] [] last start h f = absurd h
beyond_dropped [] (y ∷ ys) last start (inl l) f = omega arith
beyond_dropped [] (y ∷ []) last start (inr (e, h)) f = absurd h
beyond_dropped [] (y ∷ z ∷ zs) last start (inr (e, h)) f = absurd (f z zs h (ap (λ (u : ℕ). u ∷ z ∷ zs) (sym e)))
beyond_dropped (x ∷ xs) [] last start h f = absurd h
beyond_dropped (x ∷ xs) (y ∷ ys) last start (inl l) f = inl l
beyond_dropped (x ∷ xs) (y ∷ ys) last start (inr (e, h)) f =
    inr (e, beyond_dropped xs ys last start h (λ place rest l d. f place rest l (ap₂ (λ (u : ℕ) (us : List ℕ). u ∷ us) (sym e) d)))

pub beyond_nothing : (ys : List ℕ) (start : ℕ) → GoesBeyond [] start ys → ((place : ℕ) (rest : List ℕ) → start ≤ place → ys ≡ place ∷ rest → ⊥) → ⊥
beyond_nothing [] start h f = h
beyond_nothing (y ∷ ys) start h f = f y ys h refl

-- The first places of a list, and what is left of it, whose first one is below the start.
pub record IsBeginning (xs whole : List ℕ) (start : ℕ) : Type 0 where
  pub rest : List ℕ
  pub whole_is : whole ≡ xs ++ rest
  pub below : (r : ℕ) (more : List ℕ) → rest ≡ r ∷ more → r < start

pub after_beginning : (xs whole : List ℕ) (start next : ℕ) → IsBeginning xs whole start → start ≤ next → ComesAfter whole (xs ++ next ∷ [])
after_beginning xs whole start next b l = subst (λ (ys : List ℕ). ComesAfter ys (xs ++ next ∷ [])) (sym b.whole_is) (go xs b.rest (λ r more e. b.below r more e))
  where
    go : (xs rest : List ℕ) → ((r : ℕ) (more : List ℕ) → rest ≡ r ∷ more → r < start) → ComesAfter (xs ++ rest) (xs ++ next ∷ [])
    go [] [] f = tt
    go [] (r ∷ more) f = let m : r < start = f r more refl in inl (omega arith)
    go (x ∷ xs) rest f = inr (refl, go xs rest f)

pub beginning_all : (xs : List ℕ) (start : ℕ) → IsBeginning xs xs start
beginning_all xs start = record { rest = []; whole_is = sym (append-nil xs); below = λ r more e. cc }

pub beginning_dropped : (xs whole : List ℕ) (last start : ℕ) → IsBeginning (xs ++ last ∷ []) whole start → IsBeginning xs whole (last + 1)
beginning_dropped xs whole last start b = record {
  rest = last ∷ b.rest;
  whole_is = b.whole_is ∙ append_assoc xs (last ∷ []) b.rest;
  below = λ r more e. let d : last ≡ r = cc in omega arith;
}
