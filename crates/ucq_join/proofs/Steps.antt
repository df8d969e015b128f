-- How the search for the next set goes on, and what it finds.
use Rattle.std.proofs.Common.{◌≡◌, ◌<◌, ◌≤◌, ◌+◌, ◌-◌, ℕ, Bool, true, false, List, [], ◌∷◌, ◌++◌, length, Contains, AllPairs, ◌⊎◌, Some, None, get_or, nat_eq, cond, eqb-true, refl, sym, ap, ◌∙◌, subst, inl, inr, arith}
use Rattle.std.proofs.Math.Seq.{get_or-append_seam}
use Rattle.std.proofs.lemmas.List.{append_assoc, length-append, length-map}
use Rattle.std.proofs.lemmas.List.Elements.{Contains-append_left, Contains-push, Contains-push_cases}
use Rattle.ucq_terms.proofs.Lists.{Contains-empty}
use Rattle.ucq_join.specs.Walk.{Walk, ComesAfter, IsJoinOf, ArePieces, IsNext, IsLast, MovesTo, piece_member, members_at, links_at}
use Rattle.ucq_join.specs.inner.Search.{start_of, IsStart, IsFirstFrom, IsAdvanced}
use Rattle.ucq_join.specs.Names.{Named, TellsNames}
use Rattle.ucq_join.specs.inner.Naming.{IsNamed}
use Rattle.ucq_join.specs.inner.Copies.{IsWidthOf, IsReadyFor}
use Rattle.ucq_classes.specs.Classes.{Labels, IsClassed}
use Rattle.ucq_join.proofs.Tells.{TellsNames-named}
use Rattle.ucq_join.proofs.Orders.{GoesBeyond, beyond_after, beyond_rising, beyond_gap, after_beyond, beyond_dropped, beyond_nothing, IsBeginning, after_beginning, beginning_all, beginning_dropped}
use Rattle.ucq_join.proofs.Sets.{IsJoin-left, AllPairs-last, start_within}

-- The members are the first ones of the present set, and every set that comes after it goes beyond them, from the start on.
pub record IsSearching (w : Walk) (members : List ℕ) (start : ℕ) : Type 0 where
  pub pieces : ArePieces w.query w.rule w.pieces
  pub beginning : IsBeginning members w.present start
  pub beyond : (other : List ℕ) → IsJoinOf w other → ComesAfter w.present other → GoesBeyond members start other
  pub fits : IsStart w.query w.rule w.pieces members start

-- from no members
pub searching_empty : (w : Walk) → ArePieces w.query w.rule w.pieces → w.present ≡ [] → IsSearching w w.present 0
searching_empty w p e = record {
  pieces = p;
  beginning = beginning_all w.present 0;
  beyond = λ other j c. beyond_after w.present other c;
  fits = record { members_join = inl e; below = λ place i. absurd (Contains-empty place (subst (λ (xs : List ℕ). Contains xs place) e i)) };
}

below_last : (xs : List ℕ) (last place : ℕ) → AllPairs (λ (a b : ℕ). a < b) (xs ++ last ∷ []) → Contains (xs ++ last ∷ []) place → place < last + 1
below_last xs last place r i = elim (Contains-push_cases xs last place i) [
  | inl c ↦ let l : place < last = AllPairs-last (λ (a b : ℕ). a < b) xs place last r c in omega arith
  | inr e ↦ omega arith
]

-- from the last member on
pub searching_after : (w : Walk) (xs : List ℕ) (last : ℕ) → ArePieces w.query w.rule w.pieces → w.present ≡ xs ++ last ∷ [] → IsJoinOf w w.present →
    IsSearching w w.present (last + 1)
searching_after w xs last p e j =
    let r : AllPairs (λ (a b : ℕ). a < b) (xs ++ last ∷ []) = subst (λ (ys : List ℕ). AllPairs (λ (a b : ℕ). a < b) ys) e j.rising in
    record {
      pieces = p;
      beginning = beginning_all w.present (last + 1);
      beyond = λ other k c. subst (λ (ys : List ℕ). GoesBeyond ys (last + 1) other) (sym e)
          (beyond_rising xs other last k.rising (subst (λ (ys : List ℕ). GoesBeyond ys 0 other) e (beyond_after w.present other c)));
      fits = record { members_join = inr j; below = λ place i. below_last xs last place r (subst (λ (ys : List ℕ). Contains ys place) e i) };
    }

-- a set that goes on from the members at a place has them and the place as a set
goes_on : (w : Walk) (members rest other : List ℕ) (place : ℕ) → ArePieces w.query w.rule w.pieces → IsJoinOf w other → other ≡ members ++ place ∷ rest →
    IsJoinOf w (members ++ place ∷ [])
goes_on w members rest other place p j e =
    let long : length (members ++ place ∷ []) ≡ length members + 1 = length-append members (place ∷ []) in
    IsJoin-left w.query w.rule w.pieces (members ++ place ∷ []) rest p (omega arith)
    (subst (IsJoinOf w) (e ∙ sym (append_assoc members (place ∷ []) rest)) j)

-- the first place that joins gives the next set
pub searched_next : (w : Walk) (members : List ℕ) (start first : ℕ) → IsSearching w members start → IsJoinOf w (members ++ first ∷ []) → start ≤ first →
    ((place : ℕ) → start ≤ place → place < first → IsJoinOf w (members ++ place ∷ []) → ⊥) → IsNext w (members ++ first ∷ [])
searched_next w members start first s j l none = record {
  join = j;
  after = after_beginning members w.present start first s.beginning l;
  least = λ other k c. after_beyond members other first (beyond_gap members other start first (s.beyond other k c)
      (record { none = λ place rest m n e. none place m n (goes_on w members rest other place s.pieces k e) }));
}

-- where none joins, the last member is left, and the search goes on after it
pub searching_dropped : (w : Walk) (xs : List ℕ) (last start : ℕ) → IsSearching w (xs ++ last ∷ []) start →
    ((place : ℕ) → start ≤ place → IsJoinOf w ((xs ++ last ∷ []) ++ place ∷ []) → ⊥) → IsSearching w xs (last + 1)
searching_dropped w xs last start s none = record {
  pieces = s.pieces;
  beginning = beginning_dropped xs w.present last start s.beginning;
  beyond = λ other k c. beyond_dropped xs other last start (s.beyond other k c) (λ place rest l e. none place l (goes_on w (xs ++ last ∷ []) rest other place s.pieces k e));
  fits =
      let j : IsJoinOf w (xs ++ last ∷ []) = elim s.fits.members_join [
        | inl e ↦ absurd (Contains-empty last (subst (λ (ys : List ℕ). Contains ys last) e (Contains-push xs last)))
        | inr j ↦ j
      ] in
      record {
        members_join = left xs j;
        below = λ place i. below_last xs last place j.rising (Contains-append_left xs (last ∷ []) place i);
      };
}
  where
    left : (xs : List ℕ) → IsJoinOf w (xs ++ last ∷ []) → (xs ≡ []) ⊎ IsJoinOf w xs
    left [] j = inl refl
    left (x ∷ xs) j = inr (IsJoin-left w.query w.rule w.pieces (x ∷ xs) (last ∷ []) s.pieces (omega arith) j)

-- where none joins no members, no set comes after the present one
pub searched_last : (w : Walk) (members : List ℕ) (start : ℕ) → IsSearching w members start → members ≡ [] →
    ((place : ℕ) → start ≤ place → IsJoinOf w (members ++ place ∷ []) → ⊥) → IsLast w
searched_last w members start s e none = record {
  none = λ other k c.
      beyond_nothing other start (subst (λ (ys : List ℕ). GoesBeyond ys start other) e (s.beyond other k c))
      (λ place rest l d. none place l (goes_on w members rest other place s.pieces k (d ∙ ap (λ (ys : List ℕ). ys ++ place ∷ rest) (sym e))));
}

-- The place after the last one.
split_last : (xs : List ℕ) → (xs ≡ []) ⊎ ((ys : List ℕ) × (last : ℕ) × (xs ≡ ys ++ last ∷ []))
split_last [] = inl refl
split_last (x ∷ xs) = elim (split_last xs) [
  | inl e ↦ inr ([], x, ap (λ (ys : List ℕ). x ∷ ys) e)
  | inr (ys, last, e) ↦ inr (x ∷ ys, last, ap (λ (zs : List ℕ). x ∷ zs) e)
]

chosen_else : (b : Bool) (x y : ℕ) → (b ≡ true → ⊥) → cond b x y ≡ y
chosen_else true x y n = absurd (n refl)
chosen_else false x y n = refl

start_of-last : (ys : List ℕ) (last : ℕ) → start_of (ys ++ last ∷ []) ≡ last + 1
start_of-last ys last =
    let xs = ys ++ last ∷ [] in
    let long : length xs ≡ length ys + 1 = length-append ys (last ∷ []) in
    let place : length xs - 1 ≡ length ys = omega arith in
    chosen_else (nat_eq (length xs) 0) 0 (get_or xs (length xs - 1) 0 + 1) (λ e. let z : length xs ≡ 0 = eqb-true (length xs) 0 e in absurd (omega arith)) ∙
    ap (λ (n : ℕ). n + 1) (ap (λ (n : ℕ). get_or xs n 0) place ∙ get_or-append_seam ys last [] 0)

-- the search begins there
pub searching_start : (w : Walk) (read : List ℕ) (start : ℕ) → ArePieces w.query w.rule w.pieces → (w.present ≡ []) ⊎ IsJoinOf w w.present → read ≡ w.present →
    start ≡ start_of read → IsSearching w w.present start
searching_start w read start p j e s = elim (split_last w.present) [
  | inl d ↦
      let zero' : start ≡ 0 = s ∙ ap start_of (e ∙ d) in
      subst (λ (n : ℕ). IsSearching w w.present n) (sym zero') (searching_empty w p d)
  | inr (ys, last, d) ↦
      let after : start ≡ last + 1 = s ∙ (ap start_of (e ∙ d) ∙ start_of-last ys last) in
      let joined : IsJoinOf w w.present = elim j [
        | inl none ↦ absurd (Contains-empty last (subst (λ (xs : List ℕ). Contains xs last) (sym d ∙ none) (Contains-push ys last)))
        | inr k ↦ k
      ] in
      subst (λ (n : ℕ). IsSearching w w.present n) (sym after) (searching_after w ys last p d joined)
]

-- the first joining place found, or none
pub next_found : (w : Walk) (read members items : List ℕ) (start first : ℕ) → read ≡ members → items ≡ members ++ first ∷ [] → IsSearching w members start →
    IsFirstFrom w.query w.rule w.pieces read start (Some first) → IsNext w items
next_found w read members items start first e d s f =
    subst (IsNext w) (sym d)
    (searched_next w members start first s (subst (λ (xs : List ℕ). IsJoinOf w (xs ++ first ∷ [])) e f.1) f.0
    (λ place l m j. f.2 place l m (subst (λ (xs : List ℕ). IsJoinOf w (xs ++ place ∷ [])) (sym e) j)))

pub none_found : (w : Walk) (read members : List ℕ) (start : ℕ) → read ≡ members → length read ≡ 0 → IsSearching w members start →
    IsFirstFrom w.query w.rule w.pieces read start None → IsLast w
none_found w read members start e z s f =
    searched_last w members start s (sym e ∙ no_elements read z) (λ place l j. f place l (subst (λ (xs : List ℕ). IsJoinOf w (xs ++ place ∷ [])) (sym e) j))
  where
    no_elements : (xs : List ℕ) → length xs ≡ 0 → xs ≡ []
    no_elements [] e = refl
    no_elements (x ∷ xs) e = absurd (omega arith)

pub last_left : (w : Walk) (read members rest : List ℕ) (start last : ℕ) → read ≡ members → members ≡ rest ++ last ∷ [] → IsSearching w members start →
    IsFirstFrom w.query w.rule w.pieces read start None → IsSearching w rest (last + 1)
last_left w read members rest start last e d s f =
    searching_dropped w rest last start (subst (λ (xs : List ℕ). IsSearching w xs start) d s)
    (λ place l j. f place l (subst (λ (xs : List ℕ). IsJoinOf w (xs ++ place ∷ [])) (sym (e ∙ d)) j))

-- the last member is the place of a piece
pub last_within : (w : Walk) (members rest : List ℕ) (start last : ℕ) → members ≡ rest ++ last ∷ [] → IsSearching w members start → last < length w.pieces
last_within w members rest start last d s =
    start_within w.query w.rule w.pieces members s.fits.members_join last (subst (λ (xs : List ℕ). Contains xs last) (sym d) (Contains-push rest last))

-- What the search found, by its answer.
pub found_next : (w : Walk) (members : List ℕ) (found : Bool) → found ≡ true → IsAdvanced w members found → IsNext w members
found_next w members true e a = a
found_next w members false e a = cc

pub found_last : (w : Walk) (members : List ℕ) (found : Bool) → found ≡ false → IsAdvanced w members found → IsLast w
found_last w members true e a = cc
found_last w members false e a = a

-- the next set with its names
pub MovesTo-named : (w : Walk) (c : Labels) (members : List ℕ) (j : Named) → IsReadyFor w.query w.rule c.numbers → IsWidthOf w.rule j.width → IsNext w members →
    IsNamed c members j → IsClassed (links_at w.query w.rule w.pieces members) c → MovesTo w (record w { present = members }) j
MovesTo-named w c members j h wide n named classed = record {
  next = subst (IsNext w) (sym named.members) n;
  names = subst (λ (xs : List ℕ). TellsNames w.query w.rule (members_at w.pieces xs) j) (sym named.members)
      (TellsNames-named w.query w.rule c members j (members_at w.pieces members) h wide (length-map members (piece_member w.pieces)) named classed
      n.join.aggregate.no_clash);
  stands = ap (λ (xs : List ℕ). record w { present = xs }) (sym named.members);
}
