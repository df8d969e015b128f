-- Sets of pieces that make aggregates: one more piece, fewer pieces, and how many there are.
use Rattle.std.proofs.Common.{◌≡◌, ◌≢◌, ◌<◌, ◌≤◌, ◌+◌, ℕ, suc, List, [], ◌∷◌, ◌++◌, length, take, map, flat_map, Contains, All, AllPairs, ◌⊎◌, get_or, sym, ap, ◌∙◌, subst, inl, inr, arith}
use Rattle.std.specs.List.{enumerate_from, range_with_len}
use Rattle.std.proofs.lemmas.Bool.{cases_lt, cases_eq}
use Rattle.std.proofs.lemmas.List.{map-append, length-append, length-map, get_or_append_left, get_or_default, get_or-map, append-nil, take_more, length-take-le}
use Rattle.std.proofs.lemmas.List.FromFn.{length-range_with_len, get_or-range_with_len}
use Rattle.std.proofs.lemmas.List.Elements.{Contains-get_or, Contains-append_left, Contains-push, Contains-push_cases}
use Rattle.std.proofs.lemmas.Grind.{flat_map-append}
use Rattle.std.proofs.Math.Seq.{get_or-append_seam}
use Rattle.ucq_terms.specs.Syntax.{Query, Rule}
use Rattle.ucq_terms.specs.Unifier.{Node, atom_at, places, links, HasNoClash}
use Rattle.ucq_terms.specs.Rewriting.{Member, all_links, rule_at, AreApart, IsMember}
use Rattle.ucq_terms.proofs.Classes.{AreJoined-more}
use Rattle.ucq_terms.proofs.Distinct.{IsDistinct, length-distinct_le}
use Rattle.ucq_terms.proofs.Lists.{All-from_contains, Contains-from_map, Contains-empty, Contains-cons_cases}
use Rattle.ucq_terms.proofs.Pairwise.{AllPairs-append, AllPairs-map}
use Rattle.ucq_terms.proofs.Places.{Contains-places}
use Rattle.ucq_classes.specs.Classes.{atom_links}
use Rattle.ucq_join.specs.inner.Copies.{KeepsEach}
use Rattle.ucq_join.specs.Walk.{piece_member, members_at, links_at, IsJoin, ArePieces}

-- What holds of each two elements of a list holds of those before the last, and of each of these with it.
pub AllPairs-left : {X : Type 0} (R : X → X → Type 0) (xs ys : List X) → AllPairs R (xs ++ ys) → AllPairs R xs
AllPairs-left {X} R xs ys h = λ i j d l m.
    let long : length (xs ++ ys) ≡ length xs + length ys = length-append xs ys in
    let a : get_or (xs ++ ys) i d ≡ get_or xs i d = get_or_append_left xs ys d i (omega arith) in
    let b : get_or (xs ++ ys) j d ≡ get_or xs j d = get_or_append_left xs ys d j m in
    subst (λ (x : X). R x (get_or xs j d)) a (subst (λ (y : X). R (get_or (xs ++ ys) i d) y) b (h i j d l (omega arith)))

pub AllPairs-last : {X : Type 0} (R : X → X → Type 0) (xs : List X) (x y : X) → AllPairs R (xs ++ y ∷ []) → Contains xs x → R x y
AllPairs-last {X} R xs x y h (k, l, e) =
    let long : length (xs ++ y ∷ []) ≡ length xs + 1 = length-append xs (y ∷ []) in
    let a : get_or (xs ++ y ∷ []) k x ≡ x = get_or_append_left xs (y ∷ []) x k l ∙ e in
    let b : get_or (xs ++ y ∷ []) (length xs) x ≡ y = get_or-append_seam xs y [] x in
    subst (λ (z : X). R z y) a (subst (λ (z : X). R (get_or (xs ++ y ∷ []) k x) z) b (h k (length xs) x l (omega arith)))

pub AllPairs-one : {X : Type 0} (R : X → X → Type 0) (x : X) → AllPairs R (x ∷ [])
AllPairs-one R x = λ i j d l m. absurd (omega arith)

pub AllPairs-push : {X : Type 0} (R : X → X → Type 0) (xs : List X) (y : X) → AllPairs R xs → ((x : X) → Contains xs x → R x y) → AllPairs R (xs ++ y ∷ [])
AllPairs-push {X} R xs y h f = AllPairs-append R xs (y ∷ []) h (AllPairs-one R y) (λ a b i j. elim (Contains-cons_cases y [] b j) [
  | inl e ↦ subst (λ (z : X). R a z) e (f a i)
  | inr c ↦ absurd (Contains-empty b c)
])

All-at : {X : Type 0} (P : X → Type 0) (xs : List X) (x : X) → All P xs → Contains xs x → P x
All-at P xs x h (k, l, e) = subst P e (h k x l)

-- The links of more pieces.
enumerate-append : {X : Type 0} (n : ℕ) (xs ys : List X) → enumerate_from n (xs ++ ys) ≡ enumerate_from n xs ++ enumerate_from (n + length xs) ys
enumerate-append n [] ys = ap (λ (m : ℕ). enumerate_from m ys) (let e : n ≡ n + 0 = omega arith in e)
enumerate-append {X} n (x ∷ xs) ys =
    let e : n + 1 + length xs ≡ n + suc (length xs) = omega arith in
    ap (λ (l : List (ℕ × X)). (n, x) ∷ l) (enumerate-append (n + 1) xs ys ∙ ap (λ (m : ℕ). enumerate_from (n + 1) xs ++ enumerate_from m ys) e)

-- the links of a member with its place
abbrev entry_links : Query → Rule → ℕ × Member → List (Node × Node)
entry_links q rule p = links q p.0 (rule_at (rule ∷ []) p.1.rule) p.1.pairs

pub links_at-push : (q : Query) (rule : Rule) (pieces : List (List (ℕ × ℕ))) (xs : List ℕ) (place : ℕ) →
    links_at q rule pieces (xs ++ place ∷ []) ≡ links_at q rule pieces xs ++ links q (length xs) rule (piece_member pieces place).pairs
links_at-push q rule pieces xs place =
    let ms = members_at pieces xs in
    let m = piece_member pieces place in
    let long : 0 + length ms ≡ length xs = let l = length-map xs (piece_member pieces) in omega arith in
    ap (all_links q (rule ∷ [])) (map-append (piece_member pieces) xs (place ∷ [])) ∙
    (ap (flat_map (entry_links q rule)) (enumerate-append 0 ms (m ∷ [])) ∙
    (flat_map-append (entry_links q rule) (enumerate_from 0 ms) ((0 + length ms, m) ∷ []) ∙
    ap (λ (ls : List (Node × Node)). links_at q rule pieces xs ++ ls) (append-nil (links q (0 + length ms) rule m.pairs) ∙ ap (λ (k : ℕ). links q k rule m.pairs) long)))

links_at-more : (q : Query) (rule : Rule) (pieces : List (List (ℕ × ℕ))) (xs ys : List ℕ) (l : Node × Node) → Contains (links_at q rule pieces xs) l →
    Contains (links_at q rule pieces (xs ++ ys)) l
links_at-more q rule pieces xs ys l c =
    let ms = members_at pieces xs in
    let ns = members_at pieces ys in
    let split : links_at q rule pieces (xs ++ ys) ≡ links_at q rule pieces xs ++ flat_map (entry_links q rule) (enumerate_from (0 + length ms) ns) =
    ap (all_links q (rule ∷ [])) (map-append (piece_member pieces) xs ys) ∙
    (ap (flat_map (entry_links q rule)) (enumerate-append 0 ms ns) ∙ flat_map-append (entry_links q rule) (enumerate_from 0 ms) (enumerate_from (0 + length ms) ns)) in
    subst (λ (ls : List (Node × Node)). Contains ls l) (sym split)
    (Contains-append_left (links_at q rule pieces xs) (flat_map (entry_links q rule) (enumerate_from (0 + length ms) ns)) l c)

-- What a set of pieces that makes an aggregate is, by the places.
pub record IsSet (q : Query) (rule : Rule) (pieces : List (List (ℕ × ℕ))) (xs : List ℕ) : Type 0 where
  pub rising : AllPairs (λ (a b : ℕ). a < b) xs
  pub within : (place : ℕ) → Contains xs place → place < length pieces
  pub nonempty : 0 < length xs
  pub apart : (a b : ℕ) → Contains xs a → Contains xs b → a < b → AreApart (piece_member pieces a) (piece_member pieces b)
  pub no_clash : HasNoClash (links_at q rule pieces xs)

piece_single : (q : Query) (rule : Rule) (pieces : List (List (ℕ × ℕ))) (place : ℕ) → ArePieces q rule pieces → place < length pieces →
    IsMember q (rule ∷ []) (piece_member pieces place)
piece_single q rule pieces place p l = record { rule = omega arith; single = p.single (piece_member pieces place).pairs (Contains-get_or pieces place [] l) }

pub IsJoin-set : (q : Query) (rule : Rule) (pieces : List (List (ℕ × ℕ))) (xs : List ℕ) → ArePieces q rule pieces → IsSet q rule pieces xs → IsJoin q rule pieces xs
IsJoin-set q rule pieces xs p s = record {
  rising = s.rising;
  within = s.within;
  aggregate = record {
    nonempty = let l = length-map xs (piece_member pieces) in let n = s.nonempty in omega arith;
    each = All-from_contains (IsMember q (rule ∷ [])) (members_at pieces xs) (λ m i.
        let (place, c, e) = Contains-from_map (piece_member pieces) xs m i in
        subst (IsMember q (rule ∷ [])) e (piece_single q rule pieces place p (s.within place c)));
    apart = AllPairs-map AreApart (piece_member pieces) xs (λ i j d l m. s.apart (get_or xs i d) (get_or xs j d) (Contains-get_or xs i d (omega arith)) (Contains-get_or xs j d m) (s.rising i j d l m));
    no_clash = s.no_clash;
  };
}

-- two places of the list, the lesser of which stands first
before_by_value : (xs : List ℕ) (a b : ℕ) → AllPairs (λ (a b : ℕ). a < b) xs → a < b → (i j : ℕ) → i < length xs → j < length xs → get_or xs i 0 ≡ a → get_or xs j 0 ≡ b → i < j
before_by_value xs a b r l i j m n e d = elim (cases_lt i j) [
  | inl k ↦ k
  | inr k ↦ elim (cases_eq i j) [
    | inl same ↦ let q : a ≡ b = sym e ∙ (ap (λ k. get_or xs k 0) same ∙ d) in absurd (omega arith)
    | inr other ↦ let q : get_or xs j 0 < get_or xs i 0 = r j i 0 (omega arith) m in absurd (omega arith)
  ]
]

pub IsSet-join : (q : Query) (rule : Rule) (pieces : List (List (ℕ × ℕ))) (xs : List ℕ) → IsJoin q rule pieces xs → IsSet q rule pieces xs
IsSet-join q rule pieces xs j =
    let A = j.aggregate in
    let long : length (members_at pieces xs) ≡ length xs = length-map xs (piece_member pieces) in
    record {
      rising = j.rising;
      within = j.within;
      nonempty = let n = A.nonempty in omega arith;
      apart =
          λ a b (k, l, e) (m, n, d) less.
          let e' : get_or xs k 0 ≡ a = get_or_default xs k 0 a l ∙ e in
          let d' : get_or xs m 0 ≡ b = get_or_default xs m 0 b n ∙ d in
          let order : k < m = before_by_value xs a b j.rising less k m l n e' d' in
          let w = piece_member pieces 0 in
          let h : AreApart (get_or (members_at pieces xs) k w) (get_or (members_at pieces xs) m w) = A.apart k m w order (omega arith) in
          let first : get_or (members_at pieces xs) k w ≡ piece_member pieces a = get_or-map (piece_member pieces) xs k 0 w l ∙ ap (piece_member pieces) e' in
          let second : get_or (members_at pieces xs) m w ≡ piece_member pieces b = get_or-map (piece_member pieces) xs m 0 w n ∙ ap (piece_member pieces) d' in
          subst (λ (x : Member). AreApart x (piece_member pieces b)) first (subst (λ (y : Member). AreApart (get_or (members_at pieces xs) k w) y) second h);
      no_clash = A.no_clash;
    }

-- fewer pieces
pub IsJoin-left : (q : Query) (rule : Rule) (pieces : List (List (ℕ × ℕ))) (xs ys : List ℕ) → ArePieces q rule pieces → 0 < length xs → IsJoin q rule pieces (xs ++ ys) →
    IsJoin q rule pieces xs
IsJoin-left q rule pieces xs ys p n j =
    let s = IsSet-join q rule pieces (xs ++ ys) j in
    IsJoin-set q rule pieces xs p (record {
      rising = AllPairs-left (λ (a b : ℕ). a < b) xs ys s.rising;
      within = λ place c. s.within place (Contains-append_left xs ys place c);
      nonempty = n;
      apart = λ a b c d l. s.apart a b (Contains-append_left xs ys a c) (Contains-append_left xs ys b d) l;
      no_clash = λ c d h. s.no_clash c d (AreJoined-more (λ l i. links_at-more q rule pieces xs ys l i) h);
    })

-- What makes one more piece a member: it comes after the others, overlaps none of them, and no classes clash.
pub IsJoin-push : (q : Query) (rule : Rule) (pieces : List (List (ℕ × ℕ))) (xs : List ℕ) (place : ℕ) → ArePieces q rule pieces →
    (xs ≡ []) ⊎ IsJoin q rule pieces xs → ((x : ℕ) → Contains xs x → x < place) → place < length pieces →
    ((x : ℕ) → Contains xs x → AreApart (piece_member pieces x) (piece_member pieces place)) → HasNoClash (links_at q rule pieces (xs ++ place ∷ [])) →
    IsJoin q rule pieces (xs ++ place ∷ [])
IsJoin-push q rule pieces xs place p start below l apart none =
    let long : length (xs ++ place ∷ []) ≡ length xs + 1 = length-append xs (place ∷ []) in
    IsJoin-set q rule pieces (xs ++ place ∷ []) p (record {
      rising = AllPairs-push (λ (a b : ℕ). a < b) xs place (elim start [ inl e ↦ (λ i j d m n. let z : length xs ≡ 0 = ap length e in absurd (omega arith)) | inr j ↦ j.rising ]) below;
      within = λ x c. elim (Contains-push_cases xs place x c) [
        | inl i ↦ elim start [ inl e ↦ absurd (Contains-empty x (subst (λ (ys : List ℕ). Contains ys x) e i)) | inr j ↦ j.within x i ]
        | inr e ↦ subst (λ (y : ℕ). y < length pieces) e l
      ];
      nonempty = omega arith;
      apart = λ a b c d m. elim (Contains-push_cases xs place a c) [
        | inl i ↦ elim (Contains-push_cases xs place b d) [
          | inl k ↦ elim start [ inl e ↦ absurd (Contains-empty a (subst (λ (ys : List ℕ). Contains ys a) e i)) | inr j ↦ (IsSet-join q rule pieces xs j).apart a b i k m ]
          | inr e ↦ subst (λ (y : ℕ). AreApart (piece_member pieces a) (piece_member pieces y)) e (apart a i)
        ]
        | inr e ↦ elim (Contains-push_cases xs place b d) [
          | inl k ↦ let n : b < place = below b k in absurd (omega arith)
          | inr f ↦ absurd (omega arith)
        ]
      ];
      no_clash = none;
    })

-- and what a member more tells
pub apart_from_last : (q : Query) (rule : Rule) (pieces : List (List (ℕ × ℕ))) (xs : List ℕ) (place : ℕ) → IsJoin q rule pieces (xs ++ place ∷ []) →
    (x : ℕ) → Contains xs x → AreApart (piece_member pieces x) (piece_member pieces place)
apart_from_last q rule pieces xs place j x i =
    let s = IsSet-join q rule pieces (xs ++ place ∷ []) j in
    s.apart x place (Contains-append_left xs (place ∷ []) x i) (Contains-push xs place) (AllPairs-last (λ (a b : ℕ). a < b) xs x place s.rising i)

-- There are no more members than atoms: each has a first one of its own.
abbrev first_place : List (List (ℕ × ℕ)) → ℕ → ℕ
first_place pieces i = (get_or (piece_member pieces i).pairs 0 (0, 0)).0

pub members_few : (q : Query) (rule : Rule) (pieces : List (List (ℕ × ℕ))) (xs : List ℕ) → ArePieces q rule pieces → IsJoin q rule pieces xs → length xs ≤ length q.atoms
members_few q rule pieces xs p j =
    let s = IsSet-join q rule pieces xs j in
    let n = length q.atoms in
    let some : (i : ℕ) → Contains xs i → Contains {X = ℕ × ℕ} (piece_member pieces i).pairs (get_or (piece_member pieces i).pairs 0 (0, 0)) =
    λ i c. Contains-get_or (piece_member pieces i).pairs 0 (0, 0) (piece_single q rule pieces i p (s.within i c)).single.unifier.matching.nonempty in
    let distinct : IsDistinct (map (first_place pieces) xs) = AllPairs-map (λ (a b : ℕ). a ≢ b) (first_place pieces) xs (λ i k d l m e.
    let c = Contains-get_or xs i d (omega arith) in
    let f = Contains-get_or xs k d m in
    s.apart (get_or xs i d) (get_or xs k d) c f (s.rising i k d l m) (first_place pieces (get_or xs i d))
    (Contains-places (piece_member pieces (get_or xs i d)).pairs _ (some _ c))
    (subst (λ (z : ℕ). Contains (places (piece_member pieces (get_or xs k d)).pairs) z) (sym e) (Contains-places (piece_member pieces (get_or xs k d)).pairs _ (some _ f)))) in
    let low : (y : ℕ) → Contains (map (first_place pieces) xs) y → Contains (range_with_len 0 n) y = λ y i.
    let (x, c, e) = Contains-from_map (first_place pieces) xs y i in
    let l : first_place pieces x < n = ((piece_single q rule pieces x p (s.within x c)).single.unifier.matching.each _ (some x c)).in_query in
    (y, omega (arith, length-range_with_len 0 n), get_or-range_with_len 0 n y y (omega arith) ∙ (let z : 0 + y ≡ y = omega arith in z)) in
    let a : length (map (first_place pieces) xs) ≤ length (range_with_len 0 n) = length-distinct_le (map (first_place pieces) xs) (range_with_len 0 n) distinct low in
    let b = length-map xs (first_place pieces) in
    omega (arith, length-range_with_len 0 n)

-- the links of a piece's first pairs, and of one more
pub links-more : (q : Query) (copy : ℕ) (rule : Rule) (pairs : List (ℕ × ℕ)) (i : ℕ) → i < length pairs →
    links q copy rule (take (i + 1) pairs) ≡ links q copy rule (take i pairs) ++ atom_links (atom_at q.atoms (get_or pairs i (0, 0)).0) copy (atom_at rule.heads (get_or pairs i (0, 0)).1)
links-more q copy rule pairs i l =
    let p = get_or pairs i (0, 0) in
    let f : ℕ × ℕ → List (Node × Node) = λ p. atom_links (atom_at q.atoms p.0) copy (atom_at rule.heads p.1) in
    ap (links q copy rule) (take_more pairs i (0, 0) l) ∙
    (flat_map-append f (take i pairs) (p ∷ []) ∙ ap (λ (ls : List (Node × Node)). links q copy rule (take i pairs) ++ ls) (append-nil (f p)))

-- the links of the first members, and of one more
pub links_at-more_members : (q : Query) (rule : Rule) (pieces : List (List (ℕ × ℕ))) (xs : List ℕ) (i : ℕ) → i < length xs →
    links_at q rule pieces (take (i + 1) xs) ≡ links_at q rule pieces (take i xs) ++ links q i rule (piece_member pieces (get_or xs i 0)).pairs
links_at-more_members q rule pieces xs i l =
    ap (links_at q rule pieces) (take_more xs i 0 l) ∙
    (links_at-push q rule pieces (take i xs) (get_or xs i 0) ∙
    ap (λ (k : ℕ). links_at q rule pieces (take i xs) ++ links q k rule (piece_member pieces (get_or xs i 0)).pairs) (length-take-le i xs (omega arith)))

-- What a search may ask of its members and pieces.
pub start_within : (q : Query) (rule : Rule) (pieces : List (List (ℕ × ℕ))) (xs : List ℕ) → (xs ≡ []) ⊎ IsJoin q rule pieces xs →
    (place : ℕ) → Contains xs place → place < length pieces
start_within q rule pieces xs (inl e) place c = absurd (Contains-empty place (subst (λ (ys : List ℕ). Contains ys place) e c))
start_within q rule pieces xs (inr j) place c = j.within place c

pub start_few : (q : Query) (rule : Rule) (pieces : List (List (ℕ × ℕ))) (xs : List ℕ) → ArePieces q rule pieces → (xs ≡ []) ⊎ IsJoin q rule pieces xs →
    length q.atoms ≤ 128 → length xs ≤ 128
start_few q rule pieces xs p (inl e) l = let z : length xs ≡ 0 = ap length e in omega arith
start_few q rule pieces xs p (inr j) l = let m = members_few q rule pieces xs p j in omega arith

pub keeps_each : (q : Query) (rule : Rule) (pieces : List (List (ℕ × ℕ))) (piece : List (ℕ × ℕ)) → ArePieces q rule pieces → Contains pieces piece → KeepsEach q rule piece
keeps_each q rule pieces piece p c = record { each = (p.single piece c).unifier.matching.each }
