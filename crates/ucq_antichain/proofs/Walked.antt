-- Rows are looked for in chains, and in words and groups of words.
use Rattle.std.proofs.Common.{◌≡◌, ◌≢◌, ℕ, zero, suc, ◌+◌, ◌*◌, ◌/◌, ◌%◌, ◌<◌, ◌≤◌, ◌⊎◌, inl, inr, sym, ap, ◌∙◌, List, [], ◌∷◌, ◌++◌, Bool, true, false, length, get_or, arith, subst}
use Rattle.std.specs.Int.{bit_at}
use Rattle.std.proofs.lemmas.Bool.{cases_eq}
use Rattle.std.proofs.lemmas.Nat.Bits.{bit_at-lt}
use Rattle.std.proofs.lemmas.List.{get_or_append_left, get_or_at, length-append}
use Rattle.ucq_terms.specs.Syntax.{Query}
use Rattle.ucq_terms.specs.Homomorphism.{Covers}
use Rattle.ucq_hom.specs.Signature.{Marks, signature_of, IsPartOf}
use Rattle.ucq_hom.proofs.Signatures.{first_part, covers_part}
use Rattle.ucq_antichain.specs.declared.Row.{Row}
use Rattle.ucq_antichain.specs.Rows.{no_row, row_at, query_at, IsLiveAt, SomeLiveCovers, IsFirstCover}
use Rattle.ucq_antichain.specs.Calls.{MayDie}
use Rattle.ucq_antichain.specs.inner.Sets.{IsListOf, IsAmong}
use Rattle.ucq_antichain.specs.inner.Chains.{Chained, Reaches, IsInChain}
use Rattle.ucq_antichain.specs.inner.Index.{Indexed, no_marks, signature_at, IsKeyOf, AreChainsOf}
use Rattle.ucq_antichain.specs.inner.Walks.{IsIndexOf, IsBest, NoneEarlier, NoneBeside, NoneCovered, DiesAt}
use Rattle.ucq_antichain.proofs.Words.{cases_below}
use Rattle.ucq_antichain.proofs.Links.{reach_cases, none_after_end}
use Rattle.ucq_antichain.proofs.Pruned.{with_last, query_stays}

-- a live row is there
pub live_inside : (rows : List Row) (row : ℕ) → IsLiveAt rows row → row < length rows
live_inside [] row live = let bad : false ≡ true = live in absurd (cc)
live_inside (r ∷ rows) zero live = omega arith
live_inside (r ∷ rows) (suc row) live = let l = live_inside rows row live in omega arith

-- the best that is found in a chain
module _ (rows : List Row) (q : Query) (chains : Chained) where
  -- of a chain from a link on all that covers is at the best or later, or is still to come
  pub record SoFar (from link best : ℕ) : Type 0 where
    pub each : (row : ℕ) → Reaches chains.next from (row + 1) → IsLiveAt rows row → Covers (query_at rows row) q → (best ≤ row) ⊎ Reaches chains.next link (row + 1)

  pub one_further : (from link next best found row : ℕ) → SoFar from link best → found ≤ best → link ≡ row + 1 → next ≡ get_or chains.next link 0 →
      (IsLiveAt rows row → Covers (query_at rows row) q → found ≤ row) → SoFar from next found
  one_further from link next best found row h earlier at is here = record {
    each = λ other r live covers. elim (h.each other r live covers) [
      | inl l ↦ inl (omega (arith, l, earlier))
      | inr more ↦ elim (reach_cases chains.next link (other + 1) more) [
        | inl e ↦
            let same : row ≡ other = omega (arith, e, at) in
            inl (subst (λ (k : ℕ). found ≤ k) same (here (subst (IsLiveAt rows) (sym same) live) (subst (λ (k : ℕ). Covers (query_at rows k) q) (sym same) covers)))
        | inr rest ↦ inr (subst (λ (k : ℕ). Reaches chains.next k (other + 1)) (sym is) rest)
      ]
    ];
  }

  pub all_seen : (from link best : ℕ) → get_or chains.next 0 0 ≡ 0 → link ≡ 0 → SoFar from link best → NoneEarlier rows q chains from best
  all_seen from link best ends e h = record {
    none = λ row r live covers. elim (h.each row r live covers) [ inl l ↦ l | inr more ↦ absurd (none_after_end chains.next link row ends e more) ];
  }

  pub still_none : (link best found : ℕ) → found ≤ best → NoneEarlier rows q chains link best → NoneEarlier rows q chains link found
  still_none link best found l h = record { none = λ row r live covers. let m = h.none row r live covers in omega (arith, l, m) }

  pub still_beside : (others first best found : ℕ) → found ≤ best → NoneBeside rows q chains others first best → NoneBeside rows q chains others first found
  still_beside others first best found l h = record { each = λ second low bit. still_none (get_or chains.heads (128 * first + second) 0) best found l (h.each second low bit) }

  -- the chains of a mark beside those below one
  pub record BesideBelow (others first to best : ℕ) : Type 0 where
    pub each : (second : ℕ) → second < to → second < 128 → bit_at others second ≡ 1 → NoneEarlier rows q chains (get_or chains.heads (128 * first + second) 0) best

  -- those are passed over that have no row
  pub passed_over : (others filled first from to best : ℕ) → ((j : ℕ) → j < 128 → bit_at others j ≡ 1 → bit_at filled j ≡ 0 → (row : ℕ) → ¬ IsInChain chains (128 * first + j) row) →
      ((i : ℕ) → from ≤ i → i < to → bit_at filled i ≡ 0) → BesideBelow others first from best → BesideBelow others first to best
  passed_over others filled first from to best empty unset h = record {
    each = λ second l low bit. elim (cases_below second from) [
      | inl b ↦ h.each second b low bit
      | inr a ↦ record { none = λ row r live covers. absurd (empty second low bit (unset second a l) row r) }
    ];
  }

  pub one_beside : (others first second best found : ℕ) → found ≤ best → NoneEarlier rows q chains (get_or chains.heads (128 * first + second) 0) found →
      BesideBelow others first second best → BesideBelow others first (second + 1) found
  one_beside others first second best found earlier here h = record {
    each = λ j l low bit. elim (cases_eq j second) [
      | inl e ↦ subst (λ (k : ℕ). NoneEarlier rows q chains (get_or chains.heads (128 * first + k) 0) found) (sym e) here
      | inr ne ↦ still_none (get_or chains.heads (128 * first + j) 0) best found earlier (h.each j (omega (arith, l, ne)) low bit)
    ];
  }

  pub none_beside_any : (others first best : ℕ) → BesideBelow others first 0 best
  none_beside_any others first best = record { each = λ second l. absurd (omega arith) }

  pub all_beside : (others first to best : ℕ) → 128 ≤ to → BesideBelow others first to best → NoneBeside rows q chains others first best
  all_beside others first to best enough h = record { each = λ second low bit. h.each second (omega (arith, low, enough)) low bit }

-- a mark of the one set is one of the other
bit_kept : (marks others i : ℕ) → IsPartOf marks others → bit_at marks i ≡ 1 → bit_at others i ≡ 1
bit_kept marks others i p e = let l = p.each i in let m = bit_at-lt others i in omega arith

-- the key of a row that covers the query is one of the query
key_kept : (m n : Marks) (key : ℕ) → IsPartOf m.first n.first → IsPartOf m.second n.second → IsKeyOf m key → IsKeyOf n key
key_kept m n key p s (inl e) = inl e
key_kept m n key p s (inr (first, low, bit, beside)) =
    inr (first, low, bit_kept m.first n.first first p bit, record { second = beside.second; low = beside.low; bit = bit_kept m.second n.second beside.second s beside.bit; key_is = beside.key_is })

-- so the best of all chains of the query is the first live row that covers it
module _ (index : Indexed) (rows : List Row) (q : Query) (m : Marks) (list : List ℕ) (best : ℕ) (i : IsIndexOf index rows) (is : m ≡ signature_of q) (l : IsListOf list m.first)
    (chained : AreChainsOf index.chains index.signatures index.kept) (pair_less : NoneEarlier rows q index.chains (get_or index.chains.heads 16384 0) best)
    (each : (k : ℕ) → k < length list → NoneBeside rows q index.chains m.second (get_or list k 0) best) where
  by_key : (row key : ℕ) → IsKeyOf m key → IsInChain index.chains key row → IsLiveAt rows row → Covers (query_at rows row) q → best ≤ row
  by_key row key (inl e) among live covers = pair_less.none row (subst (λ (k : ℕ). IsInChain index.chains k row) e among) live covers
  by_key row key (inr (first, low, bit, beside)) among live covers =
      let (k, n, e) = l.all first low bit in
      let none = (subst (λ (f : ℕ). NoneBeside rows q index.chains m.second f best) e (each k n)).each beside.second beside.low beside.bit in
      none.none row (subst (λ (j : ℕ). IsInChain index.chains j row) beside.key_is among) live covers

  pub first_of_all : (row : ℕ) → IsLiveAt rows row → Covers (query_at rows row) q → best ≤ row
  first_of_all row live covers =
      let inside : row < length rows = live_inside rows row live in
      let has = chained.keyed row (let s = i.size in omega (arith, inside, s)) (i.kept row live) in
      let own = subst (λ (s : Marks). IsKeyOf s has.key) (i.each row inside) has.own in
      let kept = key_kept (signature_of (query_at rows row)) (signature_of q) has.key (first_part (query_at rows row) q covers) (covers_part 127 (query_at rows row) q covers) own in
      by_key row has.key (subst (λ (s : Marks). IsKeyOf s has.key) (sym is) kept) has.among live covers

  pub best_is_first : IsBest rows q best → best < length rows → IsFirstCover rows q best
  best_is_first b inside = let (live, covers) = b.covers inside in record {
    live = live;
    covers = covers;
    first = λ earlier before alive c. let l = first_of_all earlier alive c in omega (arith, l, before);
  }

  pub none_is_first : length rows ≤ best → ¬ SomeLiveCovers rows q
  none_is_first past some = let inside = live_inside rows some.row some.live in let l = first_of_all some.row some.live some.covers in omega (arith, inside, l, past)

-- the rows that the index gives are enough
module _ (index : Indexed) (rows : List Row) (q : Query) (m : Marks) (i : IsIndexOf index rows) (is : m ≡ signature_of q) where
  covered_part : (row : ℕ) → row < length rows → Covers q (query_at rows row) → IsPartOf m.first (signature_at index.signatures row).first
  covered_part row inside covers =
      subst (λ (s : Marks). IsPartOf m.first s.first) (sym (i.each row inside)) (subst (λ (s : Marks). IsPartOf s.first (signature_of (query_at rows row)).first) (sym is) (first_part q (query_at rows row) covers))

  -- of the rows from one bit of a word to another
  pub none_in_word : (word bits from to : ℕ) → to ≤ 64 → ((row : ℕ) → row < length index.signatures → IsAmong index.kept row → row / 64 ≡ word → IsPartOf m.first (signature_at index.signatures row).first → bit_at bits (row % 64) ≡ 1) →
      ((j : ℕ) → from ≤ j → j < to → bit_at bits j ≡ 0) → NoneCovered rows q (64 * word + from) (64 * word + to)
  none_in_word word bits from to high all unset = record {
    none = λ row l n live covers.
        let inside : row < length rows = live_inside rows row live in
        let set = all row (let s = i.size in omega (arith, inside, s)) (i.kept row live) (omega (arith, l, n, high)) (covered_part row inside covers) in
        let none = unset (row % 64) (omega (arith, l, n, high)) (omega (arith, l, n, high)) in
        omega (arith, set, none);
  }

  -- of the rows from one word of a group to another
  pub none_in_group : (group bits from to : ℕ) → to ≤ 64 → ((row : ℕ) → row < length index.signatures → IsAmong index.kept row → row / 4096 ≡ group → IsPartOf m.first (signature_at index.signatures row).first → bit_at bits (row / 64 % 64) ≡ 1) →
      ((j : ℕ) → from ≤ j → j < to → bit_at bits j ≡ 0) → NoneCovered rows q (64 * (64 * group + from)) (64 * (64 * group + to))
  none_in_group group bits from to high all unset = record {
    none = λ row l n live covers.
        let inside : row < length rows = live_inside rows row live in
        let set = all row (let s = i.size in omega (arith, inside, s)) (i.kept row live) (omega (arith, l, n, high)) (covered_part row inside covers) in
        let none = unset (row / 64 % 64) (omega (arith, l, n, high)) (omega (arith, l, n, high)) in
        omega (arith, set, none);
  }

-- the index is that of the rows after one died, and after one was added
module _ (index after : Indexed) (q : Query) (before now : List Row) (place : ℕ) (b : Bool) (i : IsIndexOf index before) (d : DiesAt q before now place b) (same : after.signatures ≡ index.signatures) where
  changed : ((row : ℕ) → IsLiveAt now row → IsAmong after.kept row) → IsIndexOf after now
  changed kept = record {
    size = ap (λ (ms : List Marks). length ms) same ∙ i.size ∙ sym d.count;
    each = λ row l.
        let m : row < length before = let e = d.count in omega (arith, l, e) in
        ap (λ (ms : List Marks). signature_at ms row) same ∙ i.each row m ∙ ap signature_of (sym (query_stays q before now place row b d));
    kept = kept;
  }

  elsewhere : (row : ℕ) → row ≢ place → IsLiveAt now row → IsAmong index.kept row
  elsewhere row ne live = i.kept row (subst (λ (r : Row). r.live ≡ true) (d.others row ne) live)

  pub IsIndexOf-died : b ≡ true → ((row : ℕ) → row ≢ place → IsAmong index.kept row → IsAmong after.kept row) → IsIndexOf after now
  IsIndexOf-died dies others = changed (λ row live. let ne : row ≢ place = λ e. dead (subst (IsLiveAt now) e live) in others row ne (elsewhere row ne live))
    where
      dead : ¬ IsLiveAt now place
      dead live = let (was, covers, is) = subst (λ (x : Bool). MayDie q (row_at before place) x (row_at now place)) dies d.here in let no : (row_at now place).live ≡ false = ap (λ (r : Row). r.live) is in cc

  pub IsIndexOf-stays : b ≡ false → after.kept ≡ index.kept → IsIndexOf after now
  IsIndexOf-stays stays kept = changed (λ row live. subst (λ (ks : List ℕ). IsAmong ks row) (sym kept) (elim (cases_eq row place) [
    | inl e ↦ i.kept row (subst (λ (k : ℕ). IsLiveAt before k) (sym e) (was (subst (IsLiveAt now) e live)))
    | inr ne ↦ elsewhere row ne live
  ]))
    where
      was : IsLiveAt now place → IsLiveAt before place
      was live = let (is, unless) = subst (λ (x : Bool). MayDie q (row_at before place) x (row_at now place)) stays d.here in subst (λ (r : Row). r.live ≡ true) is live

pub IsIndexOf-added : (index : Indexed) (rows : List Row) (q : Query) (m : Marks) → IsIndexOf index rows → m ≡ signature_of q →
    (after : Indexed) → after.signatures ≡ index.signatures ++ m ∷ [] → ((row : ℕ) → row ≡ length index.signatures → IsAmong after.kept row) →
    ((row : ℕ) → IsAmong index.kept row → IsAmong after.kept row) → IsIndexOf after (with_last rows q)
IsIndexOf-added index rows q m i is after e has others = record {
  size = ap (λ (ms : List Marks). length ms) e ∙ omega (arith, more, one, i.size);
  each = λ row l. ap (λ (ms : List Marks). signature_at ms row) e ∙ each row l;
  kept = λ row live. elim (cases_eq row (length rows)) [
    | inl e ↦ has row (e ∙ sym i.size)
    | inr ne ↦
        let inside : row < length rows = let l = live_inside (with_last rows q) row live in omega (arith, l, one, ne) in
        let old : row_at (with_last rows q) row ≡ row_at rows row = get_or_append_left rows (record { query = q; live = true } ∷ []) no_row row inside in
        others row (i.kept row (subst (λ (r : Row). r.live ≡ true) old live))
  ];
}
  where
    more : length (index.signatures ++ m ∷ []) ≡ length index.signatures + 1
    more = length-append index.signatures (m ∷ [])

    one : length (with_last rows q) ≡ length rows + 1
    one = length-append rows (record { query = q; live = true } ∷ [])

    each : (row : ℕ) → row < length (with_last rows q) → signature_at (index.signatures ++ m ∷ []) row ≡ signature_of (query_at (with_last rows q) row)
    each row l = elim (cases_eq row (length rows)) [
      | inl e ↦
          let new : row_at (with_last rows q) row ≡ record { query = q; live = true } = get_or_at rows (record { query = q; live = true }) [] no_row row (sym e) in
          get_or_at index.signatures m [] no_marks row (sym (e ∙ sym i.size)) ∙ is ∙ ap (λ (r : Row). signature_of r.query) (sym new)
      | inr ne ↦
          let inside : row < length rows = omega (arith, l, one, ne) in
          let old : row_at (with_last rows q) row ≡ row_at rows row = get_or_append_left rows (record { query = q; live = true } ∷ []) no_row row inside in
          get_or_append_left index.signatures (m ∷ []) no_marks row (omega (arith, inside, i.size)) ∙ i.each row inside ∙ ap (λ (r : Row). signature_of r.query) (sym old)
    ]
