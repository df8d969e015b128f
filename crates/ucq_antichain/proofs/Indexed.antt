-- An index stays right where a row is added or taken out.
use Rattle.std.proofs.Common.{◌≡◌, ◌≢◌, ℕ, ◌+◌, ◌*◌, ◌/◌, ◌<◌, ◌≤◌, ◌⊎◌, inl, inr, sym, ap, ◌∙◌, List, [], ◌∷◌, ◌++◌, length, get_or, arith, subst}
use Rattle.std.proofs.lemmas.Bool.{cases_eq}
use Rattle.std.proofs.lemmas.List.{get_or_append_left, get_or_at, length-append}
use Rattle.ucq_hom.specs.Signature.{Marks}
use Rattle.ucq_antichain.specs.inner.Sets.{Sets, IsIn, Keeps, IsListOf, IsAmong, IsSameBut}
use Rattle.ucq_antichain.specs.inner.Chains.{Chained, IsInChain, KeepsBut}
use Rattle.ucq_antichain.specs.inner.Chains.{Keeps as Stay}
use Rattle.ucq_antichain.specs.inner.Index.{no_marks, signature_at, IsMarkOf, IsKeyBeside, IsKeyOf, HasKey, IsIndex}
use Rattle.ucq_antichain.proofs.Among.{was_among, is_other, words_added}

-- how a key was chosen
abbrev pub IsKey : List ℕ → ℕ → ℕ → Type 0
IsKey marks others key = (key ≡ 16384) ⊎ ((k : ℕ) × (k < length marks) × IsKeyBeside others (get_or marks k 0) key)

-- sets with one row more
pub record HasMore (before after : Sets) (marks : List ℕ) (row : ℕ) : Type 0 where
  pub has : (k : ℕ) → k < length marks → IsIn after (get_or marks k 0) row
  pub keeps : Keeps before after

-- chains with one row more
pub record IsLonger (before after : Chained) (key row : ℕ) : Type 0 where
  pub has : IsInChain after key row
  pub keeps : Stay before after
  pub longer : length after.next ≡ length before.next + 1
  pub ends : get_or after.next 0 0 ≡ 0

pub key_own : (list : List ℕ) (m : Marks) (key : ℕ) → IsListOf list m.first → IsKey list m.second key → IsKeyOf m key
key_own list m key l (inl e) = inl e
key_own list m key l (inr (k, n, beside)) = let (low, bit) = l.only k n in inr (get_or list k 0, low, bit, beside)

-- a row more is kept, and its word
pub record KeepsMore (kept words kept_now words_now : List ℕ) (row : ℕ) : Type 0 where
  pub row_others : IsSameBut kept kept_now row
  pub word_others : IsSameBut words words_now (row / 64)
  pub word : IsAmong words_now (row / 64)

module _ (groups : ℕ) (signatures : List Marks) (all words : Sets) (kept kept_words : List ℕ) (chains : Chained) (i : IsIndex groups signatures all words kept kept_words chains) (m : Marks) (list : List ℕ) (row : ℕ)
    (room : length signatures < 4096 * groups) (at : row ≡ length signatures) (l : IsListOf list m.first) where
  abbrev more : List Marks
  more = signatures ++ m ∷ []

  size : length more ≡ length signatures + 1
  size = length-append signatures (m ∷ [])

  old : (r : ℕ) → r < length signatures → signature_at more r ≡ signature_at signatures r
  old r n = get_or_append_left signatures (m ∷ []) no_marks r n

  new : signature_at more row ≡ m
  new = get_or_at signatures m [] no_marks row (sym at)

  -- the sets have each row, or each word of a row
  marked : (of : ℕ → ℕ) (before after : Sets) → HasMore before after list (of row) →
      ((r mark : ℕ) → r < length signatures → IsMarkOf (signature_at signatures r).first mark → IsIn before mark (of r)) →
      (r mark : ℕ) → r < length more → IsMarkOf (signature_at more r).first mark → IsIn after mark (of r)
  marked of before after h each r mark n own = elim (cases_eq r row) [
    | inl e ↦ subst (λ (j : ℕ). IsIn after mark (of j)) (sym e) (of_new (subst (λ (s : Marks). IsMarkOf s.first mark) (subst (λ (j : ℕ). signature_at more j ≡ m) (sym e) new) own))
    | inr ne ↦
        let inside : r < length signatures = omega (arith, n, size, at, ne) in
        h.keeps.each mark (of r) (each r mark inside (subst (λ (s : Marks). IsMarkOf s.first mark) (old r inside) own))
  ]
    where
      of_new : IsMarkOf m.first mark → IsIn after mark (of row)
      of_new (low, bit) = let (k, j, e) = l.all mark low bit in subst (λ (k : ℕ). IsIn after k (of row)) e (h.has k j)

  keyed : (after : Chained) (key : ℕ) (kept_now : List ℕ) → IsLonger chains after key row → IsKey list m.second key → IsSameBut kept kept_now row →
      (r : ℕ) → r < length more → IsAmong kept_now r → HasKey after (signature_at more r) r
  keyed after key kept_now h k s r n is = elim (cases_eq r row) [
    | inl e ↦ record {
      key = key;
      own = subst (λ (s : Marks). IsKeyOf s key) (sym (subst (λ (j : ℕ). signature_at more j ≡ m) (sym e) new)) (key_own list m key l k);
      among = subst (IsInChain after key) (sym e) h.has;
    }
    | inr ne ↦
        let inside : r < length signatures = omega (arith, n, size, at, ne) in
        let has = i.chained.keyed r inside (was_among kept kept_now row r s ne is) in
        record {
          key = has.key;
          own = subst (λ (s : Marks). IsKeyOf s has.key) (sym (old r inside)) has.own;
          among = h.keeps.each has.key r has.among;
        }
  ]

  pub IsIndex-pushed : (all' words' : Sets) (kept' kept_words' : List ℕ) (chains' : Chained) (key : ℕ) → HasMore all all' list row → HasMore words words' list (row / 64) →
      KeepsMore kept kept_words kept' kept_words' row → IsLonger chains chains' key row → IsKey list m.second key → IsIndex groups more all' words' kept' kept_words' chains'
  IsIndex-pushed all' words' kept' kept_words' chains' key a w s h k = record {
    narrow = i.narrow;
    few = omega (arith, size, room);
    all_width = a.keeps.width ∙ i.all_width;
    words_width = w.keeps.width ∙ i.words_width;
    kept_width = s.row_others.count ∙ i.kept_width;
    kept_words_width = s.word_others.count ∙ i.kept_words_width;
    row = marked (λ (r : ℕ). r) all all' a i.row;
    word = marked (λ (r : ℕ). r / 64) words words' w i.word;
    kept_word = words_added kept kept_words kept' row i.kept_word s.row_others kept_words' s.word_others s.word;
    chained = record { size = let e = h.longer in let f = i.chained.size in omega (arith, size, e, f); ends = h.ends; keyed = keyed chains' key kept' h k s.row_others };
  }

-- chains without a row
pub record IsWithout (before after : Chained) (row : ℕ) : Type 0 where
  pub keeps : KeepsBut before after (row + 1)
  pub size : length after.next ≡ length before.next
  pub ends : get_or after.next 0 0 ≡ 0

pub IsIndex-removed : (groups : ℕ) (signatures : List Marks) (all words : Sets) (kept kept_words : List ℕ) (chains : Chained) (row : ℕ) (kept' kept_words' : List ℕ) (chains' : Chained) →
    IsSameBut kept kept' row → ¬ IsAmong kept' row → length kept_words' ≡ length kept_words → ((r : ℕ) → IsAmong kept' r → IsAmong kept_words' (r / 64)) → IsWithout chains chains' row →
    IsIndex groups signatures all words kept kept_words chains → IsIndex groups signatures all words kept' kept_words' chains'
IsIndex-removed groups signatures all words kept kept_words chains row kept' kept_words' chains' s out count each h i = record {
  narrow = i.narrow;
  few = i.few;
  all_width = i.all_width;
  words_width = i.words_width;
  kept_width = s.count ∙ i.kept_width;
  kept_words_width = count ∙ i.kept_words_width;
  row = i.row;
  word = i.word;
  kept_word = each;
  chained = record {
    size = h.size ∙ i.chained.size;
    ends = h.ends;
    keyed = λ r n is.
        let ne : r ≢ row = is_other kept' row r out is in
        let has = i.chained.keyed r n (was_among kept kept' row r s ne is) in
        record { key = has.key; own = has.own; among = h.keeps.each has.key r (λ e. ne (omega (arith, e))) has.among };
  };
}

pub none_indexed : (groups : ℕ) (signatures : List Marks) (all words : Sets) (kept kept_words : List ℕ) (chains : Chained) → groups ≤ 16 → signatures ≡ [] → all.width ≡ 64 * groups → words.width ≡ groups →
    length kept ≡ 64 * groups → length kept_words ≡ groups → ((row : ℕ) → ¬ IsAmong kept row) → length chains.next ≡ 1 → get_or chains.next 0 0 ≡ 0 →
    IsIndex groups signatures all words kept kept_words chains
none_indexed groups signatures all words kept kept_words chains narrow none wide few many words_many no_row one ends = record {
  narrow = narrow;
  few = omega (arith, size);
  all_width = wide;
  words_width = few;
  kept_width = many;
  kept_words_width = words_many;
  row = λ r mark l own. absurd (omega (arith, l, size));
  word = λ r mark l own. absurd (omega (arith, l, size));
  kept_word = λ r is. absurd (no_row r is);
  chained = record { size = omega (arith, one, size); ends = ends; keyed = λ r l is. absurd (omega (arith, l, size)) };
}
  where
    size : length signatures ≡ 0
    size = ap (λ (ms : List Marks). length ms) none
