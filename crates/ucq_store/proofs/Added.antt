-- A row is added to an antichain, and the live rows that it covers die.
use Rattle.std.proofs.Common.{◌≡◌, ◌≢◌, ℕ, ◌+◌, ◌<◌, ◌⊎◌, inl, inr, refl, sym, ◌∙◌, List, Bool, true, false, length, arith, subst}
use Rattle.std.proofs.lemmas.Bool.{cases_lt}
use Rattle.ucq_terms.specs.Syntax.{Query}
use Rattle.ucq_terms.specs.Homomorphism.{Covers}
use Rattle.ucq_terms.specs.Union.{AreIncomparable}
use Rattle.ucq_antichain.specs.declared.Row.{Row}
use Rattle.ucq_antichain.specs.Rows.{row_at, query_at, IsLiveAt, SomeLiveCovers, IsAdded}
use Rattle.ucq_terms.proofs.Maps.{Covers-refl, Covers-trans}
use Rattle.ucq_store.proofs.Live.{LiveAreIncomparable, NoneCoversLater, AllAreCovered, live_is_row, live_covers_on}

pub live_or_dead : (rows : List Row) (row : ℕ) → IsLiveAt rows row ⊎ (¬ IsLiveAt rows row)
live_or_dead rows row = go (row_at rows row).live refl
  where
    go : (b : Bool) → (row_at rows row).live ≡ b → IsLiveAt rows row ⊎ (¬ IsLiveAt rows row)
    go true e = inl e
    go false e = inr (λ live. let bad : false ≡ true = sym e ∙ live in cc)

-- what holds of each earlier row and of the new one holds of each row
pub old_or_new : (P : ℕ → Type 0) (n m row : ℕ) → m ≡ n + 1 → ((row : ℕ) → row < n → P row) → P n → row < m → P row
old_or_new P n m row e old new l = elim (cases_lt row n) [
  | inl lt ↦ old row lt
  | inr le ↦ let same : n ≡ row = omega arith in subst P same new
]

module _ (q : Query) (before after : List Row) (added : IsAdded q before after) where
  pub was_live : (row : ℕ) → row < length before → IsLiveAt after row → IsLiveAt before row × ¬ Covers q (query_at before row)
  was_live row l live = elim (live_or_dead before row) [
    | inl alive ↦ elim (added.earlier_live row l alive) [
      | inl died ↦ absurd (died.1 live)
      | inr lives ↦ (alive, lives.0)
    ]
    | inr dead ↦ absurd (added.earlier_dead row l dead live)
  ]

  -- what a live row covered, a live row covers
  pub still_covered : (p : Query) → SomeLiveCovers before p → SomeLiveCovers after p
  still_covered p c =
      let l = live_is_row before c.row c.live in
      elim (added.earlier_live c.row l c.live) [
        | inl died ↦ record {
          row = length before;
          live = added.last_live;
          covers = subst (λ (a : Query). Covers a p) (sym added.last_query) (Covers-trans q (query_at before c.row) p died.0 c.covers);
        }
        | inr lives ↦ record { row = c.row; live = lives.1; covers = subst (λ (a : Query). Covers a p) (sym (added.earlier_query c.row l)) c.covers }
      ]

  pub new_is_covered : SomeLiveCovers after q
  new_is_covered = record {
    row = length before;
    live = added.last_live;
    covers = subst (λ (a : Query). Covers a q) (sym added.last_query) (Covers-refl q);
  }

  pub rows_stay_covered : AllAreCovered before → AllAreCovered after
  rows_stay_covered covered row l =
      old_or_new (λ k. SomeLiveCovers after (query_at after k)) (length before) (length after) row added.one_more
      (λ k m. subst (SomeLiveCovers after) (sym (added.earlier_query k m)) (still_covered (query_at before k) (covered k m)))
      (subst (SomeLiveCovers after) (sym added.last_query) new_is_covered) l

  module _ (covered : AllAreCovered before) (fresh : ¬ SomeLiveCovers before q) where
    pub none_covers_new : (row : ℕ) → row < length before → ¬ Covers (query_at before row) q
    none_covers_new row l covers = fresh (live_covers_on before (query_at before row) q (covered row l) covers)

    pub later_stay_uncovered : NoneCoversLater before → NoneCoversLater after
    later_stay_uncovered none earlier later lt l =
        let P : ℕ → Type 0 = λ k. earlier < k → ¬ Covers (query_at after earlier) (query_at after k) in
        old_or_new P (length before) (length after) later added.one_more
        (λ k m less.
        subst (λ (a : Query). ¬ Covers a (query_at after k)) (sym (added.earlier_query earlier (omega arith)))
        (subst (λ (b : Query). ¬ Covers (query_at before earlier) b) (sym (added.earlier_query k m)) (none earlier k less m)))
        (λ less.
        subst (λ (a : Query). ¬ Covers a (query_at after (length before))) (sym (added.earlier_query earlier less))
        (subst (λ (b : Query). ¬ Covers (query_at before earlier) b) (sym added.last_query) (none_covers_new earlier less)))
        l lt

    pub live_stay_incomparable : LiveAreIncomparable before → LiveAreIncomparable after
    live_stay_incomparable apart one two differ live alive =
        let n : ℕ = length before in
        let P : ℕ → Type 0 = λ i. i ≢ two → IsLiveAt after i → AreIncomparable (query_at after i) (query_at after two) in
        let old : (i : ℕ) → i < n → P i = λ i l ne li.
        let was = was_live i l li in
        let R : ℕ → Type 0 = λ j. i ≢ j → IsLiveAt after j → AreIncomparable (query_at after i) (query_at after j) in
        old_or_new R n (length after) two added.one_more
        (λ j m ne lj.
        subst (λ (a : Query). AreIncomparable a (query_at after j)) (sym (added.earlier_query i l))
        (subst (λ (b : Query). AreIncomparable (query_at before i) b) (sym (added.earlier_query j m)) (apart i j ne was.0 (was_live j m lj).0)))
        (λ ne lj.
        subst (λ (a : Query). AreIncomparable a (query_at after n)) (sym (added.earlier_query i l))
        (subst (λ (b : Query). AreIncomparable (query_at before i) b) (sym added.last_query)
        (record { not_forth = none_covers_new i l; not_back = was.1 })))
        (live_is_row after two alive) ne alive in
        let new : P n = λ ne li.
        let R : ℕ → Type 0 = λ j. n ≢ j → IsLiveAt after j → AreIncomparable (query_at after n) (query_at after j) in
        old_or_new R n (length after) two added.one_more
        (λ j m ne lj.
        subst (λ (a : Query). AreIncomparable a (query_at after j)) (sym added.last_query)
        (subst (λ (b : Query). AreIncomparable q b) (sym (added.earlier_query j m))
        (record { not_forth = (was_live j m lj).1; not_back = none_covers_new j m })))
        (λ ne lj. absurd (ne refl))
        (live_is_row after two alive) ne alive in
        old_or_new P n (length after) one added.one_more old new (live_is_row after one live) differ live
