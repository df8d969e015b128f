-- A row is added to a set of rows or taken out.
use Rattle.std.proofs.Common.{◌≡◌, ◌≢◌, ℕ, ◌/◌, ◌%◌, ◌<◌, inl, inr, sym, ap, ◌∙◌, List, length, get_or, arith, subst}
use Rattle.std.specs.Int.{bit_at}
use Rattle.std.proofs.Math.ListN.{set}
use Rattle.std.proofs.lemmas.Bool.{cases_eq}
use Rattle.std.proofs.lemmas.List.{get_or-set_same, get_or-set_other, length-set}
use Rattle.std.proofs.lemmas.Nat.Bits.{bit_at-zero}
use Rattle.ucq_antichain.specs.inner.Sets.{IsAmong, IsSameBut}

-- a word is written
module _ (words : List ℕ) (row at word : ℕ) (is : at ≡ row / 64) (inside : row / 64 < length words) where
  here : (other : ℕ) → other / 64 ≡ row / 64 → get_or (set words at word) (other / 64) 0 ≡ word
  here other e = subst (λ (k : ℕ). get_or (set words at word) k 0 ≡ word) (is ∙ sym e) (get_or-set_same words at word 0 (omega (arith, is, inside)))

  pub bit_written : bit_at (get_or (set words at word) (row / 64) 0) (row % 64) ≡ bit_at word (row % 64)
  bit_written = ap (λ (n : ℕ). bit_at n (row % 64)) (here row (sym is ∙ is))

  pub IsSameBut-written : (old : ℕ) → old ≡ get_or words (row / 64) 0 → ((i : ℕ) → i < 64 → i ≢ row % 64 → bit_at word i ≡ bit_at old i) → IsSameBut words (set words at word) row
  IsSameBut-written old read same = record {
    count = length-set words at word;
    others = λ other ne. elim (cases_eq (other / 64) (row / 64)) [
      | inl e ↦
          ap (λ (n : ℕ). bit_at n (other % 64)) (here other e) ∙ same (other % 64) (omega arith) (λ f. ne (omega (arith, e, f))) ∙ ap (λ (n : ℕ). bit_at n (other % 64)) read
          ∙ ap (λ (k : ℕ). bit_at (get_or words k 0) (other % 64)) (sym e)
      | inr apart ↦ ap (λ (n : ℕ). bit_at n (other % 64)) (get_or-set_other words at (other / 64) word 0 (λ f. apart (f ∙ is)))
    ];
  }

-- the other rows are in the set as before
pub still_among : (before after : List ℕ) (row other : ℕ) → IsSameBut before after row → other ≢ row → IsAmong before other → IsAmong after other
still_among before after row other s ne is = s.others other ne ∙ is

pub was_among : (before after : List ℕ) (row other : ℕ) → IsSameBut before after row → other ≢ row → IsAmong after other → IsAmong before other
was_among before after row other s ne is = sym (s.others other ne) ∙ is

pub added_among : (before after : List ℕ) (row other : ℕ) → IsSameBut before after row → IsAmong after row → IsAmong before other → IsAmong after other
added_among before after row other s has is = elim (cases_eq other row) [ inl e ↦ subst (IsAmong after) (sym e) has | inr ne ↦ still_among before after row other s ne is ]

-- a row that is out isn't one that is in
pub is_other : (words : List ℕ) (row other : ℕ) → ¬ IsAmong words row → IsAmong words other → other ≢ row
is_other words row other out is e = out (subst (IsAmong words) e is)

-- the words of the rows that are in
module _ (kept words now : List ℕ) (row : ℕ) (each : (r : ℕ) → IsAmong kept r → IsAmong words (r / 64)) (s : IsSameBut kept now row) where
  pub words_added : (words_now : List ℕ) → IsSameBut words words_now (row / 64) → IsAmong words_now (row / 64) → (r : ℕ) → IsAmong now r → IsAmong words_now (r / 64)
  words_added words_now w has r is = elim (cases_eq r row) [
    | inl e ↦ subst (λ (k : ℕ). IsAmong words_now (k / 64)) (sym e) has
    | inr ne ↦ added_among words words_now (row / 64) (r / 64) w has (each r (was_among kept now row r s ne is))
  ]

  pub words_stay : ¬ IsAmong now row → (r : ℕ) → IsAmong now r → IsAmong words (r / 64)
  words_stay out r is = each r (was_among kept now row r s (is_other now row r out is) is)

  pub words_emptied : ¬ IsAmong now row → get_or now (row / 64) 0 ≡ 0 → (words_now : List ℕ) → IsSameBut words words_now (row / 64) → (r : ℕ) → IsAmong now r → IsAmong words_now (r / 64)
  words_emptied out empty words_now w r is = still_among words words_now (row / 64) (r / 64) w apart (words_stay out r is)
    where
      apart : r / 64 ≢ row / 64
      apart e =
          let none : bit_at (get_or now (r / 64) 0) (r % 64) ≡ 0 = ap (λ (k : ℕ). bit_at (get_or now k 0) (r % 64)) e ∙ ap (λ (n : ℕ). bit_at n (r % 64)) empty ∙ bit_at-zero (r % 64) in
          let one : bit_at (get_or now (r / 64) 0) (r % 64) ≡ 1 = is in
          omega (arith, none, one)
