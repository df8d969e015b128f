-- Sums of counts that saturate.
use Rattle.std.proofs.Common.{◌≡◌, ◌+◌, ℕ, [], ◌∷◌, ◌++◌, get_or, refl, sym, subst, inl, inr, length-append, arith}
use Rattle.std.proofs.lemmas.Bool.{cases_lt}
use Rattle.std.proofs.lemmas.List.{get_or_append_left, get_or_push}
use Rattle.std.proofs.lemmas.List.Sums.{sum_by_push}
use Rattle.std.specs.Prelude.{min}
use Rattle.ucq_tally.specs.inner.Sums.{most, IsSaturated, IsSumOf}

-- a sum of no counts
pub IsSaturated-none : (Counts : ℕ → ℕ → Type 0) → IsSaturated (IsSumOf Counts 0) 0
IsSaturated-none Counts = record {
  number = 0;
  is = record { counts = []; many = refl; each = λ place l. absurd (omega arith); total = refl };
  answered = omega arith;
}

-- one count more
IsSumOf-more : (Counts : ℕ → ℕ → Type 0) (places number count : ℕ) → IsSumOf Counts places number → Counts places count →
    IsSumOf Counts (places + 1) (number + count)
IsSumOf-more Counts places number count s here = record {
  counts = s.counts ++ count ∷ [];
  many = let m = s.many in omega (arith, m, length-append s.counts (count ∷ []));
  each = λ place l. elim (cases_lt place places) [
    | inl below ↦ subst (λ (n : ℕ). Counts place n) (sym (get_or_append_left s.counts (count ∷ []) 0 place (let m = s.many in omega (arith, m, below)))) (s.each place below)
    | inr above ↦ let same : places ≡ place = omega (arith, l, above) in
        subst (λ (p : ℕ). Counts p (get_or (s.counts ++ count ∷ []) p 0)) same
        (subst (λ (n : ℕ). Counts places n) (sym (get_or_push s.counts count 0 places s.many)) here)
  ];
  total = let t = s.total in let p = sum_by_push (λ (n : ℕ). n) s.counts count in omega (arith, t, p);
}

-- the answer for one count more
pub IsSaturated-more : (Counts : ℕ → ℕ → Type 0) (places before count after : ℕ) → IsSaturated (IsSumOf Counts places) before →
    IsSaturated (Counts places) count → after ≡ min (before + count) most → IsSaturated (IsSumOf Counts (places + 1)) after
IsSaturated-more Counts places before count after s t e = record {
  number = s.number + t.number;
  is = IsSumOf-more Counts places s.number t.number s.is t.is;
  answered = let a = s.answered in let b = t.answered in omega (arith, a, b, e);
}
