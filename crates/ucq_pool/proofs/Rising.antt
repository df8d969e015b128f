-- A store at rest without an open row rises, or is finished.
use Rattle.std.proofs.Common.{◌≡◌, ◌≢◌, ℕ, ◌+◌, ◌^◌, ◌-◌, ◌<◌, ◌≤◌, refl, sym, ap, ◌∙◌, subst, Bool, true, false, length, arith}
use Rattle.ucq_store.specs.declared.Mark.{Mark}
use Rattle.ucq_store.specs.declared.RowState.{RowState}
use Rattle.ucq_store.specs.declared.RowState.TheVariants.{Waiting, Open, Claimed, Done, Skipped}
use Rattle.ucq_antichain.specs.Rows.{row_at}
use Rattle.ucq_store.specs.Store.{Store, mark_at, IsRow, state_of, IsInWork, IsFinished}
use Rattle.ucq_store.specs.Changes.{raised}
use Rattle.ucq_store.specs.Calls.{HasNoOpen, DoesRaise}
use Rattle.ucq_store.proofs.Live.{live_is_row}
use Rattle.ucq_pool.specs.inner.Progress.{work_of, work_of_marks, work_left, IsAtRest, IsNearerEnd}
use Rattle.ucq_pool.proofs.Sums.{sum_less}
use Rattle.ucq_pool.proofs.Work.{mark_work, no_mark}

-- a row that is neither open nor claimed isn't in work
not_in_work : (state : RowState) → state ≢ Open → ((number : ℕ) → state ≢ Claimed number) → ¬ IsInWork state
not_in_work Waiting closed free work = work
not_in_work Open closed free work = closed refl
not_in_work (Claimed number) closed free work = free number refl
not_in_work Done closed free work = work
not_in_work Skipped closed free work = work

-- a risen level leaves no more work with a row, and makes no claim
raised_work : (state : RowState) (live : Bool) → work_of (raised state live) ≤ work_of state
raised_work Waiting true = omega arith
raised_work Waiting false = omega arith
raised_work Open live = omega arith
raised_work (Claimed number) live = omega arith
raised_work Done live = omega arith
raised_work Skipped live = omega arith

raised_claim : (state : RowState) (live : Bool) (number : ℕ) → raised state live ≡ Claimed number → state ≡ Claimed number
raised_claim Waiting true number e = cc
raised_claim Waiting false number e = cc
raised_claim Open live number e = cc
raised_claim (Claimed other) live number e = e
raised_claim Done live number e = cc
raised_claim Skipped live number e = cc

module _ (s : Store) (rest : IsAtRest s) where
  idle : HasNoOpen s.marks → (row : ℕ) → IsRow s row → ¬ IsInWork (state_of s row)
  idle none row l = not_in_work (state_of s row) (none row (subst (λ (n : ℕ). row < n) (sym rest.marked) l)) (λ number. rest.unclaimed row number l)

  -- no level comes, so no live row waits
  pub finished : (after : Store) → HasNoOpen s.marks → DoesRaise s false after → IsFinished after
  finished after none stays =
      subst IsFinished (sym stays.1) (record {
        uncut = rest.uncut;
        none_in_work = idle none;
        no_live_waits = λ row live waits. stays.0 (record { uncut = rest.uncut; none_in_work = idle none; one_waits = (row, live, waits) });
      })

  -- a level comes, and a live row no longer waits for it
  pub risen : (after : Store) → DoesRaise s true after → IsNearerEnd s after
  risen after up =
      let (can, (marks, is, same)) = up in
      let (row, live, waits) = can.one_waits in
      let row_of : IsRow s row = live_is_row s.rows row live in
      let inside : (k : ℕ) → k < length s.marks → IsRow s k = λ k l. subst (λ (n : ℕ). k < n) rest.marked l in
      let state : (k : ℕ) → IsRow s k → (mark_at marks k).state ≡ raised (state_of s k) (row_at s.rows k).live = λ k l. ap (λ (m : Mark). m.state) (is.each k l) in
      let no_more : (k : ℕ) → k < length s.marks → mark_work (mark_at marks k) ≤ mark_work (mark_at s.marks k) =
      λ k l. subst (λ (n : ℕ). n ≤ work_of (state_of s k)) (sym (ap work_of (state k (inside k l)))) (raised_work (state_of s k) (row_at s.rows k).live) in
      let opens : (mark_at marks row).state ≡ Open = state row row_of ∙ (ap (λ (b : Bool). raised (state_of s row) b) live ∙ ap (λ (r : RowState). raised r true) waits) in
      let one : mark_work (mark_at marks row) ≡ 1 = ap work_of opens in
      let two : mark_work (mark_at s.marks row) ≡ 2 = ap work_of waits in
      let less : work_of_marks marks < work_of_marks s.marks =
      sum_less mark_work no_mark s.marks marks row is.count no_more (subst (λ (n : ℕ). row < n) (sym rest.marked) row_of) (omega (arith, one, two)) in
      let few : s.claims + work_left s < 2 ^ 64 - 1 = rest.few_claims in
      subst (IsNearerEnd s) (sym same) (record {
        at_rest = record {
          uncut = rest.uncut;
          marked = is.count ∙ rest.marked;
          unclaimed = λ k number l e. rest.unclaimed k number l (raised_claim (state_of s k) (row_at s.rows k).live number (sym (state k l) ∙ e));
          few_claims = omega (arith, less, few);
        };
        less = omega (arith, less);
      })
