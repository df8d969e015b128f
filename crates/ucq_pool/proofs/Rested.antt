-- A store whose claimed rows are opened is at rest.
use Rattle.std.proofs.Common.{◌≡◌, ◌≢◌, ℕ, ◌*◌, ◌^◌, ◌<◌, ◌≤◌, sym, ap, ◌∙◌, subst, List, [], ◌∷◌, length, Option, None, Some, false, arith}
use Rattle.std.specs.Option.{is_some, MatchOption}
use Rattle.std.proofs.lemmas.List.Sums.{sum_by-cons}
use Rattle.ucq_store.specs.declared.Cut.{Cut}
use Rattle.ucq_store.specs.declared.Mark.{Mark}
use Rattle.ucq_store.specs.declared.RowState.{RowState}
use Rattle.ucq_store.specs.declared.RowState.TheVariants.{Waiting, Open, Claimed, Done, Skipped}
use Rattle.ucq_store.specs.Store.{Store, state_of}
use Rattle.ucq_store.specs.Lawful.{IsLawful}
use Rattle.ucq_store.specs.Changes.{reopened}
use Rattle.ucq_store.specs.Calls.{DoesReopen}
use Rattle.ucq_pool.specs.inner.Progress.{work_of, work_of_marks, IsAtRest}

little_work : (state : RowState) → work_of state ≤ 2
little_work Waiting = omega arith
little_work Open = omega arith
little_work (Claimed number) = omega arith
little_work Done = omega arith
little_work Skipped = omega arith

-- at most two things are left to do for each row
work_bound : (marks : List Mark) → work_of_marks marks ≤ 2 * length marks
work_bound [] = omega arith
work_bound (m ∷ marks) =
    let here : work_of m.state ≤ 2 = little_work m.state in
    let rest : work_of_marks marks ≤ 2 * length marks = work_bound marks in
    omega (arith, here, rest, sum_by-cons (λ (k : Mark). work_of k.state) m marks)

reopened_free : (state : RowState) (number : ℕ) → reopened state ≢ Claimed number
reopened_free Waiting number = λ e. cc
reopened_free Open number = λ e. cc
reopened_free (Claimed other) number = λ e. cc
reopened_free Done number = λ e. cc
reopened_free Skipped number = λ e. cc

pub at_rest : (s after : Store) → DoesReopen s after → IsLawful after → after.cut ≡ None → s.budget ≤ 65536 → s.claims < 2 ^ 63 → IsAtRest after
at_rest s after (marks, opens, same) lawful uncut small few =
    let marked : length after.marks ≡ length after.rows = lawful.marks_fit in
    let are : after.marks ≡ marks = ap (λ (t : Store). t.marks) same in
    let claims : after.claims ≡ s.claims = ap (λ (t : Store). t.claims) same in
    let count : length after.marks ≡ length s.marks = ap (λ (ms : List Mark). length ms) are ∙ opens.count in
    let budget : after.budget ≡ s.budget = ap (λ (t : Store). t.budget) same in
    let within : length after.rows ≤ after.budget = lawful.rows_are_sound_cores.within in
    let work : work_of_marks after.marks ≤ 2 * length after.marks = work_bound after.marks in
    record {
      uncut = uncut;
      marked = marked;
      unclaimed = λ row number l e.
          let inside : row < length s.marks = omega (arith, l, marked, count) in
          reopened_free (state_of s row) number
          (sym (ap (λ (m : Mark). m.state) (opens.each row inside)) ∙ subst (λ (ms : List Mark). state_of (record after { marks = ms }) row ≡ Claimed number) are e);
      few_claims = omega (arith, marked, within, work, claims, budget, small, few);
    }

-- the store's cut tells that it isn't cut
pub uncut_here : {T : Type 0} (s : Store) (cut : Option T) (read : T → Cut) → MatchOption cut (s.cut ≡ None) (λ c. s.cut ≡ Some (read c)) → is_some cut ≡ false →
    s.cut ≡ None
uncut_here s None read is e = is
uncut_here s (Some cut) read is e = absurd cc
