-- The work that is left falls with each claim and each risen level.
use Rattle.std.proofs.Common.{◌≡◌, ◌≢◌, ℕ, ◌+◌, ◌^◌, ◌-◌, ◌<◌, inl, inr, refl, sym, ap, ◌∙◌, subst, List, [], ◌∷◌, ◌++◌, length, Option, Some, None, arith}
use Rattle.std.proofs.lemmas.Bool.{cases_eq, cases_lt}
use Rattle.std.proofs.lemmas.List.{get_or-set_same, get_or-set_other, length-set, length-append, get_or_append_left}
use Rattle.std.proofs.lemmas.List.Sums.{sum_by-set, sum_by_push}
use Rattle.std.proofs.Math.Seq.{get_or-append_seam}
use Rattle.ucq_terms.specs.Syntax.{Query}
use Rattle.ucq_antichain.specs.declared.Row.{Row}
use Rattle.ucq_store.specs.declared.Mark.{Mark}
use Rattle.ucq_store.specs.declared.RowState.{RowState}
use Rattle.ucq_store.specs.declared.RowState.TheVariants.{Waiting, Claimed, Done}
use Rattle.ucq_store.specs.Store.{Store, mark_at, IsRow, state_of, depth_of}
use Rattle.ucq_store.specs.Changes.{with_row, with_state, with_claim, Adds, Takes}
use Rattle.ucq_store.specs.Calls.{IsFirstOpen}
use Rattle.ucq_pool.specs.inner.Progress.{work_of, work_of_marks, work_left, IsAtRest, IsNearerEnd, IsSameTask}

abbrev pub mark_work : Mark → ℕ
mark_work m = work_of m.state

abbrev pub no_mark : Mark
no_mark = record { depth = 0; state = Waiting }

-- Since a store at rest one claim was given, and only that row may be claimed.
pub record IsClaimedAlone (start s : Store) (row : ℕ) : Type 0 where
  pub task : IsSameTask start s
  pub uncut : s.cut ≡ None
  pub claims : s.claims ≡ start.claims + 1
  pub marked : length s.marks ≡ length s.rows
  pub row_of : IsRow s row
  pub others : (other number : ℕ) → IsRow s other → other ≢ row → state_of s other ≢ Claimed number
  pub idle : work_of (state_of s row) ≡ 0
  pub less : work_left s < work_left start

-- one mark's state changes
module _ (s : Store) (row : ℕ) (state : RowState) (marked : length s.marks ≡ length s.rows) (row_of : IsRow s row) where
  abbrev now : Store
  now = with_state s row state

  abbrev new : Mark
  new = record { depth = depth_of s row; state = state }

  inside : row < length s.marks
  inside = subst (λ (n : ℕ). row < n) (sym marked) row_of

  pub other_state : (other : ℕ) → other ≢ row → state_of now other ≡ state_of s other
  other_state other differs = ap (λ (m : Mark). m.state) (get_or-set_other s.marks row other new no_mark differs)

  pub this_state : state_of now row ≡ state
  this_state = ap (λ (m : Mark). m.state) (get_or-set_same s.marks row new no_mark inside)

  pub still_marked : length now.marks ≡ length now.rows
  still_marked = length-set s.marks row new ∙ marked

  pub work_changes : work_of_marks now.marks + work_of (state_of s row) ≡ work_of_marks s.marks + work_of state
  work_changes = sum_by-set mark_work s.marks row new no_mark inside

-- the claim of an open row
pub claimed_alone : (s : Store) (row : ℕ) → IsAtRest s → IsFirstOpen s.marks row → IsClaimedAlone s (with_claim s row) row
claimed_alone s row rest first =
    let row_of : IsRow s row = subst (λ (n : ℕ). row < n) rest.marked first.within in
    let work = work_changes s row (Claimed s.claims) rest.marked row_of in
    let one : work_of (state_of s row) ≡ 1 = ap work_of first.is_open in
    record {
      task = record { problem = refl; budget = refl };
      uncut = rest.uncut;
      claims = refl;
      marked = still_marked s row (Claimed s.claims) rest.marked row_of;
      row_of = row_of;
      others = λ other number l differs e. rest.unclaimed other number l (sym (other_state s row (Claimed s.claims) rest.marked row_of other differs) ∙ e);
      idle = ap work_of (this_state s row (Claimed s.claims) rest.marked row_of);
      less = omega (arith, work, one);
    }

-- a row is added
pub added_alone : (start s : Store) (row : ℕ) (core : Query) (rows : List Row) → Adds s core rows → IsClaimedAlone start s row → IsClaimedAlone start (with_row s rows) row
added_alone start s row core rows adds was =
    let mark : Mark = record { depth = s.level + 1; state = Waiting } in
    let marks : List Mark = s.marks ++ mark ∷ [] in
    let more : length rows ≡ length s.rows + 1 = adds.added.one_more in
    let room : length s.rows < s.budget = adds.room in
    let row_of : row < length s.rows = was.row_of in
    let marked : length s.marks ≡ length s.rows = was.marked in
    let old : (k : ℕ) → k < length s.marks → mark_at marks k ≡ mark_at s.marks k = λ k l. get_or_append_left s.marks (mark ∷ []) no_mark k l in
    let last : mark_at marks (length s.marks) ≡ mark = get_or-append_seam s.marks mark [] no_mark in
    let work : work_of_marks marks ≡ work_of_marks s.marks + 2 = sum_by_push mark_work s.marks mark in
    let less : work_left s < work_left start = was.less in
    record {
      task = record { problem = was.task.problem; budget = was.task.budget };
      uncut = was.uncut;
      claims = was.claims;
      marked = omega (arith, length-append s.marks (mark ∷ []));
      row_of = omega arith;
      others = λ other number l differs e. elim (cases_lt other (length s.marks)) [
        | inl lt ↦ was.others other number (omega arith) differs (ap (λ (m : Mark). m.state) (sym (old other lt)) ∙ e)
        | inr le ↦
            let same : other ≡ length s.marks = omega arith in
            let waits : state_of (with_row s rows) other ≡ Waiting = ap (λ (m : Mark). m.state) (subst (λ (k : ℕ). mark_at marks k ≡ mark) (sym same) last) in
            let bad : Waiting ≡ Claimed number = sym waits ∙ e in
            cc
      ];
      idle = ap mark_work (old row (omega arith)) ∙ was.idle;
      less = omega (arith, work, less, more, room);
    }

-- cores are taken
pub taken_alone : (start s after : Store) (row : ℕ) (cores : List Query) (places : List (Option ℕ)) → Takes s cores places after → IsClaimedAlone start s row →
    IsClaimedAlone start after row
taken_alone start s after row [] [] same was = subst (λ (t : Store). IsClaimedAlone start t row) (sym same) was
taken_alone start s after row [] (place ∷ places) bad was = absurd bad
taken_alone start s after row (core ∷ cores) [] bad was = absurd bad
taken_alone start s after row (core ∷ cores) (None ∷ places) takes was = taken_alone start s after row cores places takes.1 was
taken_alone start s after row (core ∷ cores) (Some place ∷ places) takes was =
    let (rows, adds, rest) = takes.1 in
    taken_alone start (with_row s rows) after row cores places rest (added_alone start s row core rows adds was)

-- the row is done
pub done_at_rest : (start s : Store) (row : ℕ) → IsAtRest start → IsClaimedAlone start s row → IsNearerEnd start (with_state s row Done)
done_at_rest start s row rest was =
    let work = work_changes s row Done was.marked was.row_of in
    let idle : work_of (state_of s row) ≡ 0 = was.idle in
    let less : work_left s < work_left start = was.less in
    let claims : s.claims ≡ start.claims + 1 = was.claims in
    let budget : s.budget ≡ start.budget = was.task.budget in
    let few : start.claims + work_left start < 2 ^ 64 - 1 = rest.few_claims in
    record {
      at_rest = record {
        uncut = was.uncut;
        marked = still_marked s row Done was.marked was.row_of;
        unclaimed = λ other number l e. elim (cases_eq other row) [
          | inl same ↦
              let here : state_of (with_state s row Done) row ≡ Claimed number = subst (λ (k : ℕ). state_of (with_state s row Done) k ≡ Claimed number) same e in
              let bad : Done ≡ Claimed number = sym (this_state s row Done was.marked was.row_of) ∙ here in
              cc
          | inr differs ↦ was.others other number l differs (sym (other_state s row Done was.marked was.row_of other differs) ∙ e)
        ];
        few_claims = omega (arith, work, idle, less, claims, budget, few);
      };
      less = omega (arith, work, idle, less);
    }
