-- A store stays lawful when its claimed rows are reopened, and when its level rises.
use Rattle.std.proofs.Common.{◌≡◌, ◌≢◌, ℕ, ◌+◌, ◌<◌, ◌≤◌, ◌⊎◌, inl, inr, refl, sym, ap, ◌∙◌, List, Bool, true, false, length, arith, subst}
use Rattle.ucq_store.specs.declared.RowState.{RowState}
use Rattle.ucq_store.specs.declared.RowState.TheVariants.{Waiting, Open, Claimed, Done, Skipped}
use Rattle.ucq_antichain.specs.Rows.{row_at}
use Rattle.ucq_store.specs.declared.Mark.{Mark}
use Rattle.ucq_store.specs.Store.{mark_at, Store, IsRow, IsLive, depth_of, state_of, IsInWork}
use Rattle.ucq_store.specs.Lawful.{FitsLevel, StatesFollowLevels, IsLawful, LevelsAreCovered}
use Rattle.ucq_store.specs.Changes.{raised, reopened, IsRaised, IsReopened}
use Rattle.ucq_store.proofs.Keeping.{ReopenKeeps, RaiseKeeps}
use Rattle.ucq_store.proofs.Live.{live_is_row}
use Rattle.ucq_store.proofs.Depths.{no_deeper}
use Rattle.ucq_store.proofs.Remarking.{remarked, remarked_is_lawful, remarked_is_covered}

reopened_fits : (level depth : ℕ) (state : RowState) → FitsLevel level depth state → FitsLevel level depth (reopened state)
reopened_fits level depth Waiting f = f
reopened_fits level depth Open f = f
reopened_fits level depth (Claimed number) f = f
reopened_fits level depth Done f = f
reopened_fits level depth Skipped f = f

reopened_unclaimed : (state : RowState) (number : ℕ) → reopened state ≢ Claimed number
reopened_unclaimed Waiting number e = cc
reopened_unclaimed Open number e = cc
reopened_unclaimed (Claimed other) number e = cc
reopened_unclaimed Done number e = cc
reopened_unclaimed Skipped number e = cc

reopened_done : (state : RowState) → reopened state ≡ Done → state ≡ Done
reopened_done Waiting e = cc
reopened_done Open e = cc
reopened_done (Claimed other) e = cc
reopened_done Done e = refl
reopened_done Skipped e = cc

reopened_skipped : (state : RowState) → reopened state ≡ Skipped → state ≡ Skipped
reopened_skipped Waiting e = cc
reopened_skipped Open e = cc
reopened_skipped (Claimed other) e = cc
reopened_skipped Done e = cc
reopened_skipped Skipped e = refl

module _ (s : Store) (marks : List Mark) (re : IsReopened s.marks marks) (fit : length s.marks ≡ length s.rows) where
  reopened_mark : (row : ℕ) → IsRow s row → mark_at marks row ≡ record { depth = depth_of s row; state = reopened (state_of s row) }
  reopened_mark row l = re.each row (subst (λ (n : ℕ). row < n) (sym fit) l)

  reopened_depth : (row : ℕ) → IsRow s row → (mark_at marks row).depth ≡ depth_of s row
  reopened_depth row l = ap (λ (m : Mark). m.depth) (reopened_mark row l)

  reopened_state : (row : ℕ) (state : RowState) → IsRow s row → (mark_at marks row).state ≡ state → reopened (state_of s row) ≡ state
  reopened_state row state l e = sym (ap (λ (m : Mark). m.state) (reopened_mark row l)) ∙ e

  reopened_follow : IsLawful s → StatesFollowLevels (remarked s marks s.level s.claims)
  reopened_follow law =
      let was = law.states_follow_levels in
      record {
        fit = λ row l.
            subst (λ (m : Mark). FitsLevel s.level m.depth m.state) (sym (reopened_mark row l))
            (reopened_fits s.level (depth_of s row) (state_of s row) (was.fit row l));
        numbers_differ = λ one two number l m e d. absurd (reopened_unclaimed (state_of s one) number (reopened_state one (Claimed number) l e));
        numbers_given = λ row number l e. absurd (reopened_unclaimed (state_of s row) number (reopened_state row (Claimed number) l e));
        skipped_are_dead = λ row l e. was.skipped_are_dead row l (reopened_skipped (state_of s row) (reopened_state row Skipped l e));
      }

  reopened_lawful : IsLawful s → IsLawful (remarked s marks s.level s.claims)
  reopened_lawful law = remarked_is_lawful s marks s.level s.claims (re.count ∙ fit) reopened_depth (reopened_follow law)
      (λ row l e. record {
        covered = λ result step. law.explored_are_closed row result l (reopened_done (state_of s row) (reopened_state row Done l e)) step;
      }) law

  reopened_levels : IsLawful s → LevelsAreCovered s → LevelsAreCovered (remarked s marks s.level s.claims)
  reopened_levels law was = remarked_is_covered s marks s.level s.claims (re.count ∙ fit) reopened_depth
      (λ row result l e step. was.explored row result l (reopened_done (state_of s row) (reopened_state row Done l e)) step)
      (λ row l e.
      let c = was.skipped row l (reopened_skipped (state_of s row) (reopened_state row Skipped l e)) in
      record { by = c.by; unskipped = λ d. c.unskipped (reopened_skipped (state_of s c.by.row) (reopened_state c.by.row Skipped c.by.row_of d)) })

pub reopen_keeps : ReopenKeeps
reopen_keeps s marks re = record {
  lawful = λ law. reopened_lawful s marks re law.marks_fit law;
  by_levels = λ both. record {
    lawful = reopened_lawful s marks re both.lawful.marks_fit both.lawful;
    levels_are_covered = reopened_levels s marks re both.lawful.marks_fit both.lawful both.levels_are_covered;
  };
}

raised_fits : (level depth : ℕ) (state : RowState) (live : Bool) → ¬ IsInWork state → FitsLevel level depth state →
    FitsLevel (level + 1) depth (raised state live)
raised_fits level depth Waiting true none f = f
raised_fits level depth Waiting false none f = omega arith
raised_fits level depth Open live none f = absurd (none tt)
raised_fits level depth (Claimed number) live none f = absurd (none tt)
raised_fits level depth Done live none f = omega arith
raised_fits level depth Skipped live none f = omega arith

raised_claimed : (state : RowState) (live : Bool) (number : ℕ) → ¬ IsInWork state → raised state live ≢ Claimed number
raised_claimed Waiting true number none e = cc
raised_claimed Waiting false number none e = cc
raised_claimed Open live number none e = cc
raised_claimed (Claimed other) live number none e = none tt
raised_claimed Done live number none e = cc
raised_claimed Skipped live number none e = cc

raised_done : (state : RowState) (live : Bool) → raised state live ≡ Done → state ≡ Done
raised_done Waiting true e = cc
raised_done Waiting false e = cc
raised_done Open live e = cc
raised_done (Claimed other) live e = cc
raised_done Done live e = refl
raised_done Skipped live e = cc

-- a row is Skipped that was so, or that waited and is dead
raised_skipped : (state : RowState) (live : Bool) → raised state live ≡ Skipped → (state ≡ Skipped) ⊎ ((state ≡ Waiting) × (live ≡ false))
raised_skipped Waiting true e = absurd (cc)
raised_skipped Waiting false e = inr (refl, refl)
raised_skipped Open live e = absurd (cc)
raised_skipped (Claimed other) live e = absurd (cc)
raised_skipped Done live e = absurd (cc)
raised_skipped Skipped live e = inl refl

module _ (s : Store) (marks : List Mark) (idle : (row : ℕ) → IsRow s row → ¬ IsInWork (state_of s row)) (up : IsRaised s.rows s.marks marks) where
  raised_depth : (row : ℕ) → IsRow s row → (mark_at marks row).depth ≡ depth_of s row
  raised_depth row l = ap (λ (m : Mark). m.depth) (up.each row l)

  raised_state : (row : ℕ) (state : RowState) → IsRow s row → (mark_at marks row).state ≡ state → raised (state_of s row) (row_at s.rows row).live ≡ state
  raised_state row state l e = sym (ap (λ (m : Mark). m.state) (up.each row l)) ∙ e

  was_skipped : (row : ℕ) → IsRow s row → (mark_at marks row).state ≡ Skipped → (state_of s row ≡ Skipped) ⊎ ((state_of s row ≡ Waiting) × ¬ IsLive s row)
  was_skipped row l e = elim (raised_skipped (state_of s row) (row_at s.rows row).live (raised_state row Skipped l e)) [
    | inl same ↦ inl same
    | inr waited ↦ inr (waited.0, λ live. let bad : false ≡ true = sym waited.1 ∙ live in cc)
  ]

  raised_follow : IsLawful s → StatesFollowLevels (remarked s marks (s.level + 1) s.claims)
  raised_follow law =
      let was = law.states_follow_levels in
      record {
        fit = λ row l.
            subst (λ (m : Mark). FitsLevel (s.level + 1) m.depth m.state) (sym (up.each row l))
            (raised_fits s.level (depth_of s row) (state_of s row) (row_at s.rows row).live (idle row l) (was.fit row l));
        numbers_differ = λ one two number l m e d.
            absurd (raised_claimed (state_of s one) (row_at s.rows one).live number (idle one l) (raised_state one (Claimed number) l e));
        numbers_given = λ row number l e.
            absurd (raised_claimed (state_of s row) (row_at s.rows row).live number (idle row l) (raised_state row (Claimed number) l e));
        skipped_are_dead = λ row l e. elim (was_skipped row l e) [ inl same ↦ was.skipped_are_dead row l same | inr waited ↦ waited.1 ];
      }

  raised_lawful : IsLawful s → IsLawful (remarked s marks (s.level + 1) s.claims)
  raised_lawful law = remarked_is_lawful s marks (s.level + 1) s.claims (up.count ∙ law.marks_fit) raised_depth (raised_follow law)
      (λ row l e. record {
        covered = λ result step.
            law.explored_are_closed row result l (raised_done (state_of s row) (row_at s.rows row).live (raised_state row Done l e)) step;
      }) law

  raised_levels : IsLawful s → LevelsAreCovered s → LevelsAreCovered (remarked s marks (s.level + 1) s.claims)
  raised_levels law was = remarked_is_covered s marks (s.level + 1) s.claims (up.count ∙ law.marks_fit) raised_depth
      (λ row result l e step. was.explored row result l (raised_done (state_of s row) (row_at s.rows row).live (raised_state row Done l e)) step)
      (λ row l e. elim (was_skipped row l e) [
        | inl same ↦
            let c = was.skipped row l same in
            let other : ℕ = c.by.row in
            let below : depth_of s row ≤ s.level = subst (FitsLevel s.level (depth_of s row)) same (law.states_follow_levels.fit row l) in
            let deep : depth_of s other ≤ depth_of s row = c.by.no_deeper in
            record {
              by = c.by;
              unskipped = λ d. elim (was_skipped other c.by.row_of d) [
                | inl again ↦ c.unskipped again
                | inr waited ↦
                    let one : depth_of s other ≡ s.level + 1 =
                    subst (FitsLevel s.level (depth_of s other)) waited.0 (law.states_follow_levels.fit other c.by.row_of) in
                    omega arith
              ];
            }
        | inr waited ↦
            let c = law.rows_are_covered row l in
            let m = live_is_row s.rows c.row c.live in
            let one : depth_of s row ≡ s.level + 1 = subst (FitsLevel s.level (depth_of s row)) waited.0 (law.states_follow_levels.fit row l) in
            let deep : depth_of s c.row ≤ s.level + 1 = no_deeper s c.row law m in
            record {
              by = record { row = c.row; row_of = m; no_deeper = omega arith; covers = c.covers };
              unskipped = λ d. elim (was_skipped c.row m d) [
                | inl again ↦ law.states_follow_levels.skipped_are_dead c.row m again c.live
                | inr dead ↦ dead.1 c.live
              ];
            }
      ])

pub raise_keeps : RaiseKeeps
raise_keeps s marks idle up = record {
  lawful = λ law. raised_lawful s marks idle up law;
  by_levels = λ both. record {
    lawful = raised_lawful s marks idle up both.lawful;
    levels_are_covered = raised_levels s marks idle up both.lawful both.levels_are_covered;
  };
}
