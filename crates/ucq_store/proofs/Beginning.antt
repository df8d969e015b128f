-- A store of one row is lawful.
use Rattle.std.proofs.Common.{◌≡◌, ℕ, ◌<◌, refl, sym, ◌∙◌, arith, subst}
use Rattle.ucq_terms.specs.Syntax.{Query, Problem}
use Rattle.ucq_terms.specs.Homomorphism.{IsCoreOf}
use Rattle.ucq_store.specs.declared.RowState.TheVariants.{Open, Claimed, Done, Skipped}
use Rattle.ucq_antichain.specs.Rows.{SomeLiveCovers}
use Rattle.ucq_store.specs.Store.{Store, IsRow, query_of, depth_of, state_of}
use Rattle.ucq_store.specs.Lawful.{IsSoundCore, FitsLevel, StatesFollowLevels, IsLawfulByLevels}
use Rattle.ucq_store.specs.Changes.{new_store}
use Rattle.ucq_store.proofs.Keeping.{NewIsLawful}
use Rattle.ucq_terms.proofs.Maps.{Covers-refl}
use Rattle.ucq_store.proofs.Live.{live_is_row}

-- what holds of the first row holds of each of one row
only_row : (P : ℕ → Type 0) → P 0 → (row : ℕ) → row < 1 → P row
only_row P h row l = let first : 0 ≡ row = omega arith in subst P first h

module _ (problem : Problem) (budget : ℕ) (core : Query) where
  abbrev s : Store
  s = new_store problem budget core

  open_state : (row : ℕ) → IsRow s row → state_of s row ≡ Open
  open_state row l = only_row (λ k. state_of s k ≡ Open) refl row l

  not_done : (row : ℕ) → IsRow s row → ¬ (state_of s row ≡ Done)
  not_done row l e = let bad : Open ≡ Done = sym (open_state row l) ∙ e in cc

  not_skipped : (row : ℕ) → IsRow s row → ¬ (state_of s row ≡ Skipped)
  not_skipped row l e = let bad : Open ≡ Skipped = sym (open_state row l) ∙ e in cc

  not_claimed : (row number : ℕ) → IsRow s row → ¬ (state_of s row ≡ Claimed number)
  not_claimed row number l e = let bad : Open ≡ Claimed number = sym (open_state row l) ∙ e in cc

  none_after : (row : ℕ) → IsRow s row → 0 < row → ⊥
  none_after row l positive = let m : row < 1 = l in omega arith

  follow : StatesFollowLevels s
  follow = record {
    fit = λ row l. only_row (λ k. FitsLevel 0 (depth_of s k) (state_of s k)) refl row l;
    numbers_differ = λ one two number l m e d. absurd (not_claimed one number l e);
    numbers_given = λ row number l e. absurd (not_claimed row number l e);
    skipped_are_dead = λ row l e. absurd (not_skipped row l e);
  }

  lawful_by_levels : 0 < budget → IsSoundCore problem core → IsCoreOf problem.query core → IsLawfulByLevels s
  lawful_by_levels some sound first = record {
    lawful = record {
      marks_fit = refl;
      rows_are_sound_cores = record {
        each = λ row l. only_row (λ k. IsSoundCore problem (query_of s k)) sound row l;
        first = first;
        first_depth = refl;
        some = omega arith;
        within = omega arith;
      };
      live_are_incomparable = λ one two differ a b.
          let l : one < 1 = live_is_row s.rows one a in
          let m : two < 1 = live_is_row s.rows two b in
          absurd (differ (omega arith));
      rows_are_covered = λ row l. only_row (λ k. SomeLiveCovers s.rows (query_of s k)) (record { row = 0; live = refl; covers = Covers-refl core }) row l;
      explored_are_closed = λ row result l e step. absurd (not_done row l e);
      states_follow_levels = follow;
      rows_are_derived = record {
        each = λ row l positive. absurd (none_after row l positive);
        depths = λ earlier later less l. absurd (none_after later l (omega arith));
      };
      no_row_covers_later = λ earlier later less l. absurd (none_after later l (omega arith));
      live_below_are_done = λ row live less. absurd (omega arith);
      cut_has_cause = tt;
    };
    levels_are_covered = record { explored = λ row result l e step. absurd (not_done row l e); skipped = λ row l e. absurd (not_skipped row l e) };
  }

pub new_is_lawful : NewIsLawful
new_is_lawful problem budget core some sound first = lawful_by_levels problem budget core some sound first
