-- A finished store's live queries are closed and exact.
use Rattle.std.proofs.Common.{◌≡◌, ℕ, refl, sym, Contains, subst}
use Rattle.ucq_terms.specs.Syntax.{Query}
use Rattle.ucq_terms.specs.Homomorphism.{IsCore}
use Rattle.ucq_terms.specs.Rewriting.{IsOneStep}
use Rattle.ucq_terms.specs.Union.{IsSound}
use Rattle.ucq_chase.proofs.Closure.{closed_is_complete}
use Rattle.ucq_store.specs.declared.RowState.{RowState}
use Rattle.ucq_store.specs.declared.RowState.TheVariants.{Waiting, Open, Claimed, Done, Skipped}
use Rattle.ucq_antichain.specs.Rows.{live_queries}
use Rattle.ucq_store.specs.Store.{Store, query_of, IsLive, state_of, IsInWork, IsFinished}
use Rattle.ucq_store.specs.Lawful.{IsSoundCore, IsLawful}
use Rattle.ucq_store.specs.Laws.{FinishedIsClosed, FinishedIsExact}
use Rattle.ucq_terms.proofs.Lists.{All-from_contains}
use Rattle.ucq_store.proofs.Live.{live_is_row, member_is_live, any_live, live_covers_on}
use Rattle.ucq_store.proofs.Minimal.{minimal_queries}

live_is_done : (s : Store) (row : ℕ) → IsLawful s → IsFinished s → IsLive s row → state_of s row ≡ Done
live_is_done s row law end live = go (state_of s row) refl
  where
    go : (state : RowState) → state_of s row ≡ state → state_of s row ≡ Done
    go Waiting e = absurd (end.no_live_waits row live e)
    go Open e = absurd (end.none_in_work row (live_is_row s.rows row live) (subst IsInWork (sym e) tt))
    go (Claimed number) e = absurd (end.none_in_work row (live_is_row s.rows row live) (subst IsInWork (sym e) tt))
    go Done e = e
    go Skipped e = absurd (law.states_follow_levels.skipped_are_dead row (live_is_row s.rows row live) e live)

pub finished_is_closed : FinishedIsClosed
finished_is_closed s law end = (
  any_live s.rows s.problem.query
      (live_covers_on s.rows (query_of s 0) s.problem.query (law.rows_are_covered 0 law.rows_are_sound_cores.some)
      law.rows_are_sound_cores.first.equivalent.back),
  record {
    covered = λ q result i step.
        let (row, live, same) = member_is_live s.rows q i in
        any_live s.rows result
        (law.explored_are_closed row result (live_is_row s.rows row live) (live_is_done s row law end live)
        (subst (λ (a : Query). IsOneStep s.problem.rules a result) (sym same) step));
  },
)

pub live_are_sound_cores : (s : Store) → IsLawful s → (q : Query) → Contains (live_queries s.rows) q → IsSoundCore s.problem q
live_are_sound_cores s law q i =
    let (row, live, same) = member_is_live s.rows q i in
    subst (IsSoundCore s.problem) same (law.rows_are_sound_cores.each row (live_is_row s.rows row live))

pub finished_is_exact : FinishedIsExact
finished_is_exact s law end =
    let (first, closed) = finished_is_closed s law end in
    record {
      sound = All-from_contains (IsSound s.problem) (live_queries s.rows) (λ q i. (live_are_sound_cores s law q i).sound);
      complete = closed_is_complete s.problem (live_queries s.rows) first closed;
      minimal = minimal_queries s.rows law.live_are_incomparable;
      cores = All-from_contains IsCore (live_queries s.rows) (λ q i. (live_are_sound_cores s law q i).core);
    }
