-- What one advance of a store at rest does.
use Rattle.std.proofs.Common.{◌≡◌, ℕ, ◌+◌, ◌-◌, ◌^◌, ◌<◌, ◌⊎◌, inl, inr, sym, ap, subst, Bool, true, false, not, Option, None, Some, arith}
use Rattle.std.specs.Option.{is_some, MatchOption}
use Rattle.ucq_store.specs.declared.Cut.{Cut}
use Rattle.ucq_store.specs.Store.{Store, IsCut}
use Rattle.ucq_store.specs.Changes.{with_claim, with_cut}
use Rattle.ucq_store.specs.Calls.{HasNoOpen, IsFirstOpen, DoesClaim, DoesRaise}
use Rattle.ucq_pool.specs.inner.Progress.{work_left, IsAtRest, IsExplored, IsNearerEnd, IsSameTask, DoesAdvance}
use Rattle.ucq_pool.proofs.Work.{IsClaimedAlone, claimed_alone, taken_alone, done_at_rest}
use Rattle.ucq_pool.proofs.Rising.{finished, risen}
use Rattle.ucq_pool.proofs.Explored.{not_cut}

-- the store is at rest again or cut, and its task is the same
pub record IsAdvanced (s after : Store) : Type 0 where
  pub ends : IsNearerEnd s after ⊎ IsCut after
  pub task : IsSameTask s after

-- a claimed row was explored
pub claim_advances : (s claimed after : Store) (row : ℕ) → IsAtRest s → IsFirstOpen s.marks row → claimed ≡ with_claim s row → IsExplored claimed row after →
    IsAdvanced s after
claim_advances s claimed after row rest first same e =
    let start : IsClaimedAlone s claimed row = subst (λ (t : Store). IsClaimedAlone s t row) (sym same) (claimed_alone s row rest first) in
    let now : IsClaimedAlone s e.taken row = taken_alone s claimed e.taken row e.cores e.places e.takes start in
    elim e.ends [
      | inl is ↦
          subst (IsAdvanced s) (sym is) (record {
            ends = inl (done_at_rest s e.taken row rest now);
            task = record { problem = now.task.problem; budget = now.task.budget };
          })
      | inr (cut, is) ↦
          let task : IsSameTask s (with_cut e.taken cut) = record { problem = now.task.problem; budget = now.task.budget } in
          record { ends = inr (ap (λ (t : Store). is_some t.cut) is); task = subst (IsSameTask s) (sym is) task }
    ]

-- the store's cut tells which
pub cut_tells : {T : Type 0} (s after : Store) (cut : Option T) (read : T → Cut) (more : Bool) → IsNearerEnd s after ⊎ IsCut after →
    MatchOption cut (after.cut ≡ None) (λ c. after.cut ≡ Some (read c)) → is_some cut ≡ not more → DoesAdvance s more after
cut_tells s after None read true (inl on) is e = on
cut_tells s after None read true (inr cut) is e = absurd (not_cut after is cut)
cut_tells s after None read false ends is e = absurd (cc e)
cut_tells s after (Some cut) read true ends is e = absurd (cc e)
cut_tells s after (Some cut) read false ends is e = inr (ap is_some is)

-- no row was claimed
pub none_advances : (s now after : Store) (more : Bool) → IsAtRest s → DoesClaim s None now → DoesRaise now more after → DoesAdvance s more after
none_advances s now after more rest none raise = go none.1 more (subst (λ (t : Store). DoesRaise t more after) none.0 raise)
  where
    go : IsCut s ⊎ (HasNoOpen s.marks ⊎ (s.claims ≡ 2 ^ 64 - 1)) → (more : Bool) → DoesRaise s more after → DoesAdvance s more after
    go (inl cut) more up = absurd (not_cut s rest.uncut cut)
    go (inr (inl closed)) true up = risen s rest after up
    go (inr (inl closed)) false up = inl (finished s rest after closed up)
    go (inr (inr last)) more up =
        let few : s.claims + work_left s < 2 ^ 64 - 1 = rest.few_claims in
        absurd (omega arith)
