-- What a live row covers stays covered.
use Rattle.std.proofs.Common.{◌≡◌, ℕ, List, [], ◌∷◌, inl, inr, sym, ap, subst, Bool, true, false}
use Rattle.std.specs.Prelude.{Option, Some, None}
use Rattle.ucq_terms.specs.Syntax.{Query}
use Rattle.ucq_antichain.specs.declared.Row.{Row}
use Rattle.ucq_antichain.specs.Rows.{SomeLiveCovers}
use Rattle.ucq_store.specs.declared.Claim.{Claim}
use Rattle.ucq_store.specs.declared.Released.{Released}
use Rattle.ucq_store.specs.declared.Released.TheVariants as released
use Rattle.ucq_store.specs.declared.Published.{Published}
use Rattle.ucq_store.specs.declared.Published.TheVariants as published
use Rattle.ucq_store.specs.Store.{Store}
use Rattle.ucq_store.specs.Reports.{Report}
use Rattle.ucq_store.specs.Changes.{with_row, Takes}
use Rattle.ucq_store.specs.Calls.{DoesClaim, DoesRelease, DoesReopen, DoesRaise, DoesPublish, IsTaken, IsCutFull, IsCutWide}
use Rattle.ucq_store.specs.Moments.{IsLater, at_once, by_claim, by_release, by_reopen, by_publish, by_raise, StayCovered}
use Rattle.ucq_store.proofs.Added.{still_covered}

abbrev CoversOn : Store → Store → Query → Type 0
CoversOn s after q = SomeLiveCovers s.rows q → SomeLiveCovers after.rows q

-- with the same rows
same_rows : (s after : Store) (q : Query) → after.rows ≡ s.rows → CoversOn s after q
same_rows s after q same c = subst (λ (rows : List Row). SomeLiveCovers rows q) (sym same) c

rows_of : (s after : Store) → after ≡ s → after.rows ≡ s.rows
rows_of s after same = ap (λ (t : Store). t.rows) same

-- cores are taken
takes_on : (s after : Store) (q : Query) (cores : List Query) (places : List (Option ℕ)) → Takes s cores places after → CoversOn s after q
takes_on s after q [] [] same c = same_rows s after q (rows_of s after same) c
takes_on s after q [] (place ∷ places) bad c = absurd bad
takes_on s after q (core ∷ rest) [] bad c = absurd bad
takes_on s after q (core ∷ rest) (None ∷ places) (live, takes) c = takes_on s after q rest places takes c
takes_on s after q (core ∷ rest) (Some new ∷ places) (at, (rows, adds, takes)) c =
    takes_on (with_row s rows) after q rest places takes (still_covered core s.rows rows adds.added q c)

claim_on : (s after : Store) (q : Query) (answer : Option Claim) → DoesClaim s answer after → CoversOn s after q
claim_on s after q None does = same_rows s after q (rows_of s after does.0)
claim_on s after q (Some claim) does = same_rows s after q (ap (λ (t : Store). t.rows) does.4)

release_on : (s after : Store) (q : Query) (claim : Claim) (answer : Released) → DoesRelease s claim answer after → CoversOn s after q
release_on s after q claim released.Opened does = same_rows s after q (ap (λ (t : Store). t.rows) does.2)
release_on s after q claim (released.Strange None) does = same_rows s after q (rows_of s after does.0)
release_on s after q claim (released.Strange (Some state)) does = same_rows s after q (rows_of s after does.0)

reopen_on : (s after : Store) (q : Query) → DoesReopen s after → CoversOn s after q
reopen_on s after q (marks, is, same) = same_rows s after q (ap (λ (t : Store). t.rows) same)

raise_on : (s after : Store) (q : Query) (answer : Bool) → DoesRaise s answer after → CoversOn s after q
raise_on s after q true (can, (marks, is, same)) = same_rows s after q (ap (λ (t : Store). t.rows) same)
raise_on s after q false does = same_rows s after q (rows_of s after does.1)

-- what a taken store covers, the store with other marks or with a cut does
then_on : (s mid after : Store) (q : Query) → CoversOn s mid q → after.rows ≡ mid.rows → CoversOn s after q
then_on s mid after q on same c = same_rows mid after q same (on c)

taken_on : (s after : Store) (q : Query) (row : ℕ) (report then : Report) → IsTaken s row report after then → CoversOn s after q
taken_on s after q row report then t =
    then_on s t.taken after q (takes_on s t.taken q t.takes.cores t.takes.places t.takes.takes) (ap (λ (u : Store). u.rows) t.store)

full_on : (s after : Store) (q : Query) (report then : Report) → IsCutFull s report after then → CoversOn s after q
full_on s after q report then t =
    then_on s t.taken after q (takes_on s t.taken q t.fills.seen t.fills.places t.fills.takes) (ap (λ (u : Store). u.rows) t.store)

wide_on : (s after : Store) (q : Query) (row : ℕ) (report then : Report) → IsCutWide s row report after then → CoversOn s after q
wide_on s after q row report then t = same_rows s after q (ap (λ (u : Store). u.rows) t.store)

publish_on : (s after : Store) (q : Query) (claim : Claim) (report then : Report) (answer : Published) → DoesPublish s claim report answer after then → CoversOn s after q
publish_on s after q claim report then published.Cut (inl was) = same_rows s after q (rows_of s after was.0.0)
publish_on s after q claim report then published.Cut (inr (due, inl full)) = full_on s after q report then full
publish_on s after q claim report then published.Cut (inr (due, inr wide)) = wide_on s after q claim.row report then wide
publish_on s after q claim report then published.Foreign does = same_rows s after q (rows_of s after does.0.0)
publish_on s after q claim report then (published.Strange state) does = same_rows s after q (rows_of s after does.0.0)
publish_on s after q claim report then published.Taken does = taken_on s after q claim.row report then does.1

covers_later : {s after : Store} (q : Query) → IsLater s after → CoversOn s after q
covers_later q at_once c = c
covers_later {s} q (by_claim {next = next} answer does later) c = covers_later q later (claim_on s next q answer does c)
covers_later {s} q (by_release {next = next} given answer does later) c = covers_later q later (release_on s next q given answer does c)
covers_later {s} q (by_reopen {next = next} does later) c = covers_later q later (reopen_on s next q does c)
covers_later {s} q (by_publish {next = next} given report then answer does later) c = covers_later q later (publish_on s next q given report then answer does c)
covers_later {s} q (by_raise {next = next} answer does later) c = covers_later q later (raise_on s next q answer does c)

pub stay_covered : StayCovered
stay_covered s after q later c = covers_later q later c
