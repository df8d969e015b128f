-- A publication keeps the store's problem and budget.
use Rattle.std.proofs.Common.{◌≡◌, ℕ, inl, inr, refl, ap, ◌∙◌, List, [], ◌∷◌, Option, None, Some}
use Rattle.ucq_terms.specs.Syntax.{Query}
use Rattle.ucq_store.specs.declared.Claim.{Claim}
use Rattle.ucq_store.specs.declared.Published.{Published}
use Rattle.ucq_store.specs.declared.Published.TheVariants as published
use Rattle.ucq_store.specs.Store.{Store}
use Rattle.ucq_store.specs.Reports.{Report}
use Rattle.ucq_store.specs.Changes.{with_row, Takes}
use Rattle.ucq_store.specs.Calls.{DoesPublish, IsTaken, IsCutFull, IsCutWide}
use Rattle.ucq_pool.specs.inner.Progress.{IsSameTask}

same_task : (s after : Store) → after ≡ s → IsSameTask s after
same_task s after is = record { problem = ap (λ (t : Store). t.problem) is; budget = ap (λ (t : Store). t.budget) is }

then_task : (s t u : Store) → IsSameTask s t → IsSameTask t u → IsSameTask s u
then_task s t u one two = record { problem = two.problem ∙ one.problem; budget = two.budget ∙ one.budget }

takes_task : (s after : Store) (cores : List Query) (places : List (Option ℕ)) → Takes s cores places after → IsSameTask s after
takes_task s after [] [] is = same_task s after is
takes_task s after [] (place ∷ places) bad = absurd bad
takes_task s after (core ∷ cores) [] bad = absurd bad
takes_task s after (core ∷ cores) (None ∷ places) takes = takes_task s after cores places takes.1
takes_task s after (core ∷ cores) (Some place ∷ places) takes =
    let (rows, adds, rest) = takes.1 in
    then_task s (with_row s rows) after (record { problem = refl; budget = refl }) (takes_task (with_row s rows) after cores places rest)

taken_task : (s after : Store) (row : ℕ) (report then : Report) → IsTaken s row report after then → IsSameTask s after
taken_task s after row report then t =
    let ends : IsSameTask t.taken after = record { problem = ap (λ (u : Store). u.problem) t.store; budget = ap (λ (u : Store). u.budget) t.store } in
    then_task s t.taken after (takes_task s t.taken t.takes.cores t.takes.places t.takes.takes) ends

full_task : (s after : Store) (report then : Report) → IsCutFull s report after then → IsSameTask s after
full_task s after report then t =
    let ends : IsSameTask t.taken after = record { problem = ap (λ (u : Store). u.problem) t.store; budget = ap (λ (u : Store). u.budget) t.store } in
    then_task s t.taken after (takes_task s t.taken t.fills.seen t.fills.places t.fills.takes) ends

wide_task : (s after : Store) (row : ℕ) (report then : Report) → IsCutWide s row report after then → IsSameTask s after
wide_task s after row report then t = record { problem = ap (λ (u : Store). u.problem) t.store; budget = ap (λ (u : Store). u.budget) t.store }

pub published_task : (s after : Store) (claim : Claim) (report then : Report) (answer : Published) → DoesPublish s claim report answer after then → IsSameTask s after
published_task s after claim report then published.Cut (inl was) = same_task s after was.0.0
published_task s after claim report then published.Cut (inr (due, inl full)) = full_task s after report then full
published_task s after claim report then published.Cut (inr (due, inr wide)) = wide_task s after claim.row report then wide
published_task s after claim report then published.Foreign does = same_task s after does.0.0
published_task s after claim report then (published.Strange state) does = same_task s after does.0.0
published_task s after claim report then published.Taken does = taken_task s after claim.row report then does.1
