-- What a publication does to a claimed row on which the report is.
use Rattle.std.proofs.Common.{◌≡◌, ℕ, inl, inr, refl, sym, ap, ◌∙◌, true, false, [], None}
use Rattle.std.specs.Option.{is_some}
use Rattle.ucq_store.specs.declared.Claim.{Claim}
use Rattle.ucq_store.specs.declared.Cut.TheVariants as cut
use Rattle.ucq_store.specs.declared.Published.{Published}
use Rattle.ucq_store.specs.declared.Published.TheVariants as published
use Rattle.ucq_store.specs.Store.{Store, IsCut}
use Rattle.ucq_store.specs.Reports.{Report}
use Rattle.ucq_store.specs.Calls.{IsAbout, IsClaimed, IsTaken, IsCutFull, IsCutWide, DoesPublish}
use Rattle.ucq_pool.specs.inner.Progress.{IsExplored}

pub not_cut : (s : Store) → s.cut ≡ None → ¬ IsCut s
not_cut s none is = let bad : false ≡ true = sym (ap is_some none) ∙ is in cc

from_taken : (s after : Store) (row : ℕ) (report then : Report) → IsTaken s row report after then → IsExplored s row after
from_taken s after row report then t =
    record { cores = t.takes.cores; places = t.takes.places; taken = t.taken; takes = t.takes.takes; ends = inl t.store }

from_full : (s after : Store) (row : ℕ) (report then : Report) → IsCutFull s report after then → IsExplored s row after
from_full s after row report then t =
    record { cores = t.fills.seen; places = t.fills.places; taken = t.taken; takes = t.fills.takes; ends = inr (cut.Rows t.left, t.store) }

from_wide : (s after : Store) (row : ℕ) (report then : Report) → IsCutWide s row report after then → IsExplored s row after
from_wide s after row report then t =
    record { cores = []; places = []; taken = s; takes = refl; ends = inr (cut.Wide row t.rule t.count, t.store) }

-- the report is taken or makes a cut: it is neither foreign nor is the claim strange
pub explored : (s after : Store) (claim : Claim) (report then : Report) (answer : Published) → s.cut ≡ None → IsAbout s claim.row report → IsClaimed s claim →
    DoesPublish s claim report answer after then → IsExplored s claim.row after
explored s after claim report then published.Cut uncut about claimed (inl was) = absurd (not_cut s uncut was.1)
explored s after claim report then published.Cut uncut about claimed (inr (due, inl full)) = from_full s after claim.row report then full
explored s after claim report then published.Cut uncut about claimed (inr (due, inr wide)) = from_wide s after claim.row report then wide
explored s after claim report then published.Foreign uncut about claimed does = absurd (does.2 about)
explored s after claim report then (published.Strange state) uncut about claimed does = absurd (does.4 claimed)
explored s after claim report then published.Taken uncut about claimed does = from_taken s after claim.row report then does.1
