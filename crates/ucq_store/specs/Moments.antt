-- A store at later moments.
use Rattle.std.specs.Prelude.{Bool, Option}
use Rattle.ucq_terms.specs.Syntax.{Query}
use Rattle.ucq_antichain.specs.Rows.{SomeLiveCovers}
use Rattle.ucq_store.specs.declared.Claim.{Claim}
use Rattle.ucq_store.specs.declared.Released.{Released}
use Rattle.ucq_store.specs.declared.Published.{Published}
use Rattle.ucq_store.specs.Store.{Store}
use Rattle.ucq_store.specs.Reports.{Report}
use Rattle.ucq_store.specs.Calls.{DoesClaim, DoesRelease, DoesReopen, DoesRaise, DoesPublish}

-- The second is the first at a later moment: calls were made in between, whatever they answered.
pub data IsLater : Store → Store → Type 0 where
  at_once : {s : Store} → IsLater s s
  by_claim : {s next after : Store} (answer : Option Claim) → DoesClaim s answer next → IsLater next after → IsLater s after
  by_release : {s next after : Store} (claim : Claim) (answer : Released) → DoesRelease s claim answer next → IsLater next after → IsLater s after
  by_reopen : {s next after : Store} → DoesReopen s next → IsLater next after → IsLater s after
  by_publish :
      {s next after : Store} (claim : Claim) (report then : Report) (answer : Published) →
      DoesPublish s claim report answer next then →
      IsLater next after →
      IsLater s after
  by_raise : {s next after : Store} (answer : Bool) → DoesRaise s answer next → IsLater next after → IsLater s after

-- what a live row covers, a live row covers at every later moment
abbrev pub StayCovered : Type 0
StayCovered = (s after : Store) (q : Query) → IsLater s after → SomeLiveCovers s.rows q → SomeLiveCovers after.rows q
