-- The index of an antichain, and what walks over its rows find and do.
use Rattle.std.specs.Prelude.{◌≡◌, ◌≢◌, ℕ, ◌+◌, ◌*◌, ◌<◌, ◌≤◌, ◌⊎◌, Bool, cond, List, length, slice_index}
use Rattle.std.specs.Int.{bit_at}
use Rattle.ucq_terms.specs.Syntax.{Query}
use Rattle.ucq_terms.specs.Homomorphism.{Covers}
use Rattle.ucq_hom.specs.Signature.{signature_of}
use Rattle.ucq_antichain.specs.declared.Row.{Row}
use Rattle.ucq_antichain.specs.Rows.{row_at, query_at, IsLiveAt, live_count}
use Rattle.ucq_antichain.specs.inner.Sets.{IsAmong}
use Rattle.ucq_antichain.specs.inner.Chains.{Chained, Reaches}
use Rattle.ucq_antichain.specs.inner.Index.{Indexed, signature_at}
use Rattle.ucq_antichain.specs.Calls.{MayDie}

-- the index has the signature of each row's query, and keeps each live row
pub record IsIndexOf (index : Indexed) (rows : List Row) : Type 0 where
  pub size : length index.signatures ≡ length rows
  pub each : (row : ℕ) → row < length rows → signature_at index.signatures row ≡ signature_of (query_at rows row)
  pub kept : (row : ℕ) → IsLiveAt rows row → IsAmong index.kept row

-- it is the number of rows, or a live row that covers the query
pub record IsBest (rows : List Row) (q : Query) (best : ℕ) : Type 0 where
  pub within : best ≤ length rows
  pub covers : best < length rows → IsLiveAt rows best × Covers (query_at rows best) q

-- no live row from the link on that covers the query is before this one
pub record NoneEarlier (rows : List Row) (q : Query) (chains : Chained) (link best : ℕ) : Type 0 where
  pub none : (row : ℕ) → Reaches chains.next link (row + 1) → IsLiveAt rows row → Covers (query_at rows row) q → best ≤ row

-- nor is one in the chains of a mark beside these
pub record NoneBeside (rows : List Row) (q : Query) (chains : Chained) (others first best : ℕ) : Type 0 where
  pub each : (second : ℕ) → second < 128 → bit_at others second ≡ 1 → NoneEarlier rows q chains (slice_index chains.heads (128 * first + second)) best

-- the query covers no live row between these two
pub record NoneCovered (rows : List Row) (q : Query) (from to : ℕ) : Type 0 where
  pub none : (row : ℕ) → from ≤ row → row < to → IsLiveAt rows row → ¬ Covers q (query_at rows row)

-- the row dies if it is live and the query covers it, and the others are as they were
pub record DiesAt (q : Query) (before after : List Row) (row : ℕ) (dies : Bool) : Type 0 where
  pub count : length after ≡ length before
  pub here : MayDie q (row_at before row) dies (row_at after row)
  pub others : (other : ℕ) → other ≢ row → row_at after other ≡ row_at before other
  pub fewer : live_count after + cond dies 1 0 ≡ live_count before

-- the live rows between these two that the query covers, which number `pruned`, are dead now; the others are as they were
pub record IsPrunedFrom (q : Query) (before after : List Row) (from to pruned : ℕ) : Type 0 where
  pub count : length after ≡ length before
  pub between : (row : ℕ) → from ≤ row → row < to → (b : Bool) × MayDie q (row_at before row) b (row_at after row)
  pub outside : (row : ℕ) → (row < from) ⊎ (to ≤ row) → row_at after row ≡ row_at before row
  pub fewer : live_count after + pruned ≡ live_count before
