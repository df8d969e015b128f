-- What the calls of an antichain answer and do.
use Rattle.std.specs.Prelude.{◌≡◌, ℕ, ◌+◌, ◌<◌, ◌⊎◌, Bool, true, false, IsTrue, List, length, Option, Some, None}
use Rattle.ucq_terms.specs.Syntax.{Query}
use Rattle.ucq_terms.specs.Homomorphism.{Covers}
use Rattle.ucq_antichain.specs.declared.Row.{Row}
use Rattle.ucq_antichain.specs.declared.Added.{Added}
use Rattle.ucq_antichain.specs.declared.Added.TheVariants as answer
use Rattle.ucq_antichain.specs.Rows.{AntichainValue, query_at, IsLiveAt, SomeLiveCovers, IsFirstCover, IsAdded, live_count}

-- it is the first live row that covers the query, or there is none
abbrev pub IsCoverIn : List Row → Query → Option ℕ → Type 0
IsCoverIn rows q None = ¬ SomeLiveCovers rows q
IsCoverIn rows q (Some row) = IsFirstCover rows q row

-- The row was live and the query covers it, and it is dead now; or one of these was not so, and it is as it was.
abbrev pub MayDie : Query → Row → Bool → Row → Type 0
MayDie q before true after = IsTrue before.live × Covers q before.query × (after ≡ record { query = before.query; live = false })
MayDie q before false after = (after ≡ before) × (IsTrue before.live → ¬ Covers q before.query)

-- The live rows that the query covers, which number `pruned`, are dead now. The others stay live or dead as they were.
pub record IsPruned (q : Query) (before after : List Row) (pruned : ℕ) : Type 0 where
  pub count : length after ≡ length before
  pub query : (row : ℕ) → row < length before → query_at after row ≡ query_at before row
  pub live :
      (row : ℕ) →
      row < length before →
      IsLiveAt before row →
      (Covers q (query_at before row) × ¬ IsLiveAt after row) ⊎ ((¬ Covers q (query_at before row)) × IsLiveAt after row)
  pub dead : (row : ℕ) → row < length before → ¬ IsLiveAt before row → ¬ IsLiveAt after row
  pub fewer : live_count after + pruned ≡ live_count before

-- No live row covers the query and there is room. It is added as the last row, and so many live rows die.
pub record AddsRow (a : AntichainValue) (q : Query) (row pruned : ℕ) (after : AntichainValue) : Type 0 where
  pub uncovered : ¬ SomeLiveCovers a.rows q
  pub last : row ≡ length a.rows
  pub room : row < a.budget
  pub budget : after.budget ≡ a.budget
  pub added : IsAdded q a.rows after.rows
  pub fewer : live_count after.rows + pruned ≡ live_count a.rows + 1

-- A query that a live row covers, or for which there is no room, comes back, and nothing changes.
abbrev pub DoesAdd : AntichainValue → Query → Added → AntichainValue → Type 0
DoesAdd a q (answer.Covered row query) after = (after ≡ a) × (query ≡ q) × IsFirstCover a.rows q row
DoesAdd a q (answer.Full query) after = (after ≡ a) × (query ≡ q) × (¬ SomeLiveCovers a.rows q) × (length a.rows ≡ a.budget)
DoesAdd a q (answer.Added row pruned) after = AddsRow a q row pruned after
