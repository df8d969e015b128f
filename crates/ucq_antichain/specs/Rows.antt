-- The rows of an antichain: queries, each live or dead.
use Rattle.std.specs.Prelude.{◌≡◌, ℕ, ◌+◌, ◌<◌, ◌⊎◌, false, IsTrue, List, [], length, map, filter, count_by, slice_index_or}
use Rattle.ucq_terms.specs.Syntax.{Query}
use Rattle.ucq_terms.specs.Homomorphism.{Covers}
use Rattle.ucq_antichain.specs.declared.Row.{Row}

-- what a read past the end gives, which isn't live
abbrev pub no_row : Row
no_row = record { query = record { answers = []; atoms = [] }; live = false }

abbrev pub row_at : List Row → ℕ → Row
row_at rows row = slice_index_or rows row no_row

abbrev pub query_at : List Row → ℕ → Query
query_at rows row = (row_at rows row).query

abbrev pub IsLiveAt : List Row → ℕ → Type 0
IsLiveAt rows row = IsTrue (row_at rows row).live

-- some live row covers the query
pub record SomeLiveCovers (rows : List Row) (q : Query) : Type 0 where
  pub row : ℕ
  pub live : IsLiveAt rows row
  pub covers : Covers (query_at rows row) q

-- the row is live and covers the query, and it is the first such
pub record IsFirstCover (rows : List Row) (q : Query) (row : ℕ) : Type 0 where
  pub live : IsLiveAt rows row
  pub covers : Covers (query_at rows row) q
  pub first : (earlier : ℕ) → earlier < row → IsLiveAt rows earlier → ¬ Covers (query_at rows earlier) q

-- the queries of the live rows, in order
abbrev pub live_queries : List Row → List Query
live_queries rows = map (λ (r : Row). r.query) (filter (λ (r : Row). r.live) rows)

-- how many rows are live
abbrev pub live_count : List Row → ℕ
live_count rows = count_by (λ (r : Row). r.live) rows

-- The query is the last row, and live. The earlier live rows that it covers are dead now, and the other earlier rows stay
-- live or dead as they were. Every earlier row keeps its query.
pub record IsAdded (q : Query) (before after : List Row) : Type 0 where
  pub one_more : length after ≡ length before + 1
  pub last_query : query_at after (length before) ≡ q
  pub last_live : IsLiveAt after (length before)
  pub earlier_query : (row : ℕ) → row < length before → query_at after row ≡ query_at before row
  pub earlier_live :
      (row : ℕ) →
      row < length before →
      IsLiveAt before row →
      (Covers q (query_at before row) × ¬ IsLiveAt after row) ⊎ ((¬ Covers q (query_at before row)) × IsLiveAt after row)
  pub earlier_dead : (row : ℕ) → row < length before → ¬ IsLiveAt before row → ¬ IsLiveAt after row

-- an antichain: at most so many rows
pub record AntichainValue : Type 0 where
  pub budget : ℕ
  pub rows : List Row
