-- What the calls of a log answer.
use Rattle.std.specs.Prelude.{◌≡◌, ℕ, ◌<◌, List, [], length, Option, Some, None, slice_index_or}
use Rattle.boxcar.specs.Table.{id_at}
use Rattle.ucq_terms.specs.Syntax.{Query}
use Rattle.ucq_terms.specs.Homomorphism.{Covers}
use Rattle.ucq_log.specs.declared.Log.{Log}
use Rattle.ucq_log.specs.declared.Entry.{Entry}
use Rattle.ucq_log.specs.declared.Seen.{Seen}
use Rattle.ucq_log.specs.declared.Seen.TheVariants as answer

-- the entry is of this log
abbrev pub IsEntryOf : Log → Entry → Type 0
IsEntryOf log entry = entry.mark.name ≡ id_at log.buckets entry.mark.part

-- the entry is of this log, and gives this row and this query
pub record Holds (log : Log) (row : ℕ) (q : Query) (entry : Entry) : Type 0 where
  pub of_log : IsEntryOf log entry
  pub same_row : entry.row ≡ row
  pub same_query : entry.query ≡ q

-- what a read past the end gives
abbrev pub no_entry : Entry
no_entry = record { place = 0; row = 0; query = record { answers = []; atoms = [] }; mark = record { part = 0; name = 0 } }

-- the query of the entry at a place of the list
abbrev pub query_at : List Entry → ℕ → Query
query_at entries place = (slice_index_or entries place no_entry).query

-- the query of none of the entries covers the given one
pub record NoneCovers (entries : List Entry) (q : Query) : Type 0 where
  pub none : (place : ℕ) → place < length entries → ¬ Covers (query_at entries place) q

-- the query of the entry at this place covers the given one, and it is the first such
pub record IsFirstCover (entries : List Entry) (q : Query) (place : ℕ) : Type 0 where
  pub within : place < length entries
  pub covers : Covers (query_at entries place) q
  pub first : (earlier : ℕ) → earlier < place → ¬ Covers (query_at entries earlier) q

-- it is the place of the first covering entry, or there is none
abbrev pub IsCoverIn : List Entry → Query → Option ℕ → Type 0
IsCoverIn entries q None = NoneCovers entries q
IsCoverIn entries q (Some place) = IsFirstCover entries q place

-- the entry is of this log, and its query covers the given one
pub record IsCover (log : Log) (q : Query) (entry : Entry) : Type 0 where
  pub of_log : IsEntryOf log entry
  pub covers : Covers entry.query q

-- The first of the caller's own entries that covers the query; or, where none of these does, another entry of the log that
-- does, or none. Whether another one is found isn't said.
abbrev pub IsSeen : Log → List Entry → Query → Option Seen → Type 0
IsSeen log own q None = NoneCovers own q
IsSeen log own q (Some (answer.Own place)) = IsFirstCover own q place
IsSeen log own q (Some (answer.Other entry)) = NoneCovers own q × IsCover log q entry
