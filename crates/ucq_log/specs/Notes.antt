-- What stands in a log, and what an entry tells of it.
use Rattle.std.specs.Prelude.{ℕ}
use Rattle.ucq_terms.specs.Syntax.{Query}

-- what was added: a row's number and its query
pub record Note : Type 0 where
  pub row : ℕ
  pub query : Query

-- how an entry is known to be of its log: a part of the log, and the name that tells this part from those of other logs
pub record Mark : Type 0 where
  pub part : ℕ
  pub name : ℕ

-- an entry: its place in its log, what was added there, and the mark of the log
pub record Placed : Type 0 where
  pub place : ℕ
  pub row : ℕ
  pub query : Query
  pub mark : Mark
