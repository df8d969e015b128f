-- The text of a part that is cut.
use mathlib.Core.Logic.{inl, inr}
use Rattle.std.specs.Prelude.{◌≡◌, ◌<◌, ◌≤◌, ◌⊎◌, ℕ, List, length}
use Rattle.ucq_terms.specs.Syntax.{Problem, Query}
use Rattle.ucq_antichain.specs.declared.Row.{Row}
use Rattle.ucq_store.specs.Lawful.{IsLeftOver, IsWideRow}
use Rattle.ucq_store.specs.Laws.{IsCutListing, IsEnough}
use Rattle.ucq_print.specs.Laws.{ArePrintableRows, IsPrintable}
use Rattle.ucq_print.specs.Texts.{rows_cut_text, wide_cut_text}
use Rattle.ucq_run.specs.Finished.{Question}

-- The text of a cut at the budget: of a cut listing of so many rows, and of a sound core of a one-step rewriting of a row,
-- which no row covers.
pub record IsRowsCutText (names : List (List ℕ)) (problem : Problem) (budget : ℕ) (text : List ℕ) : Type 0 where
  pub rows : List Row
  pub left : Query
  pub listing : IsCutListing problem rows
  pub left_over : IsLeftOver problem budget rows left
  pub printable : ArePrintableRows names rows
  pub printable_left : IsPrintable names left
  pub printed : text ≡ rows_cut_text names budget rows left

-- The text of a cut at a wide rewriting: of a cut listing of at most so many rows, of which that row has with that rule of the
-- problem a rewriting that is too wide.
pub record IsWideCutText (names : List (List ℕ)) (problem : Problem) (budget : ℕ) (text : List ℕ) : Type 0 where
  pub rows : List Row
  pub row : ℕ
  pub rule : ℕ
  pub width : ℕ
  pub listing : IsCutListing problem rows
  pub within : length rows ≤ budget
  pub wide : IsWideRow problem.rules rows row rule width
  pub rule_of : rule < length problem.rules
  pub printable : ArePrintableRows names rows
  pub printed : text ≡ wide_cut_text names row rule rows

abbrev pub IsCutText : List (List ℕ) → Problem → ℕ → List ℕ → Type 0
IsCutText names problem budget text = IsRowsCutText names problem budget text ⊎ IsWideCutText names problem budget text

-- the rows that the text of a cut lists
abbrev pub rows_of : (names : List (List ℕ)) (problem : Problem) (budget : ℕ) (text : List ℕ) → IsCutText names problem budget text → List Row
rows_of names problem budget text (inl c) = c.rows
rows_of names problem budget text (inr c) = c.rows

-- the text of a cut, which comes only where the budget isn't enough
pub record IsCutTextOf (q : Question) (text : List ℕ) : Type 0 where
  pub cut : IsCutText q.names q.problem q.budget text
  pub short : ¬ IsEnough q.problem q.budget
