-- What is printed of the rows of a rewriting.
use Rattle.std.specs.Prelude.{ℕ, List, Option}
use Rattle.ucq_antichain.specs.declared.Row.{Row}
use Rattle.ucq_store.specs.declared.Cut.{Cut}
use Rattle.ucq_print.specs.Texts.{lines_of_cut}

-- the budget, the rows, and the cut, if it is cut
pub record RowsValue : Type 0 where
  pub budget : ℕ
  pub rows : List Row
  pub cut : Option Cut

-- the lines of its cut; none where it isn't cut
abbrev pub rows_lines : List (List ℕ) → RowsValue → List (List ℕ)
rows_lines names r = lines_of_cut names r.budget r.rows r.cut
