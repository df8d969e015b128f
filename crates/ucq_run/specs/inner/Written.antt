-- The text of the live rows.
use Rattle.std.specs.Prelude.{ℕ, List, map}
use Rattle.ucq_antichain.specs.declared.Row.{Row}
use Rattle.ucq_antichain.specs.Rows.{live_queries}
use Rattle.ucq_print.specs.Texts.{lines_text, query_line}

-- the queries of the live rows, each on a line
abbrev pub row_texts : List (List ℕ) → List Row → List ℕ
row_texts names rows = lines_text (map (query_line names) (live_queries rows))
