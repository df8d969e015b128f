-- Comments: before the statement of a query, and in place of one that was cut.
use Rattle.std.specs.Prelude.{◌≡◌, ◌<◌, ◌≤◌, ◌^◌, ℕ, nat_lt, if◌then◌else◌, List, [], ◌++◌, map, All, Option, Some, None, codes, decimal}

-- a space in place of a control byte, since some databases end a comment at a carriage return, and some a text at a byte 0
abbrev pub plain_byte : ℕ → ℕ
plain_byte b = if nat_lt b 32 then 32 else b

-- what stands behind a query's number: a space and its label, where it has one
abbrev pub label_text : Option (List ℕ) → List ℕ
label_text None = []
label_text (Some label) = codes " " ++ map plain_byte label

-- Queries are numbered from 0.
abbrev pub query_comment : ℕ → Option (List ℕ) → List ℕ
query_comment number label = codes "-- query " ++ decimal number ++ label_text label ++ codes "\n"

-- The rows number the budget.
abbrev pub rows_cut_comment : ℕ → List ℕ
rows_cut_comment budget = codes "-- cut rows " ++ decimal budget ++ codes "\n"

-- The row has a rewriting with the rule that is too wide. Both are numbered from 0.
abbrev pub wide_cut_comment : ℕ → ℕ → List ℕ
wide_cut_comment row rule = codes "-- cut wide row " ++ decimal row ++ codes " rule " ++ decimal rule ++ codes "\n"

-- bytes without a control byte, such as a line feed
abbrev pub HasNoControlByte : List ℕ → Type 0
HasNoControlByte bytes = All (λ b. 32 ≤ b) bytes

-- two dashes and bytes without a control byte, and a line feed: all of it is a comment
pub record IsComment (line : List ℕ) : Type 0 where
  pub bytes : List ℕ
  pub is : line ≡ codes "--" ++ bytes ++ codes "\n"
  pub none : HasNoControlByte bytes

-- The lines above are comments, so no label, whatever its bytes, can end one.
abbrev pub LinesAreComments : Type 0
LinesAreComments =
    ((number : ℕ) (label : Option (List ℕ)) → number < 2 ^ 64 → IsComment (query_comment number label))
    × ((budget : ℕ) → budget < 2 ^ 64 → IsComment (rows_cut_comment budget))
    × ((row rule : ℕ) → row < 2 ^ 64 → rule < 2 ^ 64 → IsComment (wide_cut_comment row rule))
