-- The statements of the code in their places.
use Rattle.std.specs.Prelude.{◌≡◌, ℕ, List}
use Rattle.ucq_lexer.specs.declared.Token.{Token}
use Rattle.ucq_reader.specs.declared.names.Declaration.{Declaration}
use Rattle.ucq_reader.specs.declared.syntax.StatementForm.{StatementForm}
use Rattle.ucq_reader.specs.Statement.{spelling}
use Rattle.ucq_reader.specs.Meaning.{Placed}
use Rattle.ucq_reader.specs.Input.{words, starts}
use Rattle.ucq_reader.specs.View.{declared_view, statement_view}

-- the statement of these tokens, after these prefix lines
abbrev pub placed_view : ℕ → ℕ → List ℕ → List Declaration → List Token → StatementForm → Placed
placed_view file number text declarations tokens form = record { file = file; number = number; starts = starts tokens; before = declared_view text declarations; statement = statement_view text form }

-- the statement is spelled by these tokens
abbrev pub IsSpelledBy : List ℕ → List Token → StatementForm → Type 0
IsSpelledBy text tokens form = spelling (statement_view text form) ≡ words text tokens
