-- What the parser answers.
use Rattle.std.specs.Prelude.{◌≡◌, ℕ, List, length}
use Rattle.ucq_lexer.specs.declared.Token.{Token}
use Rattle.ucq_reader.specs.declared.ReadFault.{ReadFault}
use Rattle.ucq_reader.specs.Outcome.{OrMemory}
use Rattle.ucq_reader.specs.Statement.{Statement}
use Rattle.ucq_reader.specs.File.{Reads}
use Rattle.ucq_reader.specs.inner.Ending.{words_from}
use Rattle.ucq_reader.specs.Meaning.{malformed}
use Rattle.ucq_reader.specs.Input.{words, IsRead}

-- the file is no list of statements, for this reason
abbrev pub IsMalformed : ℕ → List ℕ → ReadFault → Type 0
IsMalformed file text fault = OrMemory (λ (f : ReadFault). IsRead file text (malformed f)) fault

-- where so many statements end at the place, the file is no list of statements, for this reason
abbrev pub IsNoStatement : ℕ → ℕ → List ℕ → List Token → ℕ → ReadFault → Type 0
IsNoStatement file number text tokens place fault =
    (before : List Statement) → number ≡ length before → Reads (words text tokens) before (words_from text tokens place) → IsRead file text (malformed fault)
