-- What the reading of a file answers, and what a whole write says.
use Rattle.std.specs.Prelude.{◌≡◌, ◌≤◌, ◌<◌, ℕ, List, length, Option, Result, Ok, Err, IfSome}
use Rattle.std.specs.Global.{Vec}
use Rattle.ucq_outside.specs.Causes.{Rose}
use Rattle.ucq_outside.specs.Taken.{SinkChange, TookAll, TookPrefix}
use Rattle.ucq_run.specs.declared.reading.Unread.{Unread}
use Rattle.ucq_run.specs.declared.reading.Unread.TheVariants as unread
use Rattle.ucq_run.specs.declared.writing.Unwritten.{Unwritten}
use Rattle.ucq_run.specs.declared.writing.Unwritten.TheVariants.{Failed, Memory}

-- Ok has the file's bytes, where they are told, and they fit into the room. A fault of the shelf comes only where its count
-- rose, at a place that is at most the file's length. The file is too long only where it passes the room.
abbrev pub IsFileRead : Option (List ℕ) → ℕ → ℕ → ℕ → Result (Vec ℕ) Unread → Type 0
IsFileRead held before now room (Ok bytes) = IfSome held (λ file. bytes.items ≡ file) × (length bytes.items ≤ room)
IsFileRead held before now room (Err (unread.Failed at)) = Rose before now × IfSome held (λ file. at ≤ length file)
IsFileRead held before now room (Err unread.TooLong) = IfSome held (λ file. room < length file)
IsFileRead held before now room (Err unread.Memory) = Unit {0}

-- Ok: all of the text was taken. Err: a prefix of it.
abbrev pub TookText : {E : Type 0} → SinkChange → List ℕ → Result (Unit {0}) E → Type 0
TookText sink text (Ok u) = TookAll sink text
TookText sink text (Err e) = TookPrefix sink text

-- Ok: all of the text was taken. Else a prefix of it; a failure of the sink comes only where its count of faults rose.
abbrev pub IsWritten : SinkChange → List ℕ → Result (Unit {0}) Unwritten → Type 0
IsWritten sink text (Ok u) = TookAll sink text
IsWritten sink text (Err Failed) = Rose sink.faults_before sink.faults_after × TookPrefix sink text
IsWritten sink text (Err Memory) = TookPrefix sink text
