use Rattle.std.proofs.Common.{◌≡◌, ◌++◌, take}
use Rattle.ucq_sql.specs.Text.{doubled}
use Rattle.ucq_sql.proofs.quotes.push_doubled.Given as goal

abbrev pub invariant-loop-byte : goal.invariant-loop-byte
invariant-loop-byte l = l.text.items ≡ l.initial.text.items ++ doubled l.quote (take l.byte-index l.bytes)
