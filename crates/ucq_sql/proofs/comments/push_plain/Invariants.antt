use Rattle.std.proofs.Common.{◌≡◌, ◌++◌, map, take}
use Rattle.ucq_sql.specs.Comments.{plain_byte}
use Rattle.ucq_sql.proofs.comments.push_plain.Given as goal

abbrev pub invariant-loop-byte : goal.invariant-loop-byte
invariant-loop-byte l = l.line.items ≡ l.initial.line.items ++ map plain_byte (take l.byte-index l.bytes)
