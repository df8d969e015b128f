use Rattle.std.proofs.Common.{◌≡◌, drop}
use Rattle.ucq_reader.specs.Meaning.{first_unknown}
use Rattle.ucq_reader.specs.Input.{words, starts}
use Rattle.ucq_reader.specs.View.{declared_view}
use Rattle.ucq_reader.proofs.faults.unknown_prefix.Given as goal

abbrev pub invariant-loop-token : goal.invariant-loop-token
invariant-loop-token l = first_unknown (declared_view l.text l.declarations) l.file (words l.text l.tokens) (starts l.tokens) ≡ first_unknown (declared_view l.text l.declarations) l.file (words l.text (drop l.token-index l.tokens)) (starts (drop l.token-index l.tokens))
