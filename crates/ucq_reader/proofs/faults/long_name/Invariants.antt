use Rattle.std.proofs.Common.{◌≡◌, drop}
use Rattle.ucq_reader.specs.View.{declared_view}
use Rattle.ucq_reader.proofs.Scans.{long_name_in}
use Rattle.ucq_reader.proofs.faults.long_name.Given as goal

abbrev pub invariant-loop-token : goal.invariant-loop-token
invariant-loop-token l = long_name_in (declared_view l.text l.declarations) l.text l.tokens ≡ long_name_in (declared_view l.text l.declarations) l.text (drop l.token-index l.tokens)
