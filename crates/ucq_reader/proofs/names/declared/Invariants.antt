use Rattle.std.proofs.Common.{◌≡◌, length}
use Rattle.ucq_reader.specs.Names.{declared}
use Rattle.ucq_reader.specs.View.{declared_view}
use Rattle.ucq_reader.proofs.names.declared.Given as goal

abbrev pub invariant-loop-last : goal.invariant-loop-last
invariant-loop-last l = declared (declared_view l.text l.declarations) l.prefix ≡ declared (declared_view l.text l.earlier) l.prefix

abbrev pub decreases-loop-last : goal.decreases-loop-last
decreases-loop-last l = length l.earlier
