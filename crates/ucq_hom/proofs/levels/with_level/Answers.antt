use Rattle.std.proofs.Common.{inr}
use Rattle.std.proofs.lemmas.Nat.Bits.{bit_at_set_same}
use mir.Syntax.{w128}
use Rattle.ucq_hom.proofs.Noted.{IsLevelSubset-left}
use Rattle.ucq_hom.proofs.levels.with_level.Goals as goal

pub returns-then-level-lt-LEVELS-clause-added : goal.returns-then-level-lt-LEVELS-clause-added
returns-then-level-lt-LEVELS-clause-added c = inr (bit_at_set_same w128 c.args.set c.args.level c.if-level-lt-LEVELS.true)

pub returns-then-level-lt-LEVELS-clause-kept : goal.returns-then-level-lt-LEVELS-clause-kept
returns-then-level-lt-LEVELS-clause-kept c = IsLevelSubset-left c.args.set _
