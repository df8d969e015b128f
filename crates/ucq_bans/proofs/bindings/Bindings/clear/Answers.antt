use Rattle.std.proofs.Common.{arith}
use Rattle.ucq_hom.proofs.Trail.{IsClear-kept}
use Rattle.ucq_bans.proofs.bindings.Bindings.clear.Goals as goal

pub returns : goal.returns
returns c = IsClear-kept _ c.undo.ensures.kept (let l = c.undo.ensures.left in omega arith)
