use Rattle.std.proofs.Common.{◌<◌, length, get_or, arith}
use Rattle.std.proofs.lemmas.List.Elements.{Contains-get_or}
use Rattle.ucq_hom.proofs.Noted.{IsNoted-more}
use Rattle.ucq_hom.proofs.levels.note.Goals as goal

pub bounds-levels-variables : goal.bounds-levels-variables
bounds-levels-variables c =
    let within : get_or c.args.variables.now c.loop-i.i 0 < length c.args.levels.now = c.requires (get_or c.args.variables.now c.loop-i.i 0) (Contains-get_or c.args.variables.now c.loop-i.i 0 c.loop-i-test.true) in
    omega arith

pub loop-i-preserved : goal.loop-i-preserved
loop-i-preserved c =
    let within : get_or c.args.variables.now c.loop-i.i 0 < length c.args.levels.now = c.requires (get_or c.args.variables.now c.loop-i.i 0) (Contains-get_or c.args.variables.now c.loop-i.i 0 c.loop-i-test.true) in
    IsNoted-more c.args.levels.now c.loop-i.levels c.args.variables.now c.args.level c.loop-i.i c.loop-i-test.true (omega arith) c.loop-i.invariant
