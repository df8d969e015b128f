use Rattle.std.proofs.Common.{map, take}
use Rattle.ucq_reader.specs.Building.{form_atom}
use Rattle.ucq_reader.proofs.Built.{HasAtomsSoFar}
use Rattle.ucq_reader.proofs.building.Numbers.push_each.Given as goal

abbrev pub invariant-loop-form : goal.invariant-loop-form
invariant-loop-form l = HasAtomsSoFar l.initial.self l.self (map (form_atom l.text l.declarations) (take l.form-index l.forms)) l.initial.built.items l.built.items
