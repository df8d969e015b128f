use Rattle.std.proofs.Common.{map, take}
use Rattle.ucq_reader.specs.Building.{token_symbol}
use Rattle.ucq_reader.proofs.Built.{HasTermsSoFar}
use Rattle.ucq_reader.proofs.building.Numbers.push_terms.Given as goal

abbrev pub invariant-loop-token : goal.invariant-loop-token
invariant-loop-token l = HasTermsSoFar l.initial.self l.self (map (token_symbol l.text l.declarations) (take l.token-index l.tokens)) l.initial.built.items l.built.items
