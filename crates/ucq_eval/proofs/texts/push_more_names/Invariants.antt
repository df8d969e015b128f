use Rattle.std.proofs.Common.{◌≡◌, ◌++◌, take}
use Rattle.std.specs.Prelude.{codes}
use Rattle.std.specs.List.{flat_map}
use Rattle.ucq_terms.specs.Names.{name_text}
use Rattle.ucq_eval.proofs.texts.push_more_names.Given as goal

abbrev pub invariant-loop-number : goal.invariant-loop-number
invariant-loop-number l = l.text.items ≡ l.initial.text.items ++ flat_map (λ n. codes "," ++ name_text l.names n) (take l.number-index l.numbers)
