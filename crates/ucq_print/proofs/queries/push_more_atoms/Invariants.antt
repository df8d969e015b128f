use Rattle.std.proofs.Common.{◌≡◌, ◌++◌, take}
use Rattle.std.specs.Prelude.{codes}
use Rattle.std.specs.List.{flat_map}
use Rattle.ucq_print.specs.Texts.{atom_text}
use Rattle.ucq_print.proofs.queries.push_more_atoms.Given as goal

abbrev pub invariant-loop-atom : goal.invariant-loop-atom
invariant-loop-atom l = l.text.items ≡ l.initial.text.items ++ flat_map (λ a. codes ", " ++ atom_text l.names a) (take l.atom-index l.atoms)
