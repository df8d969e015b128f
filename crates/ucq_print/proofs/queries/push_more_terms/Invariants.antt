use Rattle.std.proofs.Common.{◌≡◌, ◌++◌, take}
use Rattle.std.specs.Prelude.{codes}
use Rattle.std.specs.List.{flat_map}
use Rattle.ucq_print.specs.Texts.{term_text}
use Rattle.ucq_print.proofs.queries.push_more_terms.Given as goal

abbrev pub invariant-loop-term : goal.invariant-loop-term
invariant-loop-term l = l.text.items ≡ l.initial.text.items ++ flat_map (λ t. codes "," ++ term_text l.names t) (take l.term-index l.terms)
