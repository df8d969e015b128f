use Rattle.std.proofs.Common.{◌≡◌, take}
use Rattle.ucq_within.specs.inner.Frontier.{with_frontier}
use Rattle.ucq_within.proofs.needless.note_terms.Given as goal

abbrev pub invariant-loop-term : goal.invariant-loop-term
invariant-loop-term l = l.frontier.keys ≡ with_frontier l.body l.initial.frontier.keys (take l.term-index l.terms)
