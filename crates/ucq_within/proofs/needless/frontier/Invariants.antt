use Rattle.std.proofs.Common.{◌≡◌, [], take}
use Rattle.ucq_terms.specs.Numbering.{terms_of}
use Rattle.ucq_within.specs.inner.Frontier.{with_frontier}
use Rattle.ucq_within.proofs.needless.frontier.Given as goal

abbrev pub invariant-loop-atom : goal.invariant-loop-atom
invariant-loop-atom l = l.frontier.keys ≡ with_frontier l.rule.body [] (terms_of (take l.atom-index l.rule.heads))
