-- One more pair of facts, and the last fact.
use Rattle.std.proofs.Common.{◌≡◌, ◌+◌, ℕ, arith, subst}
use Rattle.ucq_reader.specs.inner.Making.{HasPairs}
use Rattle.ucq_reader.proofs.Making.{pair_more, facts_done}
use Rattle.ucq_reader.proofs.made.Parts.push_facts.Goals as goal

pub loop-i-preserved : goal.loop-i-preserved
loop-i-preserved c = pair_more c.args.n c.loop-i.i c.loop-i.self c.push_pair.new.self c.in_ok-push_pair.ensures c.loop-i.invariant

pub returns : goal.returns
returns c =
    let all : c.loop-i.i ≡ c.args.n + 1 = omega arith in
    facts_done c.args.n c.loop-i.self c.push_last_fact.new.self c.in_ok-push_last_fact.ensures (subst (λ (k : ℕ). HasPairs c.args.n k c.loop-i.self) all c.loop-i.invariant)
