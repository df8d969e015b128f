-- One more rule of the chain, and the last rule.
use Rattle.std.proofs.Common.{◌≡◌, ℕ, arith, subst}
use Rattle.ucq_reader.specs.inner.Making.{HasChain}
use Rattle.ucq_reader.proofs.Making.{chain_more, rules_done}
use Rattle.ucq_reader.proofs.made.Parts.push_rules.Goals as goal

pub loop-i-preserved : goal.loop-i-preserved
loop-i-preserved c = chain_more c.loop-i.i c.loop-i.self c.push_chain_rule.new.self c.in_ok-push_chain_rule.ensures c.loop-i.invariant

pub returns : goal.returns
returns c =
    let all : c.loop-i.i ≡ c.args.n = omega arith in
    rules_done c.args.n c.loop-i.self c.push_last_rule.new.self c.in_ok-push_last_rule.ensures (subst (λ (k : ℕ). HasChain k c.loop-i.self) all c.loop-i.invariant)
