use Rattle.std.specs.Int.{w128}
use Rattle.std.proofs.lemmas.Nat.Bits.{bit_at_clear_other}
use Rattle.ucq_antichain.proofs.chains.without_mark.Goals as goal

pub returns : goal.returns
returns c = bit_at_clear_other w128 c.args.marks c.args.mark c.requires
