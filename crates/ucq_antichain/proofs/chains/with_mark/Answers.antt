use Rattle.std.proofs.Common.{◌*◌, ◌%◌, ◌^◌}
use Rattle.std.specs.Int.{w128}
use Rattle.std.proofs.lemmas.Nat.Bits.{bit_at_set_same}
use Rattle.ucq_antichain.proofs.Words.{or_left}
use Rattle.ucq_antichain.proofs.chains.with_mark.Goals as goal

pub returns-clause-has : goal.returns-clause-has
returns-clause-has c = bit_at_set_same w128 c.args.marks c.args.mark c.requires

pub returns-clause-kept : goal.returns-clause-kept
returns-clause-kept c = or_left c.args.marks (1 * 2 ^ c.args.mark % 2 ^ 128)
