use Rattle.std.proofs.Common.{◌*◌, ◌%◌, ◌^◌}
use Rattle.std.specs.Int.{w64}
use Rattle.std.proofs.lemmas.Nat.Bits.{bit_at_set_same, bit_at_set_other}
use Rattle.ucq_antichain.proofs.Words.{or_left}
use Rattle.ucq_antichain.proofs.bits.with_bit.Goals as goal

pub returns-clause-has : goal.returns-clause-has
returns-clause-has c = bit_at_set_same w64 c.args.word c.args.bit c.requires

pub returns-clause-kept : goal.returns-clause-kept
returns-clause-kept c = or_left c.args.word (1 * 2 ^ c.args.bit % 2 ^ 64)

pub returns-clause-others : goal.returns-clause-others
returns-clause-others c = bit_at_set_other w64 c.args.word c.args.bit c.requires
