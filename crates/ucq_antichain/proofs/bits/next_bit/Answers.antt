use Rattle.std.proofs.Common.{◌-◌, ◌/◌, ◌^◌, ◌∙◌, arith}
use Rattle.std.specs.Int.{w128}
use Rattle.std.proofs.lemmas.Nat.Bits.{bit_at-trailing_zeros}
use Rattle.ucq_antichain.proofs.Words.{bit_of_shifted, none_from, shifted_fits, bit_at_place, place_within}
use Rattle.ucq_antichain.proofs.bits.next_bit.Goals as goal

pub returns-then-left-eq0-clause-none : goal.returns-then-left-eq0-clause-none
returns-then-left-eq0-clause-none c i l m = none_from c.args.word c.args.from i l c.if-left-eq0.true

pub returns-clause-within : goal.returns-clause-within
returns-clause-within c =
    let (low, set, none) = bit_at-trailing_zeros w128 (c.args.word / 2 ^ c.args.from) (omega arith) (shifted_fits c.args.word c.args.from (2 ^ 128) c.ranges.word.fits) in
    let l = place_within c.args.word c.args.from _ 128 c.ranges.word.fits set in
    omega arith

pub returns-clause-none : goal.returns-clause-none
returns-clause-none c i l m =
    let (low, set, none) = bit_at-trailing_zeros w128 (c.args.word / 2 ^ c.args.from) (omega arith) (shifted_fits c.args.word c.args.from (2 ^ 128) c.ranges.word.fits) in
    bit_of_shifted c.args.word c.args.from i l ∙ none (i - c.args.from) (omega arith)

pub returns-clause-has : goal.returns-clause-has
returns-clause-has c l =
    let (low, set, none) = bit_at-trailing_zeros w128 (c.args.word / 2 ^ c.args.from) (omega arith) (shifted_fits c.args.word c.args.from (2 ^ 128) c.ranges.word.fits) in
    bit_at_place c.args.word c.args.from _ set
