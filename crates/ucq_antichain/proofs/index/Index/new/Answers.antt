use Rattle.std.proofs.Common.{arith}
use Rattle.ucq_antichain.proofs.Indexed.{none_indexed}
use Rattle.ucq_antichain.proofs.index.Index.new.Goals as goal

pub invariant_of-result : goal.invariant_of-result
invariant_of-result c =
    let (one, ends, room) = c.in_ok-chains.ensures in
    let (many, no_row) = c.in_ok-kept.ensures in
    let (words_many, no_word) = c.in_ok-kept_words.ensures in (
      none_indexed c.args.groups c.in_ok-signatures.signatures.items c.in_ok-all.all c.in_ok-words.words c.in_ok-kept.kept c.in_ok-kept_words.kept_words c.in_ok-chains.chains c.requires c.in_ok-signatures.ensures.items c.in_ok-all.ensures c.in_ok-words.ensures many words_many no_row one ends,
      omega (arith, c.in_ok-signatures.ensures.capacity),
      omega (arith, room),
    )
