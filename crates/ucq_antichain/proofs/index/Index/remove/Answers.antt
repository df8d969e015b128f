use Rattle.std.proofs.Common.{refl, sym, ◌∙◌, arith}
use Rattle.ucq_antichain.proofs.Among.{words_stay, words_emptied}
use Rattle.ucq_antichain.proofs.Indexed.{IsIndex-removed}
use Rattle.ucq_antichain.proofs.index.Index.remove.Goals as goal

pub invariant_of-self : goal.invariant_of-self
invariant_of-self c =
    let f = c.self.inside in
    let (i, capacity, links) = c.self.invariant in
    let kept = c.remove-2.ensures.others in
    let out = c.remove-2.ensures.gone in
    let words = c.remove-then-word-eq0.ensures.others in (
      IsIndex-removed f.groups f.signatures.items f.all f.words f.kept f.kept_words f.chains c.args.row c.remove-2.new.self c.remove-then-word-eq0.new.self c.remove.new.self kept out words.count
          (words_emptied f.kept f.kept_words c.remove-2.new.self c.args.row i.kept_word kept out (sym c.word.ensures ∙ c.if-word-eq0.true) c.remove-then-word-eq0.new.self words)
          (record { keeps = c.remove.ensures.keeps; size = c.remove.ensures.length; ends = c.remove.ensures.ends }) i,
      capacity,
      omega (arith, links, c.remove.ensures.room),
    )

pub invariant_of-self-else-word-eq0 : goal.invariant_of-self-else-word-eq0
invariant_of-self-else-word-eq0 c =
    let f = c.self.inside in
    let (i, capacity, links) = c.self.invariant in
    let kept = c.remove-2.ensures.others in
    let out = c.remove-2.ensures.gone in (
      IsIndex-removed f.groups f.signatures.items f.all f.words f.kept f.kept_words f.chains c.args.row c.remove-2.new.self f.kept_words c.remove.new.self kept out refl
          (words_stay f.kept f.kept_words c.remove-2.new.self c.args.row i.kept_word kept out)
          (record { keeps = c.remove.ensures.keeps; size = c.remove.ensures.length; ends = c.remove.ensures.ends }) i,
      capacity,
      omega (arith, links, c.remove.ensures.room),
    )
