use Rattle.std.proofs.Common.{◌≡◌, ◌∙◌, refl, true, false}
use Rattle.ucq_antichain.proofs.dies.Goals.{then-not-may_cover-via-then-not-may_cover, then-not-may_cover-via-else-not-may_cover+then-not-row}
use Rattle.ucq_antichain.proofs.dies.Goals as goal

pub returns-then-not-may_cover-clause-dies : goal.returns-then-not-may_cover-clause-dies
returns-then-not-may_cover-clause-dies c = (
  refl,
  λ live covers. elim c.then-not-may_cover.branch [
    | then-not-may_cover-via-then-not-may_cover w ↦
        absurd (c.may_cover.ensures w.if-not-may_cover.true c.args.query.now c.args.row.now.query (c.signature.ensures ∙ c.requires.marked) c.requires.row covers)
    | then-not-may_cover-via-else-not-may_cover+then-not-row w ↦ let dead : c.args.row.now.live ≡ false = w.if-not-row.true in let alive : c.args.row.now.live ≡ true = live in absurd (cc)
  ],
)
