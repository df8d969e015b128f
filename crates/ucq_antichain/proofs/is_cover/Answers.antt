use Rattle.std.proofs.Common.{◌≡◌, ◌∙◌, true, false}
use Rattle.ucq_antichain.specs.Rows.{query_at}
use Rattle.ucq_antichain.proofs.Walked.{live_inside}
use Rattle.ucq_antichain.proofs.is_cover.Goals as goal

pub returns-then-not-may_cover-clause-covers : goal.returns-then-not-may_cover-clause-covers
returns-then-not-may_cover-clause-covers c = (
  λ e. let bad : false ≡ true = e in absurd (cc),
  λ (live, covers). absurd (c.may_cover.ensures c.if-not-may_cover.true (query_at c.args.rows.now c.args.row) c.args.query.now
      (c.signature.ensures ∙ c.requires.index.each c.args.row (live_inside c.args.rows.now c.args.row live)) (c.signature-2.ensures ∙ c.requires.marked) covers),
)
