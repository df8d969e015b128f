use Rattle.std.proofs.Common.{◌≡◌, ◌∙◌, ap, true, false}
use Rattle.ucq_log.specs.Notes.{Placed}
use Rattle.ucq_hom.specs.Signature.{signature_of}
use Rattle.ucq_log.proofs.Log.is_cover.Goals as goal

pub returns-then-not-may_cover-clause-covers : goal.returns-then-not-may_cover-clause-covers
returns-then-not-may_cover-clause-covers c = (
  λ e. let bad : false ≡ true = e in absurd (cc),
  λ covers. absurd (c.may_cover.ensures c.if-not-may_cover.true c.args.entry.now.query c.args.query.now (c.entry.invariant ∙ ap (λ (e : Placed). signature_of e.query) c.entry.view_is)
      c.requires.signature covers),
)
