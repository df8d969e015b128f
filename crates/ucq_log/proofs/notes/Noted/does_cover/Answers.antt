use Rattle.std.proofs.Common.{◌≡◌, true, false, ap, ◌∙◌}
use Rattle.ucq_log.specs.Notes.{Note}
use Rattle.ucq_hom.specs.Signature.{signature_of}
use Rattle.ucq_log.proofs.notes.Noted.does_cover.Goals as goal

pub returns-then-not-may_cover-clause-covers : goal.returns-then-not-may_cover-clause-covers
returns-then-not-may_cover-clause-covers c = (
  λ e. let bad : false ≡ true = e in absurd (cc),
  λ covers. absurd (c.may_cover.ensures c.if-not-may_cover.true c.args.self.now.query c.args.other.now (c.self.invariant ∙ ap (λ (n : Note). signature_of n.query) c.self.view_is)
      c.requires.signature covers),
)
