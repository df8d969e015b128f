use Rattle.std.proofs.Common.{◌≡◌, true, false, sym, ◌∙◌, inl}
use Rattle.ucq_unify.proofs.classes.has_clash.Goals as goal

pub returns-then-has_clash-clause-clash : goal.returns-then-has_clash-clause-clash
returns-then-has_clash-clause-clash c = λ links k _. inl (c.has_clash.ensures.clash c.if-has_clash.true links k)

pub returns-else-has_clash-clause-none : goal.returns-else-has_clash-clause-none
returns-else-has_clash-clause-none c = λ links k e. (
  c.has_clash.ensures.none c.if-has_clash.false links k,
  λ s. let f : false ≡ true = sym e ∙ (c.has_spoilt.ensures links k).1 s in cc,
)
