use Rattle.std.proofs.Common.{◌≡◌, true, false, sym, ◌∙◌, inr, ⊎_elim}
use Rattle.ucq_unify.proofs.classes.is_spoilt.Goals as goal

pub returns-else-meets_answer : goal.returns-else-meets_answer
returns-else-meets_answer c = λ links k. (
  λ e. inr (inr ((c.meets_other.ensures links k).0 e)),
  λ s. ⊎_elim
      (λ a. let e : false ≡ true = sym c.if-meets_constant.false ∙ (c.meets_constant.ensures links k).1 a in cc)
      (λ r. ⊎_elim (λ a. let e : false ≡ true = sym c.if-meets_answer.false ∙ (c.meets_answer.ensures links k).1 a in cc)
      (λ a. (c.meets_other.ensures links k).1 a) r) s,
)
