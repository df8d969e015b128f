-- The test of equality decides it.
use Rattle.std.proofs.Common.{◌≡◌, ◌↔◌, IsTrue, subst, sym}
use Rattle.ucq_terms.specs.Equality.{Decides-query_eq}
use Rattle.ucq_terms.proofs.queries.Query.same.Goals as goal

pub returns : goal.returns
returns c = subst (λ b. IsTrue b ↔ (c.args.self.now ≡ c.args.other.now)) (sym c.eq.ensures) (Decides-query_eq c.args.self.now c.args.other.now)
