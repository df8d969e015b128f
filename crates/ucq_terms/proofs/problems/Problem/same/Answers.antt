-- The tests of equality of the two parts decide that of the whole.
use Rattle.std.proofs.Common.{refl}
use Rattle.ucq_terms.proofs.Equality.{Decides-problem, Decides-first, Decides-second}
use Rattle.ucq_terms.proofs.problems.Problem.same.Goals as goal

pub returns-then-eq : goal.returns-then-eq
returns-then-eq c = Decides-second _ _ c.if-eq.true (Decides-problem _ _ _ _ _ _ c.self.view_is c.other.view_is c.eq.ensures c.eq-then-eq.ensures)

pub returns-else-eq : goal.returns-else-eq
returns-else-eq c = Decides-first _ _ c.if-eq.false (Decides-problem _ _ _ _ _ _ c.self.view_is c.other.view_is c.eq.ensures refl)
