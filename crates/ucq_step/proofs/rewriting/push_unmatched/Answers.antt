use Rattle.std.proofs.Common.{ℕ, List, Contains, subst}
use Rattle.ucq_step.proofs.rewriting.push_unmatched.Goals as goal

pub is_matched-requires : goal.is_matched-requires
is_matched-requires c = λ member i. c.requires.within member (subst (λ (ms : List ℕ). Contains ms member) c.members.ensures i)
