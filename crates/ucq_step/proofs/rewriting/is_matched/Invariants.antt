use Rattle.std.proofs.Common.{◌≡◌, ℕ, false, [], take, Contains, get_or}
use Rattle.ucq_terms.specs.Unifier.{is_place}
use Rattle.ucq_step.proofs.rewriting.is_matched.Given as goal

abbrev pub invariant-loop-member : goal.invariant-loop-member
invariant-loop-member l = (member : ℕ) → Contains (take l.member-index l.members) member → is_place (get_or l.pieces member []) l.place ≡ false
