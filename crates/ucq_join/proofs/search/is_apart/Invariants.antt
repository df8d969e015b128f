use Rattle.std.proofs.Common.{◌<◌, ℕ, get_or}
use Rattle.ucq_terms.specs.Rewriting.{AreApart}
use Rattle.ucq_join.specs.Walk.{piece_member}
use Rattle.ucq_join.proofs.search.is_apart.Given as goal

abbrev pub invariant-loop-i : goal.invariant-loop-i
invariant-loop-i l = (k : ℕ) → k < l.i → AreApart (piece_member l.pieces (get_or l.members k 0)) (piece_member l.pieces l.place)
