use Rattle.std.proofs.Common.{sym, subst}
use Rattle.ucq_terms.specs.Syntax.{IsSafe}
use Rattle.ucq_fold.proofs.Shrunk.{IsSafe-without}
use Rattle.ucq_fold.proofs.shrinking.drop_spare.Goals as goal

pub remove_atom-requires-clause-safe : goal.remove_atom-requires-clause-safe
remove_atom-requires-clause-safe c = IsSafe-without c.args.query.now c.args.place c.requires.safe (c.find_without.ensures.maps.0 c.if-find_without.true)

pub returns-then-find_without-clause-safe : goal.returns-then-find_without-clause-safe
returns-then-find_without-clause-safe c = subst IsSafe (sym c.remove_atom.ensures)
    (IsSafe-without c.args.query.now c.args.place c.requires.safe (c.find_without.ensures.maps.0 c.if-find_without.true))
