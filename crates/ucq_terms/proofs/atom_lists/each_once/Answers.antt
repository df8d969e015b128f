-- One more atom is kept.
use Rattle.ucq_terms.proofs.Once.{each_once-push}
use Rattle.ucq_terms.proofs.atom_lists.each_once.Goals as goal

pub loop-atom-preserved : goal.loop-atom-preserved
loop-atom-preserved c = each_once-push c.loop-atom.yielded c.loop-atom.kept.items _ c.in-Some.atom c.loop-atom.invariant c.in_ok-keep.ensures
