use Rattle.std.proofs.lemmas.Map.Made.{AllPairs-from_IsDistinct}
use Rattle.ucq_terms.specs.Syntax.{HasEachOnce}
use Rattle.ucq_terms.specs.Equality.{Decides-atom_eq}
use Rattle.std.proofs.Common.{subst}
use Rattle.ucq_facts.proofs.Facts.len.Goals as goal

pub returns-clause-once : goal.returns-clause-once
returns-clause-once c = subst HasEachOnce c.self.view_is (AllPairs-from_IsDistinct Decides-atom_eq c.self.inside.atoms.keys c.len.ensures.unique)
