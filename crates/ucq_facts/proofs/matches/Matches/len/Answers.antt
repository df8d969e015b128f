use Rattle.ucq_facts.proofs.Places.{length-left}
use Rattle.ucq_facts.proofs.matches.Matches.len.Goals as goal

pub returns : goal.returns
returns c = length-left c.self.inside.atoms.now c.self.inside.places.now c.args.self.now c.self.invariant c.self.view_is
