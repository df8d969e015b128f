use Rattle.std.proofs.Common.{sym, subst}
use Rattle.std.proofs.lemmas.Result.{on_ok_weaker}
use Rattle.ucq_hom.specs.Search.{HasLowAtoms}
use Rattle.ucq_hom.proofs.Homs.{HasLowAtoms-atoms}
use Rattle.ucq_bans.proofs.Gathered.{found_images_as}
use Rattle.ucq_bans.proofs.images.gather_images.Goals as goal

pub gather-requires-clause-low : goal.gather-requires-clause-low
gather-requires-clause-low c = subst HasLowAtoms (sym c.atoms-atoms.ensures.atoms) (HasLowAtoms-atoms c.args.query.now c.atoms-atoms.ensures.stored)

pub returns : goal.returns
returns c = on_ok_weaker c.gather.result (λ f. found_images_as c.clear.new.self c.atoms-atoms.result.now c.args.query.now.atoms c.order_for.new.order c.args.facts.now
    c.clear-2.new.self.items _ _ c.clear.ensures c.order_for.ensures c.atoms-atoms.ensures.atoms c.clear-2.ensures.items f) c.gather.ensures.found
