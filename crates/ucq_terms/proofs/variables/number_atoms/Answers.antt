-- One more atom is numbered as the order of all of them numbers it.
use Rattle.std.proofs.Common.{arith, refl}
use Rattle.ucq_terms.proofs.Orders.{atoms_step}
use Rattle.ucq_terms.proofs.variables.number_atoms.Goals as goal

pub loop-atom-preserved : goal.loop-atom-preserved
loop-atom-preserved c =
    let step =
    atoms_step c.args.order.now.keys c.loop-atom.order.keys _ c.args.atoms.now c.loop-atom.atoms c.loop-atom.atom-index _ _ _ (omega arith)
    c.loop-atom.invariant.order c.loop-atom.invariant.atoms refl c.in_ok-number.ensures.order c.in_ok-number.ensures.atom in
    record {
      order = step.0;
      atoms = step.1;
      few = omega (arith, c.in_ok-number.ensures.few);
    }
