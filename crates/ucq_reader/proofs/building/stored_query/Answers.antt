-- Few atoms are few different ones.
use Rattle.std.proofs.Common.{arith}
use Rattle.ucq_terms.proofs.Once.{length-each_once}
use Rattle.ucq_reader.proofs.building.stored_query.Goals as goal

pub unreachable-requires-in-Err-TooManyAtoms : goal.unreachable-requires-in-Err-TooManyAtoms
unreachable-requires-in-Err-TooManyAtoms c =
    let fault = rw c.in-Err-TooManyAtoms.field-0-is at c.in-Err-TooManyAtoms.ensures.fault in
    omega (arith, fault.1, fault.2, length-each_once c.args.atoms.items, c.requires.few_atoms, c.args.atoms.ok)
