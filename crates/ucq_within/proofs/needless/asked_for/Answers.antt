-- Few atoms are few different ones, and no answer is unsafe.
use Rattle.std.proofs.Common.{List, length, sym, ap, ap₂, subst, arith}
use Rattle.ucq_terms.specs.declared.Term.{Term}
use Rattle.ucq_terms.specs.Syntax.{Atom, Query, IsSafe}
use Rattle.ucq_terms.proofs.Once.{length-each_once}
use Rattle.ucq_terms.proofs.Safety.{none-from_IsSafe}
use Rattle.ucq_within.proofs.needless.asked_for.Goals as goal

pub unreachable-requires : goal.unreachable-requires
unreachable-requires c =
    let query : List Term → List Atom → Query = λ answers atoms. record { answers = answers; atoms = atoms } in
    let safe : IsSafe (query c.in_ok-answers.answers.items c.in_ok-atoms.atoms.items) =
    subst IsSafe (sym (ap₂ query c.in_ok-answers.ensures c.in_ok-atoms.ensures)) c.requires.safe in
    let fault = rw c.in-Err-Unsafe.field-0-is at c.in-Err-Unsafe.ensures.fault in
    none-from_IsSafe (query c.in_ok-answers.answers.items c.in_ok-atoms.atoms.items) safe c.in-Err-Unsafe.field-0-0 fault.here

pub unreachable-requires-in-Err-TooManyAtoms : goal.unreachable-requires-in-Err-TooManyAtoms
unreachable-requires-in-Err-TooManyAtoms c =
    let fault = rw c.in-Err-TooManyAtoms.field-0-is at c.in-Err-TooManyAtoms.ensures.fault in
    let same = ap (λ (xs : List Atom). length xs) c.in_ok-atoms.ensures in
    omega (arith, fault.1, fault.2, length-each_once c.in_ok-atoms.atoms.items, same, c.requires.few_atoms)
