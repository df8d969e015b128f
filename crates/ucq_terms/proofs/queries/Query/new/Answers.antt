-- The answers are safe over the atoms, and so over the atoms each once, which are no more.
use Rattle.std.proofs.Common.{ap, ◌∙◌, sym, arith, length, subst}
use Rattle.ucq_terms.specs.Syntax.{HasEachOnce}
use Rattle.ucq_terms.proofs.Once.{length-each_once, HasEachOnce-each_once}
use Rattle.ucq_terms.proofs.Safety.{none-same, IsSafe-from_none, IsSafe-once}
use Rattle.ucq_terms.proofs.queries.Query.new.Goals as goal

pub overflow_cast-count : goal.overflow_cast-count
overflow_cast-count c =
    omega (arith, c.len-count.ensures, c.in_ok-atoms.atoms.ok.0, ap length c.in_ok-atoms.ensures, length-each_once c.args.atoms.items, c.requires.few, c.args.atoms.ok.0)

pub returns-then-count-gt-ATOMS-clause-fault : goal.returns-then-count-gt-ATOMS-clause-fault
returns-then-count-gt-ATOMS-clause-fault c = (
  none-same _ _ _ _ c.as_slice.ensures.value c.as_slice-2.ensures.value c.in_default.ensures,
  c.len-count.ensures ∙ (c.in_ok-atoms.atoms.ok.0 ∙ ap length c.in_ok-atoms.ensures),
  c.if-count-gt-ATOMS.true,
)

pub numbered-requires-clause-safe : goal.numbered-requires-clause-safe
numbered-requires-clause-safe c =
    IsSafe-once (record { answers = c.args.answers.items; atoms = c.args.atoms.items }) c.in_ok-atoms.atoms.items c.in_ok-atoms.ensures
    (IsSafe-from_none (record { answers = c.args.answers.items; atoms = c.args.atoms.items }) (omega (arith, c.requires.some, c.args.atoms.ok.0))
    (none-same _ _ _ _ c.as_slice.ensures.value c.as_slice-2.ensures.value c.in_default.ensures))

pub numbered-requires-clause-once : goal.numbered-requires-clause-once
numbered-requires-clause-once c = subst HasEachOnce (sym c.in_ok-atoms.ensures) (HasEachOnce-each_once c.args.atoms.items)
