-- The test looks for an equal atom.
use Rattle.std.proofs.Common.{ap, ◌∙◌}
use Rattle.std.specs.List.{list_any}
use Rattle.ucq_terms.specs.Numbering.{atom_eq}
use Rattle.ucq_terms.proofs.Once.{with_atom-held, with_atom-new}
use Rattle.ucq_terms.proofs.atom_lists.keep.Goals as goal

pub returns-then-contains : goal.returns-then-contains
returns-then-contains c =
    with_atom-held c.args.kept.now.items c.args.atom c.contains.result
    (c.contains.ensures.value ∙ ap (list_any (λ b. atom_eq b c.args.atom)) c.deref.ensures.value) c.if-contains.true

pub returns : goal.returns
returns c =
    c.in_ok-push.ensures.items ∙
    with_atom-new c.args.kept.now.items c.args.atom c.contains.result
    (c.contains.ensures.value ∙ ap (list_any (λ b. atom_eq b c.args.atom)) c.deref.ensures.value) c.if-contains.false
