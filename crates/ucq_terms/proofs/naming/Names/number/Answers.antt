-- Names that hold the text stay as they are.
use Rattle.std.proofs.Common.{sym}
use Rattle.ucq_terms.proofs.Texts.{Contains-slice_get, with_name-held}
use Rattle.ucq_terms.proofs.naming.Names.number.Goals as goal

pub returns-in-Some-find-clause-names : goal.returns-in-Some-find-clause-names
returns-in-Some-find-clause-names c =
    sym (with_name-held c.args.self.now c.args.text.now (Contains-slice_get c.args.self.now c.in-Some-find.number c.args.text.now c.in-Some-find.ensures.held))
