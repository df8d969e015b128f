-- A held text keeps its number, and a new one stands last.
use Rattle.std.proofs.Common.{refl}
use Rattle.ucq_terms.specs.inner.Texts.{text_bytes}
use Rattle.ucq_terms.proofs.Texts.{IsNumbered-inserted}
use Rattle.ucq_terms.proofs.naming.Names.add.Goals as goal

pub returns-clause-names : goal.returns-clause-names
returns-clause-names c =
    (IsNumbered-inserted text_bytes c.self.inside.texts.keys _ c.args.text _ _ c.in_ok-place.place c.self.view_is refl
    c.in_ok-place.ensures.keys c.in_ok-place.ensures.index).names_are

pub returns-clause-number : goal.returns-clause-number
returns-clause-number c =
    (IsNumbered-inserted text_bytes c.self.inside.texts.keys _ c.args.text _ _ c.in_ok-place.place c.self.view_is refl
    c.in_ok-place.ensures.keys c.in_ok-place.ensures.index).number_is

pub returns-clause-held : goal.returns-clause-held
returns-clause-held c =
    (IsNumbered-inserted text_bytes c.self.inside.texts.keys _ c.args.text _ _ c.in_ok-place.place c.self.view_is refl
    c.in_ok-place.ensures.keys c.in_ok-place.ensures.index).held
