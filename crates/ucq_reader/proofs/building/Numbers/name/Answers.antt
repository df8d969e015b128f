-- The text of the name is what the token or its expansion spells.
use Rattle.std.proofs.Common.{◌≡◌, sym, ap, ◌∙◌, subst, refl}
use Rattle.ucq_terms.specs.Names.{with_name}
use Rattle.ucq_reader.specs.Names.{name_text}
use Rattle.ucq_reader.specs.View.{declared_view, name_view, bytes_of}
use Rattle.ucq_reader.specs.Building.{IsNumberOf}
use Rattle.ucq_reader.proofs.Built.{number_lasts, name_numbered, name_written, name_expanded}
use Rattle.ucq_reader.proofs.building.Numbers.name.Goals as goal

pub returns-in_ok-number-in-Prefixed-clause-number : goal.returns-in_ok-number-in-Prefixed-clause-number
returns-in_ok-number-in-Prefixed-clause-number c =
    let is : c.as_slice.result.now ≡ name_text (declared_view c.args.text.now c.args.declarations.now) (name_view c.args.text.now c.args.token) =
    c.as_slice.ensures.value ∙ (c.in_ok-spell-in-Prefixed.ensures ∙
    sym (name_expanded (declared_view c.args.text.now c.args.declarations.now) c.args.token.kind (bytes_of c.args.text.now c.args.token) c.in-Prefixed.is)) in
    subst (λ t. IsNumberOf c.number.new.self t c.in_ok-number-in-Prefixed.field-0) is
    (number_lasts c.args.self.now.names c.number.new.self c.as_slice.result.now c.in_ok-number-in-Prefixed.field-0 c.in_ok-number-in-Prefixed.ensures.names c.in_ok-number-in-Prefixed.ensures.number)

pub returns-in_ok-number-in_default : goal.returns-in_ok-number-in_default
returns-in_ok-number-in_default c =
    let is : c.slice_of.result.now ≡ name_text (declared_view c.args.text.now c.args.declarations.now) (name_view c.args.text.now c.args.token) =
    c.slice_of.ensures ∙ sym (name_written (declared_view c.args.text.now c.args.declarations.now) c.args.token.kind (bytes_of c.args.text.now c.args.token) c.in_default.not-Prefixed) in
    record {
      numbered = name_numbered _ _ _ (c.in_ok-number-in_default.ensures.names ∙ ap (with_name c.args.self.now.names) is) refl refl;
      number = subst (λ t. IsNumberOf c.number-in_default.new.self t c.in_ok-number-in_default.field-0) is
          (number_lasts c.args.self.now.names c.number-in_default.new.self c.slice_of.result.now c.in_ok-number-in_default.field-0 c.in_ok-number-in_default.ensures.names c.in_ok-number-in_default.ensures.number);
      err = tt;
    }
