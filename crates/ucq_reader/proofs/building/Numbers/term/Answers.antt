-- A variable's number is its place behind the first.
use Rattle.std.proofs.Common.{◌≡◌, ◌+◌, sym, ap, ◌∙◌, subst}
use Rattle.ucq_terms.specs.declared.Term.TheVariants.{Variable}
use Rattle.ucq_reader.specs.Meaning.{variable}
use Rattle.ucq_reader.specs.View.{declared_view, bytes_of}
use Rattle.ucq_reader.specs.Building.{IsTermOf, token_symbol}
use Rattle.ucq_reader.proofs.Built.{variable_lasts, variable_written}
use Rattle.ucq_reader.proofs.building.Numbers.term.Goals as goal

pub returns-in_ok-place-in-Variable-clause-term : goal.returns-in_ok-place-in-Variable-clause-term
returns-in_ok-place-in-Variable-clause-term c =
    let is : variable c.slice_of.result.now ≡ token_symbol c.args.text.now c.args.declarations.now c.args.token =
    ap variable c.slice_of.ensures ∙ sym (variable_written (declared_view c.args.text.now c.args.declarations.now) c.args.token.kind (bytes_of c.args.text.now c.args.token) c.in-Variable.is) in
    subst (λ s. IsTermOf (record c.args.self.now { variables = c.number.new.self }) s (Variable (c.args.self.now.first + c.in_ok-place-in-Variable.place))) is
    (variable_lasts c.args.self.now.variables (record c.args.self.now { variables = c.number.new.self }) c.slice_of.result.now c.in_ok-place-in-Variable.place c.in_ok-place-in-Variable.ensures.names c.in_ok-place-in-Variable.ensures.number)
