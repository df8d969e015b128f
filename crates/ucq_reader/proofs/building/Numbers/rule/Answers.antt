-- A rule whose variables are numbered by first occurrence stays as it is.
use Rattle.std.proofs.Common.{arith, ◌∙◌}
use Rattle.ucq_reader.specs.Meaning.{symbol_atoms}
use Rattle.ucq_reader.specs.View.{declared_view, atoms_view}
use Rattle.ucq_reader.specs.Building.{symbols_in, written_rule}
use Rattle.ucq_reader.proofs.Sentences.{HasBegun, second_room, rule_built, length-several_added}
use Rattle.ucq_reader.proofs.building.Numbers.rule.Goals as goal

pub push_atoms-requires-2-clause-room : goal.push_atoms-requires-2-clause-room
push_atoms-requires-2-clause-room c =
    let ds = declared_view c.args.text.now c.args.declarations.now in
    let heads = symbols_in (symbol_atoms ds (atoms_view c.args.text.now c.args.heads.now)) in
    let body = symbols_in (symbol_atoms ds (atoms_view c.args.text.now c.args.body.now)) in
    let begun : HasBegun c.args.self.now c.begin.new.self 0 =
    record { names = c.in_ok-begin.ensures.names; variables = c.in_ok-begin.ensures.variables; first_is = c.in_ok-begin.ensures.first } in
    second_room c.args.self.now c.begin.new.self c.push_atoms.new.self heads body begun c.in_ok-push_atoms.ensures.numbered c.requires.names

pub new-requires : goal.new-requires
new-requires c =
    let heads = length-several_added c.args.text.now c.args.declarations.now c.args.heads.now c.push_atoms.new.self c.new-head_atoms.result.items c.push_atoms.new.built.items
    c.new-head_atoms.ensures.items c.in_ok-push_atoms.ensures.atoms in
    let body = length-several_added c.args.text.now c.args.declarations.now c.args.body.now c.push_atoms-2.new.self c.new-body_atoms.result.items c.push_atoms-2.new.built.items
    c.new-body_atoms.ensures.items c.in_ok-push_atoms-2.ensures.atoms in
    record {
      some_heads = omega (arith, heads, c.push_atoms.new.built.ok);
      few_heads = omega (arith, heads, c.push_atoms.new.built.ok, c.requires.few_heads);
      some_body = omega (arith, body, c.push_atoms-2.new.built.ok);
      few_body = omega (arith, body, c.push_atoms-2.new.built.ok, c.requires.few_body);
    }

pub returns : goal.returns
returns c =
    let begun : HasBegun c.args.self.now c.begin.new.self 0 =
    record { names = c.in_ok-begin.ensures.names; variables = c.in_ok-begin.ensures.variables; first_is = c.in_ok-begin.ensures.first } in
    let built =
    rule_built c.args.self.now c.begin.new.self c.push_atoms.new.self c.push_atoms-2.new.self (written_rule c.args.text.now c.args.declarations.now c.args.heads.now c.args.body.now)
    c.new-head_atoms.result.items c.push_atoms.new.built.items c.new-body_atoms.result.items c.push_atoms-2.new.built.items begun c.new-head_atoms.ensures.items c.new-body_atoms.ensures.items
    c.in_ok-push_atoms.ensures.numbered c.in_ok-push_atoms.ensures.atoms c.in_ok-push_atoms-2.ensures.numbered c.in_ok-push_atoms-2.ensures.atoms in
    record { names = built.names; rule = c.in_ok-rule.ensures ∙ built.value; err = tt }
