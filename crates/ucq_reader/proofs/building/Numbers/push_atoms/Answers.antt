-- The first atom, and then the others.
use Rattle.ucq_reader.specs.Building.{form_atom, atom_symbols}
use Rattle.ucq_reader.proofs.Built.{room_left, several_built, length-several}
use Rattle.ucq_reader.proofs.building.Numbers.push_atoms.Goals as goal

pub push_each-requires-clause-room : goal.push_each-requires-clause-room
push_each-requires-clause-room c =
    room_left c.args.self.now c.atom.new.self (atom_symbols (form_atom c.args.text.now c.args.declarations.now c.args.forms.now.first)) _ _ c.in_ok-atom.ensures.numbered
    (length-several c.args.text.now c.args.declarations.now c.args.forms.now c.as_slice.result.now c.as_slice.ensures.value) c.requires.room

pub returns : goal.returns
returns c =
    let built =
    several_built c.args.text.now c.args.declarations.now c.args.forms.now c.as_slice.result.now c.args.self.now c.atom.new.self c.push_each.new.self c.in_ok-atom.atom c.args.built.now.items
    c.push.new.self.items c.push_each.new.built.items c.as_slice.ensures.value c.in_ok-push.ensures.items c.in_ok-atom.ensures.numbered c.in_ok-atom.ensures.atom
    c.in_ok-push_each.ensures.numbered c.in_ok-push_each.ensures.atoms in
    record { numbered = built.numbered; atoms = built.atoms; err = tt }
