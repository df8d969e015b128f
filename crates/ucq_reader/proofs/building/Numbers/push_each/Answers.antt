-- One more atom after those that were taken.
use Rattle.std.proofs.Common.{map, take, arith, length}
use Rattle.ucq_reader.specs.Building.{form_atom, symbols_in}
use Rattle.ucq_reader.proofs.Built.{room_left, atoms_step_at, length-symbols_taken}
use Rattle.ucq_reader.proofs.building.Numbers.push_each.Goals as goal

pub atom-requires-clause-room : goal.atom-requires-clause-room
atom-requires-clause-room c =
    let f = form_atom c.args.text.now c.args.declarations.now in
    room_left c.args.self.now c.loop-form.self (symbols_in (map f (take c.loop-form.form-index c.args.forms.now))) _ (length (symbols_in (map f c.args.forms.now))) c.loop-form.invariant.numbered
    (length-symbols_taken f c.args.forms.now c.loop-form.form-index c.form-item.result c.form-item.result (omega arith) c.form-item.is) c.requires.room

pub loop-form-preserved : goal.loop-form-preserved
loop-form-preserved c =
    rw c.in_ok-push.ensures.items
    (atoms_step_at (form_atom c.args.text.now c.args.declarations.now) c.args.forms.now c.loop-form.form-index c.form-item.result c.form-item.result c.args.self.now c.loop-form.self c.atom.new.self
    c.args.built.now.items c.loop-form.built.items c.in_ok-atom.atom (omega arith) c.form-item.is c.loop-form.invariant c.in_ok-atom.ensures.numbered c.in_ok-atom.ensures.atom)
