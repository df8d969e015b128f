-- The parts of an atom, one after another.
use Rattle.std.proofs.Common.{arith, subst, sym}
use Rattle.ucq_reader.specs.Building.{IsAtomOf, form_atom}
use Rattle.ucq_reader.proofs.Built.{form_built, length-form}
use Rattle.ucq_reader.proofs.building.Numbers.atom.Goals as goal

pub new-requires : goal.new-requires
new-requires c =
    let built =
    form_built c.args.text.now c.args.declarations.now c.args.form.now c.as_slice.result.now c.args.self.now c.name.new.self c.term.new.self c.push_terms.new.self c.in_ok-name.name
    c.in_ok-first.first c.in_ok-terms.terms.items c.push.new.self.items c.push_terms.new.built.items c.as_slice.ensures.value c.in_ok-terms.ensures.items c.in_ok-push.ensures.items
    c.in_ok-name.ensures.numbered c.in_ok-name.ensures.number c.in_ok-first.ensures.numbered c.in_ok-first.ensures.term c.in_ok-push_terms.ensures.numbered c.in_ok-push_terms.ensures.terms in
    let count = length-form c.args.text.now c.args.declarations.now c.args.form.now in
    record {
      some = omega (arith, built.arity, count, c.push_terms.new.built.ok);
      few = omega (arith, built.arity, count, c.push_terms.new.built.ok, c.requires.few);
    }

pub returns : goal.returns
returns c =
    let built =
    form_built c.args.text.now c.args.declarations.now c.args.form.now c.as_slice.result.now c.args.self.now c.name.new.self c.term.new.self c.push_terms.new.self c.in_ok-name.name
    c.in_ok-first.first c.in_ok-terms.terms.items c.push.new.self.items c.push_terms.new.built.items c.as_slice.ensures.value c.in_ok-terms.ensures.items c.in_ok-push.ensures.items
    c.in_ok-name.ensures.numbered c.in_ok-name.ensures.number c.in_ok-first.ensures.numbered c.in_ok-first.ensures.term c.in_ok-push_terms.ensures.numbered c.in_ok-push_terms.ensures.terms in
    record {
      numbered = built.numbered;
      atom = subst (IsAtomOf c.push_terms.new.self (form_atom c.args.text.now c.args.declarations.now c.args.form.now)) (sym c.new.ensures) built.atom;
      err = tt;
    }
