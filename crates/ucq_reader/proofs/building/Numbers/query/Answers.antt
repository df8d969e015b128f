-- A query whose variables are numbered by first occurrence keeps its numbers.
use Rattle.std.proofs.Common.{arith, sym, subst, map}
use Rattle.ucq_terms.specs.Syntax.{Query}
use Rattle.ucq_reader.specs.Meaning.{symbol, symbol_atoms, answer_terms}
use Rattle.ucq_reader.specs.Input.{IsQueryOf}
use Rattle.ucq_reader.specs.View.{declared_view, answers_view, atoms_view}
use Rattle.ucq_reader.specs.Building.{symbols_in, written_query}
use Rattle.ucq_reader.proofs.Sentences.{HasBegun, second_room, query_built, length-several_added}
use Rattle.ucq_reader.proofs.building.Numbers.query.Goals as goal

pub push_atoms-requires-clause-room : goal.push_atoms-requires-clause-room
push_atoms-requires-clause-room c =
    let ds = declared_view c.args.text.now c.args.declarations.now in
    let answers = map (symbol ds) (answer_terms (answers_view c.args.text.now c.args.answers.now)) in
    let atoms = symbols_in (symbol_atoms ds (atoms_view c.args.text.now c.args.body.now)) in
    let begun : HasBegun c.args.self.now c.begin.new.self 0 =
    record { names = c.in_ok-begin.ensures.names; variables = c.in_ok-begin.ensures.variables; first_is = c.in_ok-begin.ensures.first } in
    second_room c.args.self.now c.begin.new.self c.push_answers.new.self answers atoms begun c.in_ok-push_answers.ensures.numbered c.requires.names

pub stored_query-requires : goal.stored_query-requires
stored_query-requires c =
    let begun : HasBegun c.args.self.now c.begin.new.self 0 =
    record { names = c.in_ok-begin.ensures.names; variables = c.in_ok-begin.ensures.variables; first_is = c.in_ok-begin.ensures.first } in
    let built =
    query_built c.args.self.now c.begin.new.self c.push_answers.new.self c.push_atoms.new.self (written_query c.args.text.now c.args.declarations.now c.args.answers.now c.args.body.now)
    c.new-terms.result.items c.push_answers.new.built.items c.new-atoms.result.items c.push_atoms.new.built.items begun c.new-terms.ensures.items c.new-atoms.ensures.items
    c.in_ok-push_answers.ensures.numbered c.in_ok-push_answers.ensures.terms c.in_ok-push_atoms.ensures.numbered c.in_ok-push_atoms.ensures.atoms in
    let atoms = length-several_added c.args.text.now c.args.declarations.now c.args.body.now c.push_atoms.new.self c.new-atoms.result.items c.push_atoms.new.built.items
    c.new-atoms.ensures.items c.in_ok-push_atoms.ensures.atoms in
    record {
      few_answers = omega (arith, built.few, c.push_answers.new.built.ok, c.requires.few_answers);
      few_atoms = omega (arith, atoms, c.push_atoms.new.built.ok, c.requires.few_atoms);
      safe = built.safe c.requires.safe (omega arith);
    }

pub returns : goal.returns
returns c =
    let begun : HasBegun c.args.self.now c.begin.new.self 0 =
    record { names = c.in_ok-begin.ensures.names; variables = c.in_ok-begin.ensures.variables; first_is = c.in_ok-begin.ensures.first } in
    let built =
    query_built c.args.self.now c.begin.new.self c.push_answers.new.self c.push_atoms.new.self (written_query c.args.text.now c.args.declarations.now c.args.answers.now c.args.body.now)
    c.new-terms.result.items c.push_answers.new.built.items c.new-atoms.result.items c.push_atoms.new.built.items begun c.new-terms.ensures.items c.new-atoms.ensures.items
    c.in_ok-push_answers.ensures.numbered c.in_ok-push_answers.ensures.terms c.in_ok-push_atoms.ensures.numbered c.in_ok-push_atoms.ensures.atoms in
    record {
      names = built.names;
      query =
          subst (λ (q : Query). IsQueryOf c.push_atoms.new.self.names (written_query c.args.text.now c.args.declarations.now c.args.answers.now c.args.body.now) q)
          (sym c.in_ok-query.ensures.query) built.value;
      err = tt;
    }
