-- The variables of a fact statement come after all unknown values so far.
use Rattle.std.proofs.Common.{◌+◌, ℕ, length, arith, ap, ◌∙◌, refl}
use Rattle.ucq_reader.specs.Meaning.{symbol_atoms}
use Rattle.ucq_reader.specs.View.{declared_view, atoms_view}
use Rattle.ucq_reader.proofs.Sentences.{fact_built}
use Rattle.ucq_reader.proofs.Gathering.{unknowns_grown}
use Rattle.ucq_reader.proofs.gathered.Gathered.add_fact.Goals as goal

pub overflow_add-self : goal.overflow_add-self
overflow_add-self c =
    let f = symbol_atoms (declared_view c.args.text.now c.args.declarations.now) (atoms_view c.args.text.now c.args.atoms.now) in
    let built = fact_built c.self.inside.numbers c.begin.new.self c.push_atoms.new.self c.self.inside.unknowns f c.self.inside.facts.items c.push_atoms.new.built.items
    (record { names = c.in_ok-begin.ensures.names; variables = c.in_ok-begin.ensures.variables; first_is = c.in_ok-begin.ensures.first }) c.in_ok-push_atoms.ensures.numbered c.in_ok-push_atoms.ensures.atoms in
    let room = rw (← c.self.view_is) at c.requires.unknowns in
    omega (arith, c.len.ensures.len, ap length built.variables, unknowns_grown f, room)

pub returns-clause-added : goal.returns-clause-added
returns-clause-added c =
    let f = symbol_atoms (declared_view c.args.text.now c.args.declarations.now) (atoms_view c.args.text.now c.args.atoms.now) in
    let built = fact_built c.self.inside.numbers c.begin.new.self c.push_atoms.new.self c.self.inside.unknowns f c.self.inside.facts.items c.push_atoms.new.built.items
    (record { names = c.in_ok-begin.ensures.names; variables = c.in_ok-begin.ensures.variables; first_is = c.in_ok-begin.ensures.first }) c.in_ok-push_atoms.ensures.numbered c.in_ok-push_atoms.ensures.atoms in
    rw (← c.self.view_is) (record {
      names = built.names;
      rules = refl;
      facts = built.facts;
      unknowns = ap (λ (k : ℕ). c.self.inside.unknowns + k) (c.len.ensures.len ∙ ap length built.variables);
      queries = refl;
      asked = refl;
    })
