use Rattle.std.proofs.Common.{◌≤◌, ◌^◌, length, arith}
use Rattle.ucq_reader.specs.Statement.{spelling}
use Rattle.ucq_reader.specs.View.{statement_view}
use Rattle.ucq_reader.proofs.Sizes.{wide_at_most, answers_at_most, atoms_at_most, spelled_length}
use Rattle.ucq_reader.proofs.faults.passed_limit.Goals as goal

pub returns-in-Some-wide_atom_of-clause-small : goal.returns-in-Some-wide_atom_of-clause-small
returns-in-Some-wide_atom_of-clause-small c =
    let few : length (spelling (statement_view c.args.text.now c.args.form.now)) ≤ 2 ^ 28 = omega (arith, spelled_length c.args.text.now c.args.tokens.now c.args.form.now c.requires.spelled, c.requires.tokens) in
    wide_at_most (statement_view c.args.text.now c.args.form.now) (2 ^ 28) _ few (c.in-Some-wide_atom_of.ensures c.args.text.now)

pub returns-in-Some-many_answers-clause-small : goal.returns-in-Some-many_answers-clause-small
returns-in-Some-many_answers-clause-small c =
    let few : length (spelling (statement_view c.args.text.now c.args.form.now)) ≤ 2 ^ 28 = omega (arith, spelled_length c.args.text.now c.args.tokens.now c.args.form.now c.requires.spelled, c.requires.tokens) in
    answers_at_most (statement_view c.args.text.now c.args.form.now) (2 ^ 28) _ few (c.in-Some-many_answers.ensures c.args.text.now)

pub returns-in-Some-many_atoms_of-clause-small : goal.returns-in-Some-many_atoms_of-clause-small
returns-in-Some-many_atoms_of-clause-small c =
    let few : length (spelling (statement_view c.args.text.now c.args.form.now)) ≤ 2 ^ 28 = omega (arith, spelled_length c.args.text.now c.args.tokens.now c.args.form.now c.requires.spelled, c.requires.tokens) in
    atoms_at_most (statement_view c.args.text.now c.args.form.now) (2 ^ 28) _ few (c.in-Some-many_atoms_of.ensures c.args.text.now)
