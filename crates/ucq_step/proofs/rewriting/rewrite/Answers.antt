use Rattle.std.proofs.Common.{List, length, Contains, ap, subst, arith}
use Rattle.ucq_terms.specs.declared.Term.{Term}
use Rattle.ucq_terms.specs.declared.Term.TheVariants.{Variable}
use Rattle.ucq_terms.specs.Syntax.{Atom, OccursIn}
use Rattle.ucq_terms.specs.Query.{IsQueryFault}
use Rattle.ucq_step.proofs.Told.{few_members, few_built, IsRewrittenAt-new, IsTooWide-new, no_loose-new, answers_built, atoms_built}
use Rattle.ucq_step.proofs.rewriting.rewrite.Goals as goal

pub named_terms-requires-clause-low : goal.named_terms-requires-clause-low
named_terms-requires-clause-low c = λ v i.
    c.requires.told.names.of_query v
    (c.answers.ensures.stored.safe.answers v (subst (λ (ts : List Term). Contains ts (Variable v)) c.answers.ensures.answers i))

pub named_bodies-requires-clause-few : goal.named_bodies-requires-clause-few
named_bodies-requires-clause-few c =
    let few =
    few_members c.args.query.now c.args.rule.now c.args.pieces.now c.args.joined.now c.requires.pieces c.requires.told c.answers.ensures.stored c.body.ensures.kept in
    omega (arith, few)

pub named_bodies-requires-clause-low : goal.named_bodies-requires-clause-low
named_bodies-requires-clause-low c = λ v o.
    c.requires.told.names.of_body v (subst (λ (xs : List Atom). OccursIn xs (Variable v)) c.body.ensures.body o)

pub new-requires-clause-few : goal.new-requires-clause-few
new-requires-clause-few c =
    let few = few_built c.args.query.now c.args.rule.now c.args.pieces.now c.args.joined.now c.requires.pieces c.requires.told c.answers.ensures.stored c.body.ensures.kept in
    let same = ap length (atoms_built c.args.query.now c.args.rule.now c.args.pieces.now c.args.joined.now c.requires.pieces c.requires.told c.answers.ensures.stored c.body.ensures.kept _ _ _ c.body.ensures.body c.in_ok-atoms.ensures c.in_ok-push_rest.ensures) in
    omega (arith, few, same)

pub unreachable-requires : goal.unreachable-requires
unreachable-requires c =
    no_loose-new c.args.query.now c.args.rule.now c.args.pieces.now c.args.joined.now c.requires.pieces c.requires.told c.answers.ensures.stored c.body.ensures.kept c.in_ok-answers.answers.items c.push_rest.new.atoms.items c.in-Err-Unsafe.field-0-0
    (answers_built c.args.query.now c.args.rule.now c.args.pieces.now c.args.joined.now c.requires.pieces c.requires.told c.answers.ensures.stored c.body.ensures.kept _ _ c.answers.ensures.answers c.in_ok-answers.ensures)
    (atoms_built c.args.query.now c.args.rule.now c.args.pieces.now c.args.joined.now c.requires.pieces c.requires.told c.answers.ensures.stored c.body.ensures.kept _ _ _ c.body.ensures.body c.in_ok-atoms.ensures c.in_ok-push_rest.ensures)
    (subst (IsQueryFault (record { answers = c.in_ok-answers.answers.items; atoms = c.push_rest.new.atoms.items })) c.in-Err-Unsafe.field-0-is c.in-Err-Unsafe.ensures.fault)

pub returns-in-Ok : goal.returns-in-Ok
returns-in-Ok c =
    IsRewrittenAt-new c.args.query.now c.args.rule.now c.args.pieces.now c.args.joined.now c.requires.pieces c.requires.told c.answers.ensures.stored c.body.ensures.kept c.in_ok-answers.answers.items c.push_rest.new.atoms.items c.in-Ok.rewriting
    (answers_built c.args.query.now c.args.rule.now c.args.pieces.now c.args.joined.now c.requires.pieces c.requires.told c.answers.ensures.stored c.body.ensures.kept _ _ c.answers.ensures.answers c.in_ok-answers.ensures)
    (atoms_built c.args.query.now c.args.rule.now c.args.pieces.now c.args.joined.now c.requires.pieces c.requires.told c.answers.ensures.stored c.body.ensures.kept _ _ _ c.body.ensures.body c.in_ok-atoms.ensures c.in_ok-push_rest.ensures)
    c.in-Ok.ensures.query c.in-Ok.ensures.stored.few_atoms

pub returns-in-Err-TooManyAtoms : goal.returns-in-Err-TooManyAtoms
returns-in-Err-TooManyAtoms c =
    IsTooWide-new c.args.query.now c.args.rule.now c.args.pieces.now c.args.joined.now c.requires.pieces c.requires.told c.answers.ensures.stored c.body.ensures.kept c.in_ok-answers.answers.items c.push_rest.new.atoms.items c.in-Err-TooManyAtoms.count
    (answers_built c.args.query.now c.args.rule.now c.args.pieces.now c.args.joined.now c.requires.pieces c.requires.told c.answers.ensures.stored c.body.ensures.kept _ _ c.answers.ensures.answers c.in_ok-answers.ensures)
    (atoms_built c.args.query.now c.args.rule.now c.args.pieces.now c.args.joined.now c.requires.pieces c.requires.told c.answers.ensures.stored c.body.ensures.kept _ _ _ c.body.ensures.body c.in_ok-atoms.ensures c.in_ok-push_rest.ensures)
    (subst (IsQueryFault (record { answers = c.in_ok-answers.answers.items; atoms = c.push_rest.new.atoms.items })) c.in-Err-TooManyAtoms.field-0-is c.in-Err-TooManyAtoms.ensures.fault)
