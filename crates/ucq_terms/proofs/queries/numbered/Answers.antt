-- The numbered parts make a stored query.
use Rattle.std.proofs.Common.{ap, ◌∙◌, sym, arith, length}
use Rattle.std.proofs.lemmas.List.{with_items_is}
use Rattle.std.specs.Vec.{with_items}
use Rattle.ucq_terms.specs.Query.{IsNumberedFrom, IsStored}
use Rattle.ucq_terms.proofs.Normal.{IsNumberedFrom-same, IsStored-from}
use Rattle.ucq_terms.proofs.queries.numbered.Goals as goal

made : (c : goal.In_ok-number) →
    IsNumberedFrom (record { answers = c.args.answers.items; atoms = c.args.atoms.items })
    (record { answers = (with_items c.args.answers c.number.new.answers).items; atoms = (with_items c.args.atoms c.number.new.atoms).items })
made c =
    let answers = c.as_mut_slice.ensures.value in
    let atoms = c.as_mut_slice-2.ensures.value in
    IsNumberedFrom-same _ _ _ _ _ _ _ _ answers atoms
    (with_items_is c.args.answers c.number.new.answers (c.number.auto.answers ∙ (ap length answers ∙ sym c.args.answers.ok.0)))
    (with_items_is c.args.atoms c.number.new.atoms (c.number.auto.atoms ∙ (ap length atoms ∙ sym c.args.atoms.ok.0)))
    c.in_ok-number.ensures

stored : (c : goal.In_ok-number) →
    IsStored (record { answers = (with_items c.args.answers c.number.new.answers).items; atoms = (with_items c.args.atoms c.number.new.atoms).items })
stored c =
    IsStored-from (record { answers = c.args.answers.items; atoms = c.args.atoms.items }) _ (made c) c.requires.safe c.requires.once
    (omega (arith, c.requires.few_answers, c.args.answers.ok.0)) (omega (arith, c.requires.few_atoms, c.args.atoms.ok.0))

pub invariant_of-result : goal.invariant_of-result
invariant_of-result c = stored c

pub returns : goal.returns
returns c = record { query = (made c).same; stored = stored c }
