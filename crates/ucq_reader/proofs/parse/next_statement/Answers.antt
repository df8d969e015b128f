use Rattle.std.proofs.Common.{◌<◌, ◌+◌, ℕ, arith, refl, sym, subst, length}
use Rattle.std.proofs.lemmas.List.{length-drop}
use Rattle.ucq_reader.specs.File.{IsBadStatement}
use Rattle.ucq_reader.specs.Input.{words}
use Rattle.ucq_reader.specs.declared.stages.Ending.TheVariants.{Bad, Unfinished}
use Rattle.ucq_reader.proofs.Parsing.{rest_in, ending_is, bad_here, open_here, start_at}
use Rattle.ucq_reader.proofs.parse.next_statement.Goals as goal

pub statement-requires : goal.statement-requires
statement-requires c = rest_in c.args.text.now c.args.tokens.now _ c.args.place c.requires.spells

pub returns-in-Bad-clause-fault : goal.returns-in-Bad-clause-fault
returns-in-Bad-clause-fault c = λ before number reads.
    let ts = c.args.tokens.now in
    let place = c.args.place in
    let e = ending_is c.args.text.now ts ts place c.in_ok-form.field-0 (Bad c.in-Bad.count) refl c.in-Bad.is c.in_ok-form.ensures in
    let b = bad_here c.args.text.now ts before place c.in-Bad.count (omega (arith, c.requires.inside)) reads e in
    let inside : place + c.in-Bad.count < length ts = omega (arith, e.0, length-drop place ts) in
    (refl, ts, place + c.in-Bad.count, c.requires.spells, subst (λ (n : ℕ). IsBadStatement (words c.args.text.now ts) n (place + c.in-Bad.count)) (sym number) b, start_at ts (place + c.in-Bad.count) _ inside)

pub returns-in-Unfinished-clause-fault : goal.returns-in-Unfinished-clause-fault
returns-in-Unfinished-clause-fault c = λ before number reads.
    let ts = c.args.tokens.now in
    let e = ending_is c.args.text.now ts ts c.args.place c.in_ok-form.field-0 Unfinished refl c.in-Unfinished.is c.in_ok-form.ensures in
    let o = open_here c.args.text.now ts before c.args.place c.requires.inside reads e in
    (refl, ts, c.args.place, c.requires.spells, o, start_at ts c.args.place _ c.requires.inside)
