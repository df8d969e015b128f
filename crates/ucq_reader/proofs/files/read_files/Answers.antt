use Rattle.std.proofs.Common.{◌≤◌, ◌∙◌, List, ℕ, length, ap, refl, arith, subst}
use Rattle.std.proofs.lemmas.List.{length-map}
use Rattle.std.proofs.lemmas.Result.{err_from_is_err_and}
use Rattle.std.specs.declared.vec.Vec.{Vec}
use Rattle.std.specs.declared.alloc.Global.{Global}
use Rattle.ucq_reader.specs.Input.{IsRefused}
use Rattle.ucq_reader.specs.Outcome.{texts, input_value, IsFileFault, IsFileTaken}
use Rattle.ucq_reader.proofs.Counting.{rules_gathered, rules_few, facts_gathered, facts_few, queries_held}
use Rattle.ucq_reader.proofs.InTurn.{start, text_here, room, step, refused, whole_refused, whole_input}
use Rattle.ucq_reader.proofs.Taking.{or_memory, or_memory_map}
use Rattle.ucq_reader.proofs.files.read_files.Goals as goal

pub loop-file-init : goal.loop-file-init
loop-file-init c = start (texts c.args.files.now) c.in_ok-gathered.gathered c.in_ok-gathered.ensures.gathered c.in_ok-gathered.ensures.none.0 c.in_ok-gathered.ensures.none.1 c.in_ok-gathered.ensures.none.2

pub take_file-requires-clause-text : goal.take_file-requires-clause-text
take_file-requires-clause-text c =
    let e = text_here c.args.files.now c.loop-file.file c.index-files-file.result c.loop-file-test.true c.index-files-file.is in
    let has = room (texts c.args.files.now) c.loop-file.file c.loop-file.gathered c.index-files-file.result.items c.loop-file.invariant e in
    rw c.as_slice.ensures.value (omega (arith, has.small, c.requires.small))

pub take_file-requires-clause-names : goal.take_file-requires-clause-names
take_file-requires-clause-names c =
    let e = text_here c.args.files.now c.loop-file.file c.index-files-file.result c.loop-file-test.true c.index-files-file.is in
    let has = room (texts c.args.files.now) c.loop-file.file c.loop-file.gathered c.index-files-file.result.items c.loop-file.invariant e in
    rw c.as_slice.ensures.value (omega (arith, has.names, c.requires.small))

pub take_file-requires-clause-unknowns : goal.take_file-requires-clause-unknowns
take_file-requires-clause-unknowns c =
    let e = text_here c.args.files.now c.loop-file.file c.index-files-file.result c.loop-file-test.true c.index-files-file.is in
    let has = room (texts c.args.files.now) c.loop-file.file c.loop-file.gathered c.index-files-file.result.items c.loop-file.invariant e in
    rw c.as_slice.ensures.value (omega (arith, has.unknowns, c.requires.small))

pub take_file-requires-clause-asked : goal.take_file-requires-clause-asked
take_file-requires-clause-asked c =
    let e = text_here c.args.files.now c.loop-file.file c.index-files-file.result c.loop-file-test.true c.index-files-file.is in
    let has = room (texts c.args.files.now) c.loop-file.file c.loop-file.gathered c.index-files-file.result.items c.loop-file.invariant e in
    rw c.as_slice.ensures.value (omega (arith, has.asked, c.requires.small))

pub returns-in_err-take_file-clause-fault : goal.returns-in_err-take_file-clause-fault
returns-in_err-take_file-clause-fault c =
    let e = text_here c.args.files.now c.loop-file.file c.index-files-file.result c.loop-file-test.true c.index-files-file.is in
    let p = err_from_is_err_and c.from_residual-in_err-take_file.result c.from_residual-in_err-take_file.ensures.1 in
    rw (p.1, p.2) (or_memory_map (IsFileFault c.loop-file.file c.index-files-file.result.items) (IsRefused (texts c.args.files.now)) (refused (texts c.args.files.now) c.loop-file.file c.loop-file.gathered c.index-files-file.result.items c.loop-file.invariant e) c.in_err-take_file.field-0.0 (rw c.as_slice.ensures.value at c.in_err-take_file.ensures.fault))

pub loop-file-preserved : goal.loop-file-preserved
loop-file-preserved c =
    let e = text_here c.args.files.now c.loop-file.file c.index-files-file.result c.loop-file-test.true c.index-files-file.is in
    step (texts c.args.files.now) c.loop-file.file c.loop-file.gathered c.take_file.new.gathered c.index-files-file.result.items c.loop-file.invariant e (subst (λ (text : List ℕ). IsFileTaken c.loop-file.file text c.loop-file.gathered c.take_file.new.gathered) c.as_slice.ensures.value c.in_ok-take_file.ensures.taken)

pub whole_fault-requires-clause-rules : goal.whole_fault-requires-clause-rules
whole_fault-requires-clause-rules c =
    let t = c.loop-file.invariant in
    omega (arith, rules_gathered t.all c.loop-file.gathered t.gathered, rules_few t.all, t.few, c.requires.small)

pub whole_fault-requires-clause-facts : goal.whole_fault-requires-clause-facts
whole_fault-requires-clause-facts c =
    let t = c.loop-file.invariant in
    omega (arith, facts_gathered t.all c.loop-file.gathered t.gathered, facts_few t.all, t.few, c.requires.small)

pub returns-in-Some-clause-fault : goal.returns-in-Some-clause-fault
returns-in-Some-clause-fault c =
    let ended : length (texts c.args.files.now) ≤ c.loop-file.file = omega (arith, length-map c.args.files.now (λ (f : Vec ℕ Global). f.items), c.loop-file-test.false) in
    let t = c.loop-file.invariant in
    or_memory (IsRefused (texts c.args.files.now)) c.in-Some.fault (whole_refused (texts c.args.files.now) c.loop-file.file c.loop-file.gathered t ended c.in-Some.fault (c.in-Some.ensures.whole t.all t.gathered))

pub returns-in-None-clause-input : goal.returns-in-None-clause-input
returns-in-None-clause-input c =
    let ended : length (texts c.args.files.now) ≤ c.loop-file.file = omega (arith, length-map c.args.files.now (λ (f : Vec ℕ Global). f.items), c.loop-file-test.false) in
    let t = c.loop-file.invariant in
    let parts = c.into_input.ensures in
    whole_input (texts c.args.files.now) c.loop-file.file c.loop-file.gathered t ended (c.in-None.ensures.whole t.all t.gathered) (input_value c.into_input.result) (record { names = parts.names; rules = parts.rules; facts = parts.facts; queries = parts.queries })

pub returns-in-None-clause-queries : goal.returns-in-None-clause-queries
returns-in-None-clause-queries c =
    let t = c.loop-file.invariant in
    let held = queries_held t.all c.loop-file.gathered t.gathered (c.in-None.ensures.few_queries refl) in
    let count = ap length c.into_input.ensures.queries ∙ held in
    (omega (arith, count, c.in-None.ensures.some_query refl), omega (arith, count, c.in-None.ensures.few_queries refl))
