use Rattle.std.proofs.Common.{◌+◌, ◌-◌, List, length, drop, Option, refl, subst, sym, arith}
use Rattle.std.proofs.lemmas.List.{length-drop, length-take}
use Rattle.std.proofs.lemmas.Result.{err_from_is_err_and}
use Rattle.ucq_reader.specs.declared.ReadFault.{ReadFault}
use Rattle.ucq_reader.specs.Meaning.{malformed}
use Rattle.ucq_reader.specs.Outcome.{IsFileFault, IsAdmitted, IsJudged}
use Rattle.ucq_reader.specs.inner.Placing.{IsSpelledBy, placed_view}
use Rattle.ucq_lexer.specs.declared.Token.{Token}
use Rattle.ucq_reader.specs.inner.Parse.{IsNoStatement}
use Rattle.ucq_reader.proofs.Parsing.{tokens_count}
use Rattle.ucq_reader.proofs.Taking.{AreJudged, start, within, some, spelled, judge, between, finish, refused, or_memory_map, taken_in}
use Rattle.ucq_reader.proofs.files.take_statements.Goals as goal

pub loop-place-init : goal.loop-place-init
loop-place-init c = rw c.new-declarations.ensures.items (start c.args.file c.args.text.now c.args.tokens.now c.args.gathered.now)

pub returns-in_err-next-clause-fault : goal.returns-in_err-next-clause-fault
returns-in_err-next-clause-fault c =
    let inv = c.loop-place.invariant in
    let p = err_from_is_err_and c.from_residual.result c.from_residual.ensures.1 in
    rw (p.1, p.2) (or_memory_map (IsNoStatement c.args.file c.loop-place.number c.args.text.now c.args.tokens.now c.loop-place.place) (IsFileFault c.args.file c.args.text.now) (λ f r. (malformed f, r inv.before inv.read.numbered inv.read.reads, refl)) c.in_err-next.field-0.0 c.in_err-next.ensures.fault)

pub overflow_add-number : goal.overflow_add-number
overflow_add-number c =
    let few = c.loop-place.invariant.read.few in
    let count = tokens_count c.args.text.now c.args.tokens.now c.requires.spells in
    omega (arith, few, count, c.requires.text, c.loop-place-test.true)

pub loop-place-smaller : goal.loop-place-smaller
loop-place-smaller c =
    let inv = c.loop-place.invariant in
    let ts = c.args.tokens.now in
    let k = some c.args.file c.args.text.now ts c.loop-place.place c.loop-place.number c.in_ok-next.next.form c.in_ok-next.next.count inv.before inv.read c.in_ok-next.ensures.found in
    let w = within c.args.file c.args.text.now ts c.loop-place.place c.loop-place.number c.in_ok-next.next.form c.in_ok-next.next.count inv.before inv.read c.in_ok-next.ensures.found in
    omega (arith, k, w)

pub judge-refusal-requires-clause-tokens : goal.judge-refusal-requires-clause-tokens
judge-refusal-requires-clause-tokens c =
    let count = tokens_count c.args.text.now c.args.tokens.now c.requires.spells in
    omega (arith, count, c.requires.text, length-drop c.loop-place.place c.args.tokens.now, length-take (c.loop-place.place + c.in_ok-next.next.count - c.loop-place.place) (drop c.loop-place.place c.args.tokens.now))

pub judge-refusal-requires-clause-spelled : goal.judge-refusal-requires-clause-spelled
judge-refusal-requires-clause-spelled c =
    let inv = c.loop-place.invariant in
    let ts = c.args.tokens.now in
    subst (λ (us : List Token). IsSpelledBy c.args.text.now us c.in_ok-next.next.form) (sym (between ts c.loop-place.place c.in_ok-next.next.count))
    (spelled c.args.file c.args.text.now ts c.loop-place.place c.loop-place.number c.in_ok-next.next.form c.in_ok-next.next.count inv.before inv.read c.in_ok-next.ensures.found)

pub judge-refusal-requires-clause-names : goal.judge-refusal-requires-clause-names
judge-refusal-requires-clause-names c = λ e.
    let inv = c.loop-place.invariant in
    let ts = c.args.tokens.now in
    let t = taken_in c.args.file c.args.text.now ts c.loop-place.place c.loop-place.number inv.before c.loop-place.declarations.items c.loop-place.refusal c.args.gathered.now c.loop-place.gathered inv.judged e in
    let w = within c.args.file c.args.text.now ts c.loop-place.place c.loop-place.number c.in_ok-next.next.form c.in_ok-next.next.count inv.before inv.read c.in_ok-next.ensures.found in
    let count = tokens_count c.args.text.now ts c.requires.spells in
    omega (arith, t.names, w, count, c.requires.names, length-drop c.loop-place.place ts, length-take (c.loop-place.place + c.in_ok-next.next.count - c.loop-place.place) (drop c.loop-place.place ts))

pub judge-refusal-requires-clause-unknowns : goal.judge-refusal-requires-clause-unknowns
judge-refusal-requires-clause-unknowns c = λ e.
    let inv = c.loop-place.invariant in
    let ts = c.args.tokens.now in
    let t = taken_in c.args.file c.args.text.now ts c.loop-place.place c.loop-place.number inv.before c.loop-place.declarations.items c.loop-place.refusal c.args.gathered.now c.loop-place.gathered inv.judged e in
    let w = within c.args.file c.args.text.now ts c.loop-place.place c.loop-place.number c.in_ok-next.next.form c.in_ok-next.next.count inv.before inv.read c.in_ok-next.ensures.found in
    let count = tokens_count c.args.text.now ts c.requires.spells in
    omega (arith, t.unknowns, w, count, c.requires.unknowns, length-drop c.loop-place.place ts, length-take (c.loop-place.place + c.in_ok-next.next.count - c.loop-place.place) (drop c.loop-place.place ts))

pub judge-refusal-requires-clause-asked : goal.judge-refusal-requires-clause-asked
judge-refusal-requires-clause-asked c = λ e.
    let inv = c.loop-place.invariant in
    let ts = c.args.tokens.now in
    let t = taken_in c.args.file c.args.text.now ts c.loop-place.place c.loop-place.number inv.before c.loop-place.declarations.items c.loop-place.refusal c.args.gathered.now c.loop-place.gathered inv.judged e in
    let w = within c.args.file c.args.text.now ts c.loop-place.place c.loop-place.number c.in_ok-next.next.form c.in_ok-next.next.count inv.before inv.read c.in_ok-next.ensures.found in
    let count = tokens_count c.args.text.now ts c.requires.spells in
    omega (arith, t.asked, w, count, c.requires.asked, length-drop c.loop-place.place ts, length-take (c.loop-place.place + c.in_ok-next.next.count - c.loop-place.place) (drop c.loop-place.place ts))

pub loop-place-preserved : goal.loop-place-preserved
loop-place-preserved c =
    let inv = c.loop-place.invariant in
    let ts = c.args.tokens.now in
    let place = c.loop-place.place in
    let form = c.in_ok-next.next.form in
    let count = c.in_ok-next.next.count in
    judge c.args.file c.args.text.now ts place c.loop-place.number form count inv.before inv.read c.in_ok-next.ensures.found
    c.loop-place.declarations.items c.judge-refusal.new.declarations.items c.loop-place.refusal c.judge-refusal.result c.args.gathered.now c.loop-place.gathered c.judge-refusal.new.gathered inv.judged
    (subst (λ (us : List Token). IsJudged c.loop-place.refusal (placed_view c.args.file c.loop-place.number c.args.text.now c.loop-place.declarations.items us form)
    (IsAdmitted c.args.text.now (placed_view c.args.file c.loop-place.number c.args.text.now c.loop-place.declarations.items us form) (length us) c.loop-place.declarations.items c.judge-refusal.new.declarations.items c.loop-place.gathered c.judge-refusal.new.gathered)
    c.judge-refusal.result) (between ts place count) c.judge-refusal.ensures)

pub returns-in-Some-clause-fault : goal.returns-in-Some-clause-fault
returns-in-Some-clause-fault c =
    let inv = c.loop-place.invariant in
    let ts = c.args.tokens.now in
    let judged = subst (λ (o : Option ReadFault). AreJudged c.args.file c.args.text.now ts c.loop-place.place c.loop-place.number inv.before c.loop-place.declarations.items o c.args.gathered.now c.loop-place.gathered) c.in-Some.is inv.judged in
    refused c.args.file c.args.text.now ts c.loop-place.place c.loop-place.number inv.before c.requires.spells inv.read (omega (arith, c.loop-place-test.false)) c.in-Some.fault judged

pub returns-clause-taken : goal.returns-clause-taken
returns-clause-taken c =
    let inv = c.loop-place.invariant in
    let ts = c.args.tokens.now in
    let taken = taken_in c.args.file c.args.text.now ts c.loop-place.place c.loop-place.number inv.before c.loop-place.declarations.items c.loop-place.refusal c.args.gathered.now c.loop-place.gathered inv.judged c.in-None.is in
    finish c.args.file c.args.text.now ts c.loop-place.place c.loop-place.number inv.before c.requires.spells inv.read (omega (arith, c.loop-place-test.false)) c.loop-place.declarations.items c.args.gathered.now c.loop-place.gathered taken
