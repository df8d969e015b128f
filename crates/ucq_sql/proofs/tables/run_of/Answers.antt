use Rattle.std.proofs.Common.{◌≡◌, ◌<◌, length, get_or, sym, ap, ◌∙◌, subst, arith}
use Rattle.std.proofs.lemmas.List.Elements.{All-more}
use Rattle.std.proofs.lemmas.Option.{slice_get_within}
use Rattle.ucq_sql.specs.Tables.{IsOfTable}
use Rattle.ucq_sql.proofs.tables.run_of.Goals as goal

pub loop-fact-preserved : goal.loop-fact-preserved
loop-fact-preserved c =
    let facts = c.args.facts.now in
    let count = c.loop-fact.count in
    let a = c.fact-item.result in
    let place = c.loop-fact.invariant.place in
    let inside : count < length facts = omega (arith, place, c.loop-fact-test.true) in
    let here : a ≡ get_or facts count a = c.fact-item.is ∙ ap (λ n. get_or facts n a) (sym place) in
    record {
      of_table = All-more (IsOfTable c.args.table) facts count a inside c.loop-fact.invariant.of_table (subst (IsOfTable c.args.table) here (c.is_of_table.ensures.0 c.if-not-is_of_table.false));
      place = omega (arith, place);
      few = omega (arith, c.loop-fact.invariant.few, c.if-count-most.false);
    }

pub returns : goal.returns
returns c =
    let facts = c.args.facts.now in
    let count = c.loop-fact.count in
    let place = c.loop-fact.invariant.place in
    let all : count ≡ length facts = omega (arith, place) in
    record {
      of_table = c.loop-fact.invariant.of_table;
      within = omega arith;
      few = c.loop-fact.invariant.few;
      ends = λ fact more stands. absurd (let inside = slice_get_within facts count fact stands in omega arith);
    }
