use Rattle.std.proofs.Common.{arith, rules, ◌∷◌, []}
use Rattle.std.proofs.lemmas.List.{length-append}
use Rattle.ucq_run.proofs.OverFacts.{one_fact_more, one_longer}
use Rattle.ucq_run.proofs.over_facts.facts_of.Goals as goal

pub loop-atom-preserved : goal.loop-atom-preserved
loop-atom-preserved c =
    let does = c.in_ok-add.ensures.does in
    let longer = one_longer c.loop-atom.facts c.add.new.self c.in-Some.atom c.in_ok-add.field-0 does in
    let more = length-append c.loop-atom.yielded (c.in-Some.atom ∷ []) in
    record {
      same = one_fact_more c.loop-atom.facts c.loop-atom.yielded c.add.new.self c.in-Some.atom c.in_ok-add.field-0 c.loop-atom.invariant.same does;
      few = omega (arith, longer, more, c.loop-atom.invariant.few);
      left = search rules;
    }
