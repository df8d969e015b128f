-- The statement has no variables, so no unknown values come.
use Rattle.std.proofs.Common.{refl}
use Rattle.ucq_reader.proofs.Making.{fact_added}
use Rattle.ucq_reader.proofs.made.Parts.push_last_fact.Goals as goal

pub returns : goal.returns
returns c =
    let added =
    fact_added c.self.inside.names c.unary.new.names c.as_slice.result.now c.as_slice-2.result.now c.in_ok-fact.fact c.self.inside.facts.items c.push.new.self.items c.as_slice.ensures
    c.as_slice-2.ensures c.in_ok-fact.ensures.names c.in_ok-fact.ensures.atom c.in_ok-push.ensures.items in
    rw (← c.self.view_is) (record { names = added.names; rules = refl; facts = added.facts; unknowns = refl; queries = refl; asked = refl })
